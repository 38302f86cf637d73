use Rattle.std.proofs.Common.{◌≡◌, ◌++◌, drop, string_bytes}
use Rattle.hub_report.specs.Graph.{profile_lines}
use Rattle.hub_report.proofs.graph.push_profiles.Given as goal

abbrev pub invariant-loop-profile : goal.invariant-loop-profile
invariant-loop-profile l = record {
  same : l.number ≡ l.profile-index;
  so_far : string_bytes l.text ++ profile_lines l.faults l.profile-index (drop l.profile-index l.profiles)
      ≡ string_bytes l.initial.text ++ profile_lines l.faults 0 l.profiles;
}
