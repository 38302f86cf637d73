use Rattle.std.proofs.Common.{◌≡◌, ◌++◌, string_bytes, take}
use Rattle.std.specs.List.{flat_map}
use Rattle.hub_report.specs.Rounds.{line_in}
use Rattle.hub_report.proofs.rounds.push_round.Given as goal

abbrev pub invariant-loop-profile : goal.invariant-loop-profile
invariant-loop-profile l =
    string_bytes l.text ≡ string_bytes l.initial.text ++ flat_map (line_in l.number) (take l.profile-index l.profiles)
