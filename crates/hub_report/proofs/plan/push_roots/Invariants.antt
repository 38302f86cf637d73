use Rattle.std.proofs.Common.{◌≡◌, ◌++◌, drop, string_bytes}
use Rattle.hub_report.specs.Plan.{root_lines}
use Rattle.hub_report.proofs.plan.push_roots.Given as goal

abbrev pub invariant-loop-place : goal.invariant-loop-place
invariant-loop-place l =
    string_bytes l.text ++ root_lines l.numbers l.place (drop l.place l.profiles)
    ≡ string_bytes l.initial.text ++ root_lines l.numbers 0 l.profiles
