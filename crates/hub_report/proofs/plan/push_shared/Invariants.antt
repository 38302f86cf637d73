use Rattle.std.proofs.Common.{◌≡◌, ◌++◌, string_bytes, take}
use Rattle.hub_report.specs.Plan.{shared_lines}
use Rattle.hub_report.proofs.plan.push_shared.Given as goal

abbrev pub invariant-loop-archive : goal.invariant-loop-archive
invariant-loop-archive l =
    string_bytes l.text ≡ string_bytes l.initial.text ++ shared_lines l.numbers l.profiles (take l.archive-index l.archives)
