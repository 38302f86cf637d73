use Rattle.std.proofs.Common.{◌≡◌}
use Rattle.hub_glob.specs.Sweep as sweep
use Rattle.hub_glob.proofs.sweep.Walk.push_name.Given as goal

abbrev pub invariant-loop-character : goal.invariant-loop-character
invariant-loop-character l = l.self ≡ sweep.pushed_all l.parts l.initial.self l.yielded
