use Rattle.std.proofs.Common.{◌≡◌, drop}
use Rattle.std.specs.Prelude.{fold}
use Rattle.hub_runner.specs.Settling.{with_new}
use Rattle.hub_runner.proofs.comparison.push_all_new.Given as goal

abbrev pub invariant-loop-root : goal.invariant-loop-root
invariant-loop-root l = fold with_new l.roots.items (drop l.root-index l.own) ≡ fold with_new l.initial.roots.items l.own
