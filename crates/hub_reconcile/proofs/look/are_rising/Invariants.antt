use Rattle.std.proofs.Common.{◌≡◌, length}
use Rattle.hub_reconcile.specs.Picture.{are_rising, told_by}
use Rattle.hub_reconcile.proofs.look.are_rising.Given as goal

abbrev pub invariant-loop-rest : goal.invariant-loop-rest
invariant-loop-rest l = are_rising (told_by l.rest) ≡ are_rising (told_by l.looks)

abbrev pub decreases-loop-rest : goal.decreases-loop-rest
decreases-loop-rest l = length l.rest
