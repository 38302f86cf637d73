use Rattle.std.proofs.Common.{◌≡◌, length}
use Rattle.std.specs.Prelude.{IsTrue}
use Rattle.hub_reconcile.specs.Picture.{are_rising, sight_in, told_by}
use Rattle.hub_reconcile.proofs.parent.mark_in.Given as goal

abbrev pub invariant-loop-rest : goal.invariant-loop-rest
invariant-loop-rest l = IsTrue (are_rising (told_by l.rest)) × (sight_in (told_by l.looks) l.path ≡ sight_in (told_by l.rest) l.path)

abbrev pub decreases-loop-rest : goal.decreases-loop-rest
decreases-loop-rest l = length l.rest
