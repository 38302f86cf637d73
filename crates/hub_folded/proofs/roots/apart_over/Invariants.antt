use Rattle.hub_folded.specs.Table.{unicode}
use Rattle.hub_folded.proofs.FirstPlaces.{LooksAt, left}
use Rattle.hub_folded.proofs.roots.apart_over.Given as goal

abbrev pub invariant-loop-next : goal.invariant-loop-next
invariant-loop-next l = LooksAt unicode l.roots l.root l.fn.folded l.next

abbrev pub decreases-loop-next : goal.decreases-loop-next
decreases-loop-next l = left l.next
