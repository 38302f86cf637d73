use Rattle.std.proofs.Common.{◌≡◌, length}
use Rattle.hub_respelled.specs.Case.{is_folding}
use Rattle.hub_respelled.proofs.Below.{any_below}
use Rattle.hub_respelled.proofs.case.has_folding.Given as goal

abbrev pub invariant-loop-line : goal.invariant-loop-line
invariant-loop-line l = any_below is_folding l.lines ≡ any_below is_folding l.fn.bytes

abbrev pub decreases-loop-line : goal.decreases-loop-line
decreases-loop-line l = length l.lines
