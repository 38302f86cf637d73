use Rattle.std.proofs.Common.{◌≡◌, ◌++◌, length}
use Rattle.hub_respelled.specs.Caseless.{caseless_bundle}
use Rattle.hub_respelled.proofs.Below.{text_below}
use Rattle.hub_respelled.proofs.comments.caseless.Given as goal

abbrev pub invariant-loop-line : goal.invariant-loop-line
invariant-loop-line l =
    caseless_bundle l.fn.bundle ≡ l.caseless.items ++ text_below l.folds l.lines

abbrev pub decreases-loop-line : goal.decreases-loop-line
decreases-loop-line l = length l.lines
