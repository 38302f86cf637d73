use Rattle.std.proofs.Common.{◌≡◌, ◌<◌, ℕ, Some}
use Rattle.std.specs.Prelude.{slice_get}
use Rattle.hub_history.specs.Book.{BookValue}
use Rattle.hub_runner.specs.Order.{PairsStandInOrder}
use Rattle.hub_runner.proofs.order.find_disorder.Given as goal

abbrev pub invariant-loop-book : goal.invariant-loop-book
invariant-loop-book l = (k : ℕ) (B : BookValue) → k < l.book-index → slice_get l.books k ≡ Some B
    → PairsStandInOrder l.jobs l.pairs B.history
