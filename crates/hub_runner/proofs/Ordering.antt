-- Outcomes that are settled in order.
use Rattle.std.proofs.Common.{◌≡◌, ℕ, inl, inr, List, length, Option, Some, None, Ok, Err, IfOk, Result, refl, sym, subst}
use Rattle.std.specs.Prelude.{slice_get}
use Rattle.hub_path.specs.Path.{Path, path_eq}
use Rattle.hub_profile.specs.Parts.{Parts}
use Rattle.hub_state.specs.State.{State}
use Rattle.hub_job.specs.declared.outcome.Outcome.{Outcome}
use Rattle.hub_job.specs.declared.run_fault.RunFault.{RunFault}
use Rattle.hub_history.specs.Book.{BookValue}
use Rattle.hub_schedule.specs.Promise.{Settles}
use Rattle.hub_runner.specs.Order.{AllStandInOrder, PairsStandInOrder, IsOutOfOrder, IsSettledBy}
use Rattle.hub_runner.specs.Settling.{books_at, history_at, history_or_none}
use Rattle.hub_runner.specs.Working.{IsNotRun, MayRun}
use Rattle.hub_runner.specs.declared.pairs.JobPair.{JobPair}
use Rattle.hub_runner.proofs.Lists.{passed}

-- The history of each root is that of a book, or has no entry.
history_by : (n : ℕ) (pairs : List JobPair) (books : List BookValue) (r : Path)
    (x : Option BookValue) → AllStandInOrder n pairs books → slice_get (books_at books r) 0 ≡ x
    → PairsStandInOrder n pairs (history_or_none x)
history_by n pairs books r None all at = λ k p is up low a b e f here. cc
history_by n pairs books r (Some B) all at =
    let w = passed (λ (C : BookValue). path_eq C.root r) books 0 B at in all w.0.0 B w.0.1

in_each : (n : ℕ) (pairs : List JobPair) (books : List BookValue) → AllStandInOrder n pairs books
    → (r : Path) → PairsStandInOrder n pairs (history_at books r)
in_each n pairs books all r = history_by n pairs books r (slice_get (books_at books r) 0) all refl

pub if_settled : (S : State) (Ps : List Parts) (pairs : List JobPair) (books : List BookValue)
    (r : Result Outcome RunFault) → IfOk r (Settles S Ps (history_at books))
    → AllStandInOrder (length Ps) pairs books → IfOk r (IsSettledBy S Ps pairs)
if_settled S Ps pairs books (Ok o) settles all =
    (history_at books, settles, in_each (length Ps) pairs books all)
if_settled S Ps pairs books (Err f) settles all = tt

-- A pair that isn't in order is a mismatch.
pub disorder_is_no_run : (S : State) (Ps : List Parts) (n : ℕ) (f : RunFault) → MayRun S Ps n
    → IsOutOfOrder f → IsNotRun S Ps n f
disorder_is_no_run S Ps n f may (inl e) = subst (IsNotRun S Ps n) (sym e) may.0
disorder_is_no_run S Ps n f may (inr w) = subst (IsNotRun S Ps n) (sym w.4) may
