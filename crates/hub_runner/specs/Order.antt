-- Pairs of jobs whose entries stand in order.
use Rattle.std.specs.Prelude.{◌≡◌, ◌<◌, ◌≤◌, ◌+◌, ◌⊎◌, ℕ, Bool, List, length, min, slice_get, Some, IsTrue}
use Rattle.hub_path.specs.Path.{Path}
use Rattle.hub_profile.specs.Parts.{Parts}
use Rattle.hub_state.specs.State.{State}
use Rattle.hub_job.specs.declared.log.Entry.{Entry}
use Rattle.hub_job.specs.declared.outcome.Outcome.{Outcome}
use Rattle.hub_job.specs.declared.run_fault.RunFault.{RunFault}
use Rattle.hub_job.specs.declared.run_fault.RunFault.TheVariants as fault
use Rattle.hub_history.specs.Book.{BookValue}
use Rattle.hub_schedule.specs.Promise.{Settles}
use Rattle.hub_runner.specs.declared.order.Span.{Span}
use Rattle.hub_runner.specs.declared.pairs.JobPair.{JobPair}

-- In this history each entry of the earlier job stands before each entry of the later one.
abbrev pub StandInOrder : JobPair → List Entry → Type 0
StandInOrder p history =
    (a b : ℕ) (e f : Entry) → slice_get history a ≡ Some e → slice_get history b ≡ Some f
    → e.job ≡ p.earlier → f.job ≡ p.later → a < b

-- So do the jobs of each of these pairs, of which the later one has the greater number, and both are
-- among the first n jobs.
abbrev pub PairsStandInOrder : ℕ → List JobPair → List Entry → Type 0
PairsStandInOrder n pairs history =
    (k : ℕ) (p : JobPair) → slice_get pairs k ≡ Some p → p.earlier < p.later → p.later < n
    → StandInOrder p history

-- There are histories that settle the outcome, and in each of them these pairs stand in order.
abbrev pub IsSettledBy : State → List Parts → List JobPair → Outcome → Type 0
IsSettledBy S Ps pairs o =
    (histories : Path → List Entry) × Settles S Ps histories o
    × ((r : Path) → PairsStandInOrder (length Ps) pairs (histories r))

-- The pairs stand in order in the history of each book; or in one they don't.
abbrev pub AllStandInOrder : ℕ → List JobPair → List BookValue → Type 0
AllStandInOrder n pairs books =
    (k : ℕ) (B : BookValue) → slice_get books k ≡ Some B → PairsStandInOrder n pairs B.history

-- The fault that says that a pair isn't in order; or there is no memory.
abbrev pub IsOutOfOrder : RunFault → Type 0
IsOutOfOrder f =
    (f ≡ fault.OutOfMemory)
    ⊎ ((r : Path) × (j : ℕ) × (history log : List Entry)
    × (f ≡ fault.Mismatch r (Some j) history log))

-- The spans of the first n jobs in a history, by its entries before the place k: each of them stands in
-- the span of its job.
pub record AreSpans (n k : ℕ) (history : List Entry) (spans : List Span) : Type 0 where
  pub count : length spans ≡ n
  pub stand : (a : ℕ) (e : Entry) (s : Span) → a < k → slice_get history a ≡ Some e
      → slice_get spans e.job ≡ Some s → (s.first ≤ a) × (a < s.end)

-- A span that also has a place after it.
abbrev pub widened : Span → ℕ → Span
widened s place = record { first = min s.first place; end = place + 1 }

-- By these spans the pair stands in order, if it counts.
abbrev pub ShowsOrder : List Span → JobPair → Bool → Type 0
ShowsOrder spans p b =
    (s t : Span) → slice_get spans p.earlier ≡ Some s → slice_get spans p.later ≡ Some t → IsTrue b
    → p.earlier < p.later → s.end ≤ t.first
