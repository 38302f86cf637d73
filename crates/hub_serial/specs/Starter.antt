-- Who starts jobs at any time: a job starts only while no other one that clashes with it runs.
use Rattle.std.specs.Prelude.{◌≡◌, ◌==◌, ℕ, List, [], ◌∷◌, if◌then◌else◌}

-- A job starts, has a turn, or ends: it has no more turns.
pub data JobEvent : Type 0 where
  Start : ℕ → JobEvent
  Turn : ℕ → JobEvent
  End : ℕ → JobEvent

pub data JobStatus : Type 0 where
  Waiting : JobStatus
  Running : JobStatus
  Ended : JobStatus

-- The turns among these events, in order.
abbrev pub turns_of : List JobEvent → List ℕ
turns_of [] = []
turns_of (Start j ∷ es) = turns_of es
turns_of (Turn j ∷ es) = j ∷ turns_of es
turns_of (End j ∷ es) = turns_of es

abbrev pub with_status : (ℕ → JobStatus) → ℕ → JobStatus → ℕ → JobStatus
with_status statuses j s i = if i == j then s else statuses i

-- A job starts once, and only if it clashes with none that runs. It has turns only while it runs.
abbrev pub KeepsApart : (ℕ → ℕ → Type 0) → (ℕ → JobStatus) → List JobEvent → Type 0
KeepsApart Clashes statuses [] = Unit {0}
KeepsApart Clashes statuses (Start j ∷ es) =
    (statuses j ≡ Waiting) × ((k : ℕ) → statuses k ≡ Running → ¬ (Clashes j k))
    × KeepsApart Clashes (with_status statuses j Running) es
KeepsApart Clashes statuses (Turn j ∷ es) =
    (statuses j ≡ Running) × KeepsApart Clashes statuses es
KeepsApart Clashes statuses (End j ∷ es) = KeepsApart Clashes (with_status statuses j Ended) es

-- No job has started.
abbrev pub all_wait : ℕ → JobStatus
all_wait j = Waiting
