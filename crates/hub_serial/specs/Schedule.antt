-- Schedules: which jobs take turns, in order. In the words of databases a clash of two jobs is a
-- conflict of their operations.
use Rattle.std.specs.Prelude.{◌≡◌, ◌≢◌, ◌<◌, ◌⊎◌, ◌==◌, ◌||◌, not, ℕ, List, [], ◌∷◌, filter, replicate, slice_get, Some}
use Rattle.std.specs.List.{flat_map}
use Rattle.hub_job.specs.Same.{own_turns}

-- What these turns leave, one after another.
abbrev pub after_turns : {W : Type 0} → (ℕ → W → W) → List ℕ → W → W
after_turns turn [] w = w
after_turns turn (j ∷ js) w = after_turns turn js (turn j w)

-- The jobs of a schedule, in the order of their first turns.
abbrev pub jobs_in_order : List ℕ → List ℕ
jobs_in_order [] = []
jobs_in_order (j ∷ js) = j ∷ filter (λ i. not (i == j)) (jobs_in_order js)

-- These jobs one after another, each with all its turns of a schedule.
abbrev pub turns_by_job : List ℕ → List ℕ → List ℕ
turns_by_job jobs js = flat_map (λ j. own_turns j js) jobs

-- The serial schedule: the jobs of a schedule one after another, in the order of their first turns.
abbrev pub serial_schedule : List ℕ → List ℕ
serial_schedule js = turns_by_job (jobs_in_order js) js

-- Jobs one after another, each with so many turns.
abbrev pub serial_turns : (ℕ → ℕ) → List ℕ → List ℕ
serial_turns turns jobs = flat_map (λ j. replicate (turns j) j) jobs

-- The turns of two jobs.
abbrev pub turns_of_two : ℕ → ℕ → List ℕ → List ℕ
turns_of_two i k js = filter (λ t. t == i || t == k) js

-- Two schedules are equivalent (conflict-equivalent) if each job has as many turns in both, and the
-- turns of any two jobs that clash come in the same order in both.
abbrev pub AreEquivalent : (ℕ → ℕ → Type 0) → List ℕ → List ℕ → Type 0
AreEquivalent Clashes js ks =
    (i k : ℕ) → (i ≡ k) ⊎ Clashes i k → turns_of_two i k js ≡ turns_of_two i k ks

-- Jobs that clash don't overlap in time: between two turns of a job, no other job that clashes with
-- it has a turn.
abbrev pub NoneInterleave : (ℕ → ℕ → Type 0) → List ℕ → Type 0
NoneInterleave Clashes js =
    (a b c i k : ℕ) → a < b → b < c → slice_get js a ≡ Some i → slice_get js b ≡ Some k
    → slice_get js c ≡ Some i → k ≢ i → ¬ (Clashes i k)

-- No job stands twice in the list.
abbrev pub AreDistinct : List ℕ → Type 0
AreDistinct jobs =
    (a b j : ℕ) → slice_get jobs a ≡ Some j → slice_get jobs b ≡ Some j → a ≡ b
