-- Slots for jobs, by number.
use Rattle.std.specs.Prelude.{◌≡◌, ℕ, List, Option, Some, None, map, replicate, slice_get}
use Rattle.hub_job.specs.JobValue.{JobValue}

abbrev pub empty : ℕ → List (Option JobValue)
empty n = replicate n None

abbrev pub filled : List JobValue → List (Option JobValue)
filled jobs = map (λ e. Some e) jobs

-- Each slot has a job.
abbrev pub AreFull : List (Option JobValue) → Type 0
AreFull slots =
    (j : ℕ) (o : Option JobValue) → slice_get slots j ≡ Some o → (e : JobValue) × (o ≡ Some e)
