-- Jobs that clash.
use Rattle.std.specs.Prelude.{◌≡◌, ◌≢◌, ◌⊎◌, ℕ, List, slice_get, Some}
use Rattle.hub_profile.specs.Parts.{Parts, IsProfile}
use Rattle.hub_reach.specs.Safe.{Clash}

-- Each job's profile is one as they are read: of its two roots, and of its kept values, none lies in
-- another one.
abbrev pub AreProfiles : List Parts → Type 0
AreProfiles Ps = (j : ℕ) (P : Parts) → slice_get Ps j ≡ Some P → IsProfile P

-- The profiles of two jobs clash, at a root or in an archive, one way or the other.
abbrev pub JobsClash : List Parts → ℕ → ℕ → Type 0
JobsClash Ps i k =
    (P Q : Parts) × (slice_get Ps i ≡ Some P) × (slice_get Ps k ≡ Some Q) × (Clash P Q ⊎ Clash Q P)

-- None of these jobs but itself clashes with a job.
abbrev pub NoneClashesWith : List Parts → ℕ → List ℕ → Type 0
NoneClashesWith Ps j js =
    (c k : ℕ) → slice_get js c ≡ Some k → k ≢ j → ¬ (JobsClash Ps j k)
