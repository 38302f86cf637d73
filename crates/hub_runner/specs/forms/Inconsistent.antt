-- What is told of the jobs of one number.
use Rattle.std.specs.Prelude.{◌≡◌, ◌≤◌, ◌<◌, ℕ, List, slice_get, Option, Some, None, min, nat_lt, if◌then◌else◌}
use Rattle.hub_profile.specs.Parts.{Parts}
use Rattle.hub_tree.specs.Tree.{Archive}
use Rattle.hub_job.specs.JobValue.{JobValue}

abbrev pub IsOf : Parts → Archive → JobValue → Type 0
IsOf P O J = (J.profile ≡ P) × (J.archive ≡ O)

-- Each job of that number is of this profile and this archive; one isn't.
abbrev pub AllAreOf : Parts → Archive → List JobValue → ℕ → Type 0
AllAreOf P O jobs j = (k : ℕ) (J : JobValue) → slice_get jobs k ≡ Some J → J.number ≡ j → IsOf P O J

abbrev pub OneIsNotOf : Parts → Archive → List JobValue → ℕ → Type 0
OneIsNotOf P O jobs j =
    (k : ℕ) × (J : JobValue) × (slice_get jobs k ≡ Some J) × (J.number ≡ j) × ¬ (IsOf P O J)

-- Each job's number is below n.
abbrev pub AllAreBelow : List JobValue → ℕ → Type 0
AllAreBelow jobs n = (k : ℕ) (J : JobValue) → slice_get jobs k ≡ Some J → J.number < n

-- It is the lowest number of a job that isn't below n.
abbrev pub IsLeastFrom : List JobValue → ℕ → ℕ → Type 0
IsLeastFrom jobs n j =
    (n ≤ j) × ((k : ℕ) × (J : JobValue) × (slice_get jobs k ≡ Some J) × (J.number ≡ j))
    × ((k : ℕ) (J : JobValue) → slice_get jobs k ≡ Some J → n ≤ J.number → j ≤ J.number)

-- The lower of a number that may be there and another one, unless that is below n.
abbrev pub lower_of : Option ℕ → ℕ → Option ℕ
lower_of None i = Some i
lower_of (Some j) i = Some (min j i)

abbrev pub lower_at : ℕ → Option ℕ → ℕ → Option ℕ
lower_at n o i = if nat_lt i n then o else lower_of o i
