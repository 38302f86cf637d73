-- The lowest number of a job that isn't below another one, job by job.
use Rattle.std.proofs.Common.{◌≡◌, ◌≤◌, ◌<◌, ◌+◌, inl, inr, Bool, true, false, cond, List, length, Option, Some, None, min, refl, sym, subst, arith}
use Rattle.std.specs.Prelude.{ℕ, slice_get, nat_lt, MatchOption}
use Rattle.std.proofs.lemmas.Bool.{cases_lt}
use Rattle.std.proofs.lemmas.Bool.Decides.{nat_tests}
use Rattle.std.proofs.lemmas.Option.{slice_get_within}
use Rattle.hub_text.specs.laws.List.{also-here}
use Rattle.hub_job.specs.JobValue.{JobValue}
use Rattle.hub_runner.specs.forms.Inconsistent.{AllAreBelow, IsLeastFrom, lower_at, lower_of}

-- Of the first i jobs.
abbrev pub LeastUpTo : List JobValue → ℕ → ℕ → Option ℕ → Type 0
LeastUpTo jobs i n None = (k : ℕ) (J : JobValue) → k < i → slice_get jobs k ≡ Some J → J.number < n
LeastUpTo jobs i n (Some j) =
    (n ≤ j) × ((k : ℕ) × (J : JobValue) × (slice_get jobs k ≡ Some J) × (J.number ≡ j))
    × ((k : ℕ) (J : JobValue) → k < i → slice_get jobs k ≡ Some J → n ≤ J.number → j ≤ J.number)

below_more : (jobs : List JobValue) (i n : ℕ) (J : JobValue) (o : Option ℕ) → slice_get jobs i ≡ Some J → J.number < n → LeastUpTo jobs i n o → LeastUpTo jobs (i + 1) n o
below_more jobs i n J None at below least = also-here (λ (K : JobValue). K.number < n) jobs i J at below least
below_more jobs i n J (Some j) at below least =
    (least.0, least.1, also-here (λ (K : JobValue). n ≤ K.number → j ≤ K.number) jobs i J at (λ h. absurd (omega (arith, h, below))) least.2)

within_more : (jobs : List JobValue) (i n : ℕ) (J : JobValue) (o : Option ℕ) → slice_get jobs i ≡ Some J → n ≤ J.number → LeastUpTo jobs i n o → LeastUpTo jobs (i + 1) n (lower_of o J.number)
within_more jobs i n J None at within least =
    (within, (i, J, at, refl), also-here (λ (K : JobValue). n ≤ K.number → J.number ≤ K.number) jobs i J at (λ h. omega arith) (λ k K h e m. absurd (let b = least k K h e in omega (arith, b, m))))
within_more jobs i n J (Some j) at within least =
    elim (cases_lt J.number j) [
      | inl less ↦ let is : min j J.number ≡ J.number = omega arith in
          subst (λ m. LeastUpTo jobs (i + 1) n (Some m)) (sym is)
          (within, (i, J, at, refl), also-here (λ (K : JobValue). n ≤ K.number → J.number ≤ K.number) jobs i J at (λ h. omega arith) (λ k K h e m. let b = least.2 k K h e m in omega (arith, b, less)))
      | inr more ↦ let is : min j J.number ≡ j = omega arith in
          subst (λ m. LeastUpTo jobs (i + 1) n (Some m)) (sym is)
          (least.0, least.1, also-here (λ (K : JobValue). n ≤ K.number → j ≤ K.number) jobs i J at (λ h. more) least.2)
    ]

by_test : (jobs : List JobValue) (i n : ℕ) (J : JobValue) (o : Option ℕ) (b : Bool) → nat_lt J.number n ≡ b → slice_get jobs i ≡ Some J → LeastUpTo jobs i n o → LeastUpTo jobs (i + 1) n (cond b o (lower_of o J.number))
by_test jobs i n J o true e at least = let below : J.number < n = grind (arith, nat_tests, e) in below_more jobs i n J o at below least
by_test jobs i n J o false e at least = let within : n ≤ J.number = grind (arith, nat_tests, e) in within_more jobs i n J o at within least

pub least_more : (jobs : List JobValue) (i n : ℕ) (J : JobValue) (o : Option ℕ) → slice_get jobs i ≡ Some J → LeastUpTo jobs i n o → LeastUpTo jobs (i + 1) n (lower_at n o J.number)
least_more jobs i n J o at least = by_test jobs i n J o (nat_lt J.number n) refl at least

-- Of all jobs.
pub least_of_all : (jobs : List JobValue) (i n : ℕ) (o : Option ℕ) → length jobs ≤ i → LeastUpTo jobs i n o → MatchOption o (AllAreBelow jobs n) (IsLeastFrom jobs n)
least_of_all jobs i n None h least = λ k J e. let w = slice_get_within jobs k J e in least k J (omega (arith, w, h)) e
least_of_all jobs i n (Some j) h least = (least.0, least.1, λ k J e m. let w = slice_get_within jobs k J e in least.2 k J (omega (arith, w, h)) e m)
