-- Numbers that are inconsistent, by what is told of the jobs of one number.
use Rattle.std.proofs.Common.{◌≡◌, ◌≢◌, ◌≤◌, ◌<◌, ◌+◌, inl, inr, List, length, get_or, Option, Some, None, refl, ap, sym, ◌∙◌, subst, arith}
use Rattle.std.specs.Prelude.{ℕ, ◌==◌, count_by, slice_get, MatchOption}
use Rattle.std.proofs.lemmas.Bool.{cases_lt}
use Rattle.std.proofs.lemmas.Option.{slice_get_read, slice_get_within}
use Rattle.hub_profile.specs.Parts.{Parts}
use Rattle.hub_tree.specs.Tree.{Archive}
use Rattle.hub_state.specs.State.{State}
use Rattle.hub_job.specs.JobValue.{JobValue}
use Rattle.hub_job.specs.Outcome.{archive_of}
use Rattle.hub_runner.specs.forms.Inconsistent.{IsOf, AllAreOf, OneIsNotOf, AllAreBelow, IsLeastFrom}
use Rattle.hub_runner.specs.Settling.{AreConsistent, IsMadeFor, IsInconsistent, IsLowestInconsistent}

-- The jobs of the numbers below i are due.
abbrev pub DueUpTo : State → List Parts → List JobValue → ℕ → Type 0
DueUpTo S Ps jobs i =
    ((k : ℕ) (J : JobValue) → slice_get jobs k ≡ Some J → J.number < i → IsMadeFor S Ps J)
    × ((j : ℕ) → j < i → count_by (λ J. J.number == j) jobs ≡ 1)

module _ (S : State) (Ps : List Parts) (jobs : List JobValue) where
  pub not_inconsistent : (i j : ℕ) → DueUpTo S Ps jobs i → j < i → ¬ (IsInconsistent S Ps jobs j)
  not_inconsistent i j due h (inl x) = x.1 (due.1 j h)
  not_inconsistent i j due h (inr x) = x.4 (due.0 x.0 x.1 x.2 (subst (λ n. n < i) (sym x.3) h))

  lowest_here : (j : ℕ) → IsInconsistent S Ps jobs j → DueUpTo S Ps jobs j → IsLowestInconsistent S Ps jobs j
  lowest_here j inconsistent due = (inconsistent, λ i h. not_inconsistent j i due h)

  -- the jobs of one profile's number, and those of the numbers before it
  module _ (j : ℕ) (due : DueUpTo S Ps jobs j) (inside : j < length Ps) {P : Parts} (read : P ≡ get_or Ps j P) {O : Archive} (archive : O ≡ archive_of S (Some P)) where
    at : slice_get Ps j ≡ Some P
    at = slice_get_read Ps (length Ps) j P refl inside read

    made : (J : JobValue) → J.number ≡ j → IsOf P O J → IsMadeFor S Ps J
    made J is of = (
      ap (slice_get Ps) is ∙ (at ∙ ap (λ (Q : Parts). Some Q) (sym of.0)),
      of.1 ∙ (archive ∙ ap (λ (Q : Parts). archive_of S (Some Q)) (sym of.0)),
    )

    is_of : (J : JobValue) → J.number ≡ j → IsMadeFor S Ps J → IsOf P O J
    is_of J is m =
        let one : Some J.profile ≡ Some P = sym m.0 ∙ (ap (slice_get Ps) is ∙ at) in
        let same : J.profile ≡ P = cc in
        (same, m.1 ∙ (ap (λ (Q : Parts). archive_of S (Some Q)) same ∙ sym archive))

    made_more : AllAreOf P O jobs j → (k : ℕ) (J : JobValue) → slice_get jobs k ≡ Some J → J.number < j + 1 → IsMadeFor S Ps J
    made_more all k J here h =
        elim (cases_lt J.number j) [
          | inl less ↦ due.0 k J here less
          | inr more ↦ let is : J.number ≡ j = omega arith in made J is (all k J here is)
        ]

    once_more : count_by (λ J. J.number == j) jobs ≡ 1 → (i : ℕ) → i < j + 1 → count_by (λ J. J.number == i) jobs ≡ 1
    once_more one i h =
        elim (cases_lt i j) [
          | inl less ↦ due.1 i less
          | inr more ↦ let is : j ≡ i = omega arith in subst (λ n. count_by (λ J. J.number == n) jobs ≡ 1) is one
        ]

    pub due_more : AllAreOf P O jobs j → count_by (λ J. J.number == j) jobs ≡ 1 → DueUpTo S Ps jobs (j + 1)
    due_more all one = (made_more all, once_more one)

    pub inconsistent_by_one : OneIsNotOf P O jobs j → IsLowestInconsistent S Ps jobs j
    inconsistent_by_one x = lowest_here j (inr (x.0, x.1, x.2, x.3, λ m. x.4 (is_of x.1 x.3 m))) due

    pub inconsistent_by_count : count_by (λ J. J.number == j) jobs ≢ 1 → IsLowestInconsistent S Ps jobs j
    inconsistent_by_count many = lowest_here j (inl (inside, many)) due

  -- numbers of no profile
  pub all_due : AllAreBelow jobs (length Ps) → DueUpTo S Ps jobs (length Ps) → AreConsistent S Ps jobs
  all_due below due = (λ k J at. due.0 k J at (below k J at), due.1)

  beyond : (J : JobValue) (j : ℕ) → J.number ≡ j → length Ps ≤ j → ¬ (IsMadeFor S Ps J)
  beyond J j is more m = let within = slice_get_within Ps J.number J.profile m.0 in absurd (omega (arith, within, is, more))

  earlier : (j i : ℕ) → IsLeastFrom jobs (length Ps) j → DueUpTo S Ps jobs (length Ps) → i < j → ¬ (IsInconsistent S Ps jobs i)
  earlier j i least due h (inl x) = not_inconsistent (length Ps) i due x.0 (inl x)
  earlier j i least due h (inr x) =
      elim (cases_lt i (length Ps)) [
        | inl inside ↦ not_inconsistent (length Ps) i due inside (inr x)
        | inr out ↦ let is = x.3 in let from : length Ps ≤ x.1.number = omega (arith, is, out) in let lowest = least.2 x.0 x.1 x.2 from in absurd (omega (arith, lowest, is, h))
      ]

  pub lowest_beyond : (j : ℕ) → IsLeastFrom jobs (length Ps) j → DueUpTo S Ps jobs (length Ps) → IsLowestInconsistent S Ps jobs j
  lowest_beyond j least due = (
    inr (least.1.0, least.1.1, least.1.2, least.1.3, beyond least.1.1 j least.1.3 least.0),
    λ i h. earlier j i least due h,
  )

  pub inconsistent_by_least : (o : Option ℕ) → MatchOption o (AllAreBelow jobs (length Ps)) (IsLeastFrom jobs (length Ps)) → DueUpTo S Ps jobs (length Ps) → MatchOption o (AreConsistent S Ps jobs) (IsLowestInconsistent S Ps jobs)
  inconsistent_by_least None below due = all_due below due
  inconsistent_by_least (Some j) least due = lowest_beyond j least due
