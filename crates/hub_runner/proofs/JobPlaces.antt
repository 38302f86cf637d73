-- The places of one root: its book, and then job by job.
use Rattle.std.proofs.Common.{◌≡◌, ◌≤◌, ◌<◌, ◌+◌, ◌-◌, List, [], ◌∷◌, ◌++◌, map, Option, Some, None, refl, ap, sym, ◌∙◌, subst, arith, append_assoc}
use Rattle.std.specs.Prelude.{ℕ, suc, All}
use Rattle.std.specs.List.{range_with_len}
use Rattle.std.proofs.lemmas.List.{append-nil}
use Rattle.std.proofs.lemmas.List.Elements.{All-nil, All-cons, All-push}
use Rattle.hub_path.specs.Path.{Path}
use Rattle.hub_runner.specs.Settling.{places_at}
use Rattle.hub_runner.proofs.Firsts.{IsFirst}

abbrev pub Place : Type 0
Place = Path × Option ℕ

-- The places of the jobs from j on.
abbrev jobs_from : Path → ℕ → ℕ → List Place
jobs_from r n j = map (λ k. (r, Some k)) (range_with_len j (n - j))

-- The places of the root before that of the job j are right.
abbrev pub RightUpTo : (Place → Type 0) → Path → ℕ → ℕ → Type 0
RightUpTo Right r n j = (front : List Place) × (front ++ jobs_from r n j ≡ places_at n r) × All Right front

module _ (Right Wrong : Place → Type 0) (r : Path) (n : ℕ) where
  pub first_book : Wrong (r, None) → IsFirst Right Wrong (places_at n r) (r, None)
  first_book wrong = ([], map (λ k. (r, Some k)) (range_with_len 0 n), refl, wrong, All-nil Right)

  pub right_book : Right (r, None) → RightUpTo Right r n 0
  right_book right =
      let all : n - 0 ≡ n = omega arith in (
        (r, None) ∷ [],
        ap (λ m. (r, None) ∷ map (λ k. (r, Some k)) (range_with_len 0 m)) all,
        All-cons Right (r, None) [] right (All-nil Right),
      )

  module _ (j : ℕ) (h : j < n) (before : RightUpTo Right r n j) where
    next : jobs_from r n j ≡ (r, Some j) ∷ jobs_from r n (j + 1)
    next = let less : n - j ≡ suc (n - (j + 1)) = omega arith in ap (λ m. map (λ k. (r, Some k)) (range_with_len j m)) less

    split : before.0 ++ (r, Some j) ∷ jobs_from r n (j + 1) ≡ places_at n r
    split = ap (λ ps. before.0 ++ ps) (sym next) ∙ before.1

    pub first_job : Wrong (r, Some j) → IsFirst Right Wrong (places_at n r) (r, Some j)
    first_job wrong = (before.0, jobs_from r n (j + 1), sym split, wrong, before.2)

    pub right_job : Right (r, Some j) → RightUpTo Right r n (j + 1)
    right_job right = (
      before.0 ++ (r, Some j) ∷ [],
      append_assoc before.0 ((r, Some j) ∷ []) (jobs_from r n (j + 1)) ∙ split,
      All-push Right before.0 (r, Some j) before.2 right,
    )

  pub right_at_root : (j : ℕ) → n ≤ j → RightUpTo Right r n j → All Right (places_at n r)
  right_at_root j h before =
      let done : n - j ≡ 0 = omega arith in
      let whole : before.0 ≡ places_at n r = sym (append-nil before.0) ∙ (ap (λ m. before.0 ++ map (λ k. (r, Some k)) (range_with_len j m)) (sym done) ∙ before.1) in
      subst (All Right) whole before.2
