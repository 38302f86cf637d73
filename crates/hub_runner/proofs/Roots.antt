-- The roots of profiles, and what holds at each of them.
use Rattle.std.proofs.Common.{◌≡◌, ◌<◌, ◌+◌, inl, inr, Bool, true, false, cond, ◌||◌, List, [], ◌∷◌, ◌++◌, length, map, Option, Some, None, refl, ap, sym, ◌∙◌, subst, arith}
use Rattle.std.specs.Prelude.{ℕ, zero, suc, All, slice_get, fold}
use Rattle.std.specs.List.{list_any, range_with_len}
use Rattle.std.proofs.lemmas.Bool.{false≢true, or_cases}
use Rattle.std.proofs.lemmas.List.Elements.{All-head, All-tail}
use Rattle.std.proofs.lemmas.Option.{same_Some}
use Rattle.hub_reconcile.specs.laws.Views.{same_paths}
use Rattle.hub_path.specs.Path.{Path, path_eq}
use Rattle.hub_path.specs.declared.side.Side.TheVariants.{Left, Right}
use Rattle.hub_profile.specs.Parts.{Parts, IsProfile, at_side}
use Rattle.hub_reach.specs.Reach.{has_root}
use Rattle.hub_reconcile.specs.Sync.{root_or_top}
use Rattle.hub_job.specs.Run.{root_at}
use Rattle.hub_job.specs.laws.Untouched.{path-of_Some}
use Rattle.hub_job.specs.laws.Roots.{two_roots}
use Rattle.hub_runner.specs.Settling.{with_new, roots_of, compared_places, places_at}
use Rattle.hub_runner.proofs.Lists.{all_flat, all_range}

-- A profile has its two roots, and no other.
pub no_root : (P : Parts) → IsProfile P → (l r q : Path) → l ≡ root_at P Left → r ≡ root_at P Right → path_eq l q ≡ false → path_eq r q ≡ false → has_root P q ≡ false
no_root P facts l r q l_is r_is left right =
    let two = two_roots P.roots facts.roots in
    let first : l ≡ two.first = l_is ∙ ap (λ rs. root_or_top (at_side rs Left)) two.are in
    let second : r ≡ two.second = r_is ∙ ap (λ rs. root_or_top (at_side rs Right)) two.are in
    ap (list_any (λ own. path_eq own q)) two.are
    ∙ (ap (λ b. b || (path_eq two.second q || false)) (ap (λ p. path_eq p q) (sym first) ∙ left)
    ∙ ap (λ b. b || false) (ap (λ p. path_eq p q) (sym second) ∙ right))

-- Whether the root is one of these.
abbrev pub is_in : Path → List Path → Bool
is_in r rs = list_any (λ s. path_eq s r) rs

in_first : (r s : Path) (rs : List Path) → path_eq s r ≡ true → is_in r (s ∷ rs) ≡ true
in_first r s rs e = ap (λ b. b || is_in r rs) e

in_later : (r s : Path) (rs : List Path) → is_in r rs ≡ true → is_in r (s ∷ rs) ≡ true
in_later r s rs e = elim (path_eq s r) as (λ b. (b || is_in r rs) ≡ true) [
  | true ↦ refl
  | false ↦ e
]

in_front : (r : Path) (rs ss : List Path) → is_in r rs ≡ true → is_in r (rs ++ ss) ≡ true
in_front r [] ss e = absurd (false≢true e)
in_front r (s ∷ rs) ss e =
    elim (or_cases (path_eq s r) (is_in r rs) e) [
      | inl h ↦ in_first r s (rs ++ ss) h
      | inr h ↦ in_later r s (rs ++ ss) (in_front r rs ss h)
    ]

in_last : (r : Path) (rs : List Path) → is_in r (rs ++ r ∷ []) ≡ true
in_last r [] = in_first r r [] (path-of_Some r r refl)
in_last r (s ∷ rs) = in_later r s (rs ++ r ∷ []) (in_last r rs)

still_in : (r s : Path) (rs : List Path) → is_in r rs ≡ true → is_in r (with_new rs s) ≡ true
still_in r s rs e = elim (is_in s rs) as (λ b. is_in r (cond b rs (rs ++ s ∷ [])) ≡ true) [
  | true ↦ e
  | false ↦ in_front r rs (s ∷ []) e
]

now_in : (r : Path) (rs : List Path) → is_in r (with_new rs r) ≡ true
now_in r rs = elim (is_in r rs) as (λ b. is_in r rs ≡ b → is_in r (cond b rs (rs ++ r ∷ [])) ≡ true) [
  | true ↦ λ e. e
  | false ↦ λ e. in_last r rs
] refl

stays : (r : Path) (own rs : List Path) → is_in r rs ≡ true → is_in r (fold with_new rs own) ≡ true
stays r [] rs e = e
stays r (s ∷ own) rs e = stays r own (with_new rs s) (still_in r s rs e)

comes : (r : Path) (own rs : List Path) → is_in r own ≡ true → is_in r (fold with_new rs own) ≡ true
comes r [] rs e = absurd (false≢true e)
comes r (s ∷ own) rs e =
    elim (or_cases (path_eq s r) (is_in r own) e) [
      | inl h ↦ stays r own (with_new rs s) (subst (λ q. is_in q (with_new rs s) ≡ true) (same_paths s r h) (now_in s rs))
      | inr h ↦ comes r own (with_new rs s) h
    ]

abbrev with_all : List Path → Parts → List Path
with_all rs P = fold with_new rs P.roots

all_stay : (r : Path) (Ps : List Parts) (rs : List Path) → is_in r rs ≡ true → is_in r (fold with_all rs Ps) ≡ true
all_stay r [] rs e = e
all_stay r (P ∷ Ps) rs e = all_stay r Ps (with_all rs P) (stays r P.roots rs e)

all_come : (r : Path) (Ps : List Parts) (rs : List Path) (j : ℕ) (P : Parts) → slice_get Ps j ≡ Some P → has_root P r ≡ true → is_in r (fold with_all rs Ps) ≡ true
all_come r [] rs j P at has = cc
all_come r (Q ∷ Ps) rs zero P at has = all_stay r Ps (with_all rs Q) (comes r Q.roots rs (subst (λ (p : Parts). has_root p r ≡ true) (sym (same_Some Q P at)) has))
all_come r (Q ∷ Ps) rs (suc j) P at has = all_come r Ps (with_all rs Q) j P at has

-- Each root of a profile is among the roots.
pub root_in : (Ps : List Parts) (j : ℕ) (P : Parts) (r : Path) → slice_get Ps j ≡ Some P → has_root P r ≡ true → is_in r (roots_of Ps) ≡ true
root_in Ps j P r at has = all_come r Ps [] j P at has

place_of : (r : Path) (rs : List Path) → is_in r rs ≡ true → (k : ℕ) × (slice_get rs k ≡ Some r)
place_of r [] e = absurd (false≢true e)
place_of r (s ∷ rs) e =
    elim (or_cases (path_eq s r) (is_in r rs) e) [
      | inl h ↦ (0, ap (λ q. Some q) (same_paths s r h))
      | inr h ↦ let w = place_of r rs h in (suc w.0, w.1)
    ]

-- What holds at all places holds at the book of each root, and at each job there.
module _ (Q : Path × Option ℕ → Type 0) (Ps : List Parts) (all : All Q (compared_places Ps)) (j : ℕ) (P : Parts) (r : Path) (at : slice_get Ps j ≡ Some P) (has : has_root P r ≡ true) where
  here : All Q (places_at (length Ps) r)
  here = let w = place_of r (roots_of Ps) (root_in Ps j P r at has) in all_flat Q (places_at (length Ps)) (roots_of Ps) w.0 r all w.1

  pub at_book : Q (r, None)
  at_book = All-head Q (r, None) (map (λ i. (r, Some i)) (range_with_len 0 (length Ps))) here

  pub at_job : (i : ℕ) → i < length Ps → Q (r, Some i)
  at_job i h =
      let same : 0 + i ≡ i = omega arith in
      subst (λ n. Q (r, Some n)) same (all_range Q (λ i. (r, Some i)) 0 (length Ps) i (All-tail Q (r, None) (map (λ i. (r, Some i)) (range_with_len 0 (length Ps))) here) h)
