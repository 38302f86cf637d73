-- The first root that folds to a path, and roots that fit those over them.
use Rattle.std.proofs.Common.{◌≡◌, ◌<◌, ◌+◌, ℕ, zero, suc, arith, Bool, true, false, ◌&&◌, List, [], ◌∷◌, get_or, length, Option, Some, None, refl, sym, ap, ◌∙◌, subst}
use Rattle.std.specs.Prelude.{◌↔◌, IfSome, IsNone, slice_get, if◌then◌else◌}
use Rattle.std.proofs.lemmas.Bool.{and_parts, and_from}
use Rattle.std.proofs.lemmas.List.{length-map}
use Rattle.std.proofs.lemmas.Option.{none-some, same_Some, slice_get-get_or, slice_get_within}
use Rattle.hub_path.specs.Path.{Name, Path, name_eq, path_eq, is_over, parent}
use Rattle.hub_path.specs.laws.General.{is_over-parent, is_over-reflexive, is_over-transitive, name_eq-decides, path_eq-decides}
use Rattle.hub_folded.specs.FirstPlaces.{Fits, FitsAt, IsApart, first_place, folds_to}
use Rattle.hub_folded.specs.Fold.{Folding, fold_name, fold_path, knows_path}
use Rattle.hub_folded.specs.Roots.{AreToldApart}
use Rattle.hub_folded.proofs.Paths.{no}
use Rattle.hub_folded.proofs.ToldApart.{over-same}

module _ (F : Folding) where
  -- What the test says.
  folds-known : (q r : Path) → folds_to F q r ≡ true → (knows_path F r ≡ true) × (fold_path F r ≡ q)
  folds-known q r h =
      let two = and_parts (knows_path F r) (path_eq (fold_path F r) q) h in
      (two.0, (path_eq-decides (fold_path F r) q).0 two.1)

  known-folds : (r : Path) → knows_path F r ≡ true → folds_to F (fold_path F r) r ≡ true
  known-folds r h =
      and_from (knows_path F r) (path_eq (fold_path F r) (fold_path F r)) h
      ((path_eq-decides (fold_path F r) (fold_path F r)).1 refl)

  -- The root with the number is one that folds to the path.
  first-from : (q : Path) (i k : ℕ) (rs : List Path) → first_place F q i rs ≡ Some k
      → (j : ℕ) × (r : Path) × (k ≡ i + j) × (slice_get rs j ≡ Some r) × (folds_to F q r ≡ true)
  first-from q i k [] h = absurd (none-some k h)
  first-from q i k (r ∷ rs) h = go (folds_to F q r) refl h (first-from q (i + 1) k rs)
    where
      go : (b : Bool) → folds_to F q r ≡ b → (if b then Some i else first_place F q (i + 1) rs) ≡ Some k
          → (first_place F q (i + 1) rs ≡ Some k → (j : ℕ) × (s : Path) × (k ≡ i + 1 + j)
          × (slice_get rs j ≡ Some s) × (folds_to F q s ≡ true))
          → (j : ℕ) × (s : Path) × (k ≡ i + j) × (slice_get (r ∷ rs) j ≡ Some s)
          × (folds_to F q s ≡ true)
      go true e h later =
          let same : i ≡ k = same_Some i k h in
          (0, r, omega (arith, same), refl, e)
      go false e h later =
          let w = later h in
          (suc w.0, w.1, omega (arith, w.2), w.3, w.4)

  pub first-found : (q : Path) (k : ℕ) (rs : List Path) → first_place F q 0 rs ≡ Some k
      → (r : Path) × (slice_get rs k ≡ Some r) × (knows_path F r ≡ true) × (fold_path F r ≡ q)
  first-found q k rs h =
      let w = first-from q 0 k rs h in
      let same : w.0 ≡ k = omega (arith, w.2) in
      let two = folds-known q w.1 w.4 in
      (w.1, subst (λ j. slice_get rs j ≡ Some w.1) same w.3, two.0, two.1)

  pub first-within : (q : Path) (k : ℕ) (rs : List Path) → first_place F q 0 rs ≡ Some k
      → k < length rs
  first-within q k rs h = let w = first-found q k rs h in slice_get_within rs k w.0 w.1

  -- So it is what is read there.
  module _ (rs : List Path) (s q : Path) (k : ℕ) (x : Path) (found : first_place F q 0 rs ≡ Some k)
      (read : x ≡ get_or rs k x) where
    at : slice_get rs k ≡ Some x
    at = slice_get-get_or rs k x (first-within q k rs found) ∙ ap Some (sym read)

    pub fits-there : is_over x s ≡ true → FitsAt F rs s q
    fits-there over i r first own =
        let same : i ≡ k = same_Some i k (sym first ∙ found) in
        subst (λ t. is_over t s ≡ true)
        (same_Some x r (sym at ∙ (ap (slice_get rs) (sym same) ∙ own))) over

    pub apart-there : is_over x s ≡ false → IsApart F rs s q k
    apart-there off =
        let w = first-found q k rs found in
        let same : w.0 ≡ x = same_Some w.0 x (sym w.1 ∙ at) in (
          w.0,
          w.1,
          w.2,
          subst (λ t. is_over (fold_path F w.0) t ≡ true) w.3 (is_over-reflexive (fold_path F w.0)),
          ap (λ t. is_over t s) same ∙ off,
        )

  -- There is a first one where there is one.
  some-first : (q : Path) (i j : ℕ) (r : Path) (rs : List Path) → slice_get rs j ≡ Some r
      → folds_to F q r ≡ true → (k : ℕ) × (first_place F q i rs ≡ Some k)
  some-first q i j r [] at h = absurd (none-some r at)
  some-first q i zero r (s ∷ rs) at h =
      let is : folds_to F q s ≡ true = ap (folds_to F q) (same_Some s r at) ∙ h in
      (i, ap (λ b. if b then Some i else first_place F q (i + 1) rs) is)
  some-first q i (suc j) r (s ∷ rs) at h = go (folds_to F q s) (some-first q (i + 1) j r rs at h)
    where
      go : (b : Bool) → (k : ℕ) × (first_place F q (i + 1) rs ≡ Some k)
          → (k : ℕ) × ((if b then Some i else first_place F q (i + 1) rs) ≡ Some k)
      go true w = (i, refl)
      go false w = w

  -- If each known root fits all those over it, they are told apart.
  pub told-apart : (rs : List Path)
      → ((j : ℕ) (s : Path) → slice_get rs j ≡ Some s → knows_path F s ≡ true
      → Fits F rs s (fold_path F s)) → AreToldApart F rs
  told-apart rs fit i j r s at_r at_s known also over =
      let first = some-first (fold_path F r) 0 i r rs at_r (known-folds r known) in
      let own = first-found (fold_path F r) first.0 rs first.1 in
      let on_r =
      fit i r at_r known (fold_path F r) (is_over-reflexive (fold_path F r)) first.0 own.0
      first.1 own.1 in
      let on_s = fit j s at_s also (fold_path F r) over first.0 own.0 first.1 own.1 in
      let long : length own.0 ≡ length r =
      sym (length-map own.0 (fold_name F)) ∙ (ap length own.3 ∙ length-map r (fold_name F)) in
      subst (λ t. is_over t s ≡ true) (over-same own.0 r on_r long) on_s

-- A path over another one is it, or is over its parent.
over-parent : (q p : Path) → is_over q p ≡ true → (is_over q (parent p) ≡ false) → q ≡ p
over-parent [] p h no_parent = no (sym no_parent)
over-parent (n ∷ q) [] h no_parent = no h
over-parent (n ∷ q) (m ∷ []) h no_parent =
    let two = and_parts (name_eq n m) (is_over q []) h in
    (λ i. (name_eq-decides n m).0 two.0 i ∷ last q two.1 i)
  where
    last : (q : Path) → is_over q [] ≡ true → q ≡ []
    last [] e = refl
    last (k ∷ q) e = no e
over-parent (n ∷ q) (m ∷ k ∷ p) h no_parent =
    let two = and_parts (name_eq n m) (is_over q (k ∷ p)) h in
    (λ i. (name_eq-decides n m).0 two.0 i
    ∷ over-parent q (k ∷ p) two.1 (lower (name_eq n m) two.0 (is_over q (parent (k ∷ p))) no_parent) i)
  where
    lower : (a : Bool) → a ≡ true → (b : Bool) → (a && b) ≡ false → b ≡ false
    lower true e b h = h
    lower false e b h = no e

-- What fits at a path and above its parent fits above the path.
pub fits-more : (F : Folding) (rs : List Path) (s p : Path) → FitsAt F rs s p → Fits F rs s (parent p)
    → Fits F rs s p
fits-more F rs s p here above q over = go (is_over q (parent p)) refl
  where
    go : (b : Bool) → is_over q (parent p) ≡ b → FitsAt F rs s q
    go true e = above q e
    go false e = subst (FitsAt F rs s) (sym (over-parent q p over e)) here

-- What fits at the path without names fits above it, since nothing else is over it.
top-fits : (F : Folding) (rs : List Path) (s p : Path) → p ≡ [] → FitsAt F rs s p → Fits F rs s p
top-fits F rs s p e here q over =
    subst (FitsAt F rs s) (e ∙ sym (go q (ap (is_over q) (sym e) ∙ over))) here
  where
    go : (q : Path) → is_over q [] ≡ true → q ≡ []
    go [] h = refl
    go (n ∷ q) h = no h

-- Where a root is apart at a path, it is so at each path below this.
pub apart-below : (F : Folding) (rs : List Path) (s q p : Path) (i : ℕ) → IsApart F rs s q i
    → is_over q p ≡ true → IsApart F rs s p i
apart-below F rs s q p i w over =
    (w.0, w.1, w.2, is_over-transitive (fold_path F w.0) q p w.3 over, w.4)

-- The path that is looked at next lies over the first one, and what fits above it fits above that.
abbrev pub LooksAt : Folding → List Path → Path → Path → Option Path → Type 0
LooksAt F rs s p None = Fits F rs s p
LooksAt F rs s p (Some q) = (is_over q p ≡ true) × (Fits F rs s q → Fits F rs s p)

abbrev pub left : Option Path → ℕ
left None = 0
left (Some q) = suc (length q)

length-parent : (n : Name) (p : Path) → length (parent (n ∷ p)) ≡ length p
length-parent n [] = refl
length-parent n (m ∷ p) = ap suc (length-parent m p)

module _ (o : Option Path) (q : Path) (is : o ≡ Some q) where
  -- The next one is the parent, if there is one.
  pub looks-less : (n : Option Path) → (IsNone n ↔ (q ≡ [])) → IfSome n (λ r. r ≡ parent q)
      → left n < left o
  looks-less n none some = subst (λ t. left n < left t) (sym is) (go n q none some)
    where
      go : (n : Option Path) (q : Path) → (IsNone n ↔ (q ≡ [])) → IfSome n (λ r. r ≡ parent q)
          → left n < suc (length q)
      go None q none some = omega arith
      go (Some r) [] none some = absurd (no-some (none.1 refl))
        where
          no-some : IsNone (Some r) → ⊥
          no-some e = cc
      go (Some r) (m ∷ q) none some = omega (arith, ap length some, length-parent m q)

  module _ (F : Folding) (rs : List Path) (s p : Path) (looks : LooksAt F rs s p o) where
    looked : LooksAt F rs s p (Some q)
    looked = subst (LooksAt F rs s p) is looks

    pub apart-looked : (i : ℕ) → IsApart F rs s q i → IsApart F rs s p i
    apart-looked i w = apart-below F rs s q p i w looked.0

    pub looks-next : (n : Option Path) → (IsNone n ↔ (q ≡ [])) → IfSome n (λ r. r ≡ parent q)
        → FitsAt F rs s q → LooksAt F rs s p n
    looks-next None none some here = looked.1 (top-fits F rs s q (none.0 refl) here)
    looks-next (Some r) none some here = (
      is_over-transitive r q p (subst (λ t. is_over t q ≡ true) (sym some) (is_over-parent q))
          looked.0,
      λ above. looked.1 (fits-more F rs s q here (subst (Fits F rs s) some above)),
    )
