-- The roots of the other sides.
use Rattle.std.proofs.Common.{◌≡◌, ◌==◌, Bool, true, false, not, ◌&&◌, ◌||◌, [], ◌∷◌, length, refl, sym, ap, ◌∙◌}
use Rattle.std.specs.Prelude.{codes, if◌then◌else◌}
use Rattle.std.proofs.lemmas.Bool.{and_parts}
use Rattle.hub_path.specs.Path.{Name, Path, is_over, is_path, is_place, name_eq, path_eq}
use Rattle.hub_path.specs.declared.side.Side.{Side}
use Rattle.hub_path.specs.declared.side.Side.TheVariants.{Left, Right}
use Rattle.hub_path.specs.laws.General.{name_eq-decides, path_eq-decides}
use Rattle.hub_profile.specs.Facts.{are_roots}
use Rattle.hub_nested.specs.Placed.{asides, one_root, two_root, two_roots, zero_root}

-- Paths of which a test says different things are different.
differ : (f : Path → Bool) (u r : Path) (b : Bool) → f u ≡ b → f r ≡ not b → path_eq u r ≡ false
differ f u r b h k = go (path_eq u r) refl
  where
    turned : (c : Bool) → c ≡ not c → false ≡ true
    turned true e = sym e
    turned false e = e

    go : (c : Bool) → path_eq u r ≡ c → path_eq u r ≡ false
    go true e =
        let same : b ≡ not b = sym h ∙ (ap f ((path_eq-decides u r).0 e) ∙ k) in
        let no : false ≡ true = turned b same in cc
    go false e = e

-- Where a path of one name is over another path, one of another name isn't.
not-over : (n k : Name) (u : Path) → name_eq k n ≡ false → is_over (n ∷ []) u ≡ true → is_over (k ∷ []) u ≡ false
not-over n k [] other h = cc
not-over n k (m ∷ u) other h =
    let same : n ≡ m = (name_eq-decides n m).0 (and_parts (name_eq n m) true h).0 in
    ap (λ b. b && true) (ap (name_eq k) (sym same) ∙ other)

-- Neither of the two is the root, or over it.
record IsAside (u r : Path) : Type 0 where
  other : path_eq u r ≡ false
  below : is_over r u ≡ false
  place : is_place r ≡ true
  short : length r ≡ 1

abbrev two-are : Bool → Bool → Path × Path
two-are b c = if b then (one_root, two_root) else (if c then (zero_root, two_root) else (zero_root, one_root))

module _ (u : Path) where
  are : (b c : Bool) → is_over zero_root u ≡ b → is_over one_root u ≡ c
      → IsAside u (two-are b c).0 × IsAside u (two-are b c).1
  are true c h k = (
    record {
      other = differ (is_over zero_root) u one_root true h refl;
      below = not-over (codes "0") (codes "1") u refl h;
      place = refl;
      short = refl;
    },
    record {
      other = differ (is_over zero_root) u two_root true h refl;
      below = not-over (codes "0") (codes "2") u refl h;
      place = refl;
      short = refl;
    },
  )
  are false true h k = (
    record { other = differ (is_over zero_root) u zero_root false h refl; below = h; place = refl; short = refl },
    record {
      other = differ (is_over one_root) u two_root true k refl;
      below = not-over (codes "1") (codes "2") u refl k;
      place = refl;
      short = refl;
    },
  )
  are false false h k = (
    record { other = differ (is_over zero_root) u zero_root false h refl; below = h; place = refl; short = refl },
    record { other = differ (is_over one_root) u one_root false k refl; below = k; place = refl; short = refl },
  )

  both : IsAside u (asides u).0 × IsAside u (asides u).1
  both = are (is_over zero_root u) (is_over one_root u) refl refl

  pub first-other : path_eq u (asides u).0 ≡ false
  first-other = both.0.other

  pub second-other : path_eq u (asides u).1 ≡ false
  second-other = both.1.other

-- The two differ.
two-differ : (b c : Bool) → path_eq (two-are b c).0 (two-are b c).1 ≡ false
two-differ true c = refl
two-differ false true = refl
two-differ false false = refl

pub asides-differ : (u : Path) → path_eq (asides u).0 (asides u).1 ≡ false
asides-differ u = two-differ (is_over zero_root u) (is_over one_root u)

-- A path with a name is over one of a single name only if they are over each other.
above-none : (m : Name) (u r : Path) → length r ≡ 1 → is_over r (m ∷ u) ≡ false → is_over (m ∷ u) r ≡ false
above-none m u [] short h = cc
above-none m u (n ∷ []) short h = go (name_eq m n) refl
  where
    go : (b : Bool) → name_eq m n ≡ b → (name_eq m n && is_over u []) ≡ false
    go true e =
        let turned : name_eq n m ≡ true = (name_eq-decides n m).1 (sym ((name_eq-decides m n).0 e)) in
        let none : true ≡ false = sym (ap (λ b. b && true) turned) ∙ h in cc
    go false e = ap (λ b. b && is_over u []) e
above-none m u (n ∷ k ∷ r) short h = cc

roots-of : (a : Side) (r aside : Path) → is_place r ≡ true → is_place aside ≡ true → is_over r aside ≡ false
    → is_over aside r ≡ false → are_roots (two_roots a r aside) ≡ true
roots-of Left r aside h k l o =
    (λ i. (h i && (k i && true)) && ((not (l i || o i) && true) && true))
roots-of Right r aside h k l o =
    (λ i. (k i && (h i && true)) && ((not (o i || l i) && true) && true))

placed-roots : (a : Side) (u r : Path) → is_path u ≡ true → IsAside u r → are_roots (two_roots a u r) ≡ true
placed-roots a [] r h aside = cc
placed-roots a (m ∷ u) r h aside =
    roots-of a (m ∷ u) r (and_parts (not (length (m ∷ u) == 0)) (is_place (m ∷ u)) h).1 aside.place
    (above-none m u r aside.short aside.below) aside.below

-- With either of them a root makes two roots.
pub first-roots : (a : Side) (u : Path) → is_path u ≡ true → are_roots (two_roots a u (asides u).0) ≡ true
first-roots a u h = placed-roots a u (asides u).0 h (both u).0

pub second-roots : (a : Side) (u : Path) → is_path u ≡ true → are_roots (two_roots a u (asides u).1) ≡ true
second-roots a u h = placed-roots a u (asides u).1 h (both u).1
