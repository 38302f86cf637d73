-- What is written by a profile that is said from above, at a root that alone counts.
use Rattle.std.proofs.Common.{◌≡◌, ◌==◌, ℕ, suc, Bool, true, false, not, ◌&&◌, ◌||◌, List, [], ◌∷◌, ◌++◌, length, map, Option, Some, refl, sym, ap, ◌∙◌, subst, arith}
use Rattle.std.specs.Prelude.{IsTrue}
use Rattle.std.specs.List.{list_all, list_any}
use Rattle.std.proofs.Math.Bool.{and-false, or-true}
use Rattle.std.proofs.lemmas.Bool.{and_from, and_parts}
use Rattle.std.proofs.lemmas.Bool.Decides.{nat_tests}
use Rattle.std.proofs.lemmas.Option.{same_Some}
use Rattle.hub_text.specs.laws.Test.{any-alike, any-map}
use Rattle.hub_path.specs.Path.{Name, Path, is_over, is_path, is_place, none_over, path_eq}
use Rattle.hub_path.specs.declared.side.Side.{Side}
use Rattle.hub_path.specs.declared.side.Side.TheVariants.{Left, Right}
use Rattle.hub_path.specs.laws.General.{is_over-reflexive, path_eq-decides, path_eq-turned}
use Rattle.hub_glob.specs.Glob.{matches}
use Rattle.hub_glob.specs.laws.OneStep.{nonzero}
use Rattle.hub_profile.specs.Facts.{are_roots}
use Rattle.hub_profile.specs.Parts.{Parts, at_side, has_root, some_passes}
use Rattle.hub_profile.specs.declared.bars.Bars.{Bars}
use Rattle.hub_profile.specs.declared.partial.Partial.{Partial}
use Rattle.hub_profile.specs.declared.verb.Verb.{Verb}
use Rattle.hub_profile.specs.declared.verb.Verb.TheVariants.{Create, Update, Delete}
use Rattle.hub_reach.specs.Reach.{covers, may_at, reach, write, writes_at}
use Rattle.hub_nested.specs.Lifted.{all_bars, just, lifted, lifted_bar, lifted_spec, only_below, said_from}
use Rattle.hub_nested.specs.Placed.{placed, two_roots}
use Rattle.hub_nested.proofs.Fronts.{just-below, lifted-matches}
use Rattle.hub_nested.proofs.Reaching.{reach-placed, reach-said, said-lifted, some-name}

own : (r : Path) → path_eq r r ≡ true
own r = (path_eq-decides r r).1 refl

-- Roots that aren't nested are different.
apart : (r s : Path) → not (is_over r s || is_over s r) ≡ true → path_eq r s ≡ false
apart r s h = go (path_eq r s) refl
  where
    over : r ≡ s → is_over r s ≡ true
    over e = subst (λ t. is_over r t ≡ true) e (is_over-reflexive r)

    go : (b : Bool) → path_eq r s ≡ b → path_eq r s ≡ false
    go true e =
        let yes : is_over r s ≡ true = over ((path_eq-decides r s).0 e) in
        let no : not (true || is_over s r) ≡ true = sym (ap (λ b. not (b || is_over s r)) yes) ∙ h in cc
    go false e = e

abbrev root_test : List Path → Path → Side → Bool
root_test rs r d = some_passes (path_eq r) (at_side rs d)

too-many : (n : ℕ) (a b : Bool) → (suc (suc (suc n)) == 2 && a && b) ≡ true → false ≡ true
too-many n a b h =
    let other : (suc (suc (suc n)) == 2) ≡ false = grind (arith, nat_tests) in
    sym (ap (λ c. (c && a) && b) other) ∙ h

two-first : (r s : Path) → are_roots (r ∷ s ∷ []) ≡ true → not (is_over r s || is_over s r) ≡ true
two-first r s h =
    let all = and_parts (length (r ∷ s ∷ []) == 2 && list_all is_place (r ∷ s ∷ [])) (none_over (r ∷ s ∷ [])) h in
    let none = and_parts (list_all (λ q. not (is_over r q || is_over q r)) (s ∷ [])) (none_over (s ∷ [])) all.1 in
    (and_parts (not (is_over r s || is_over s r)) true none.0).0

-- Which of its roots a profile has on which side, and where it is placed.
pub same-root : (a : Side) (rs : List Path) (r u aside : Path) → are_roots rs ≡ true → at_side rs a ≡ Some r
    → path_eq u aside ≡ false → (d : Side) → root_test (two_roots a u aside) u d ≡ root_test rs r d
same-root a [] r u aside h at other d = cc
same-root a (r0 ∷ []) r u aside h at other d = cc
same-root Left (r0 ∷ r1 ∷ []) r u aside h at other Left =
    own u ∙ sym (ap (path_eq r) (same_Some r0 r at) ∙ own r)
same-root Left (r0 ∷ r1 ∷ []) r u aside h at other Right =
    other ∙ sym (ap (λ s. path_eq s r1) (sym (same_Some r0 r at)) ∙ apart r0 r1 (two-first r0 r1 h))
same-root Right (r0 ∷ r1 ∷ []) r u aside h at other Left =
    other ∙ sym (ap (λ s. path_eq s r0) (sym (same_Some r1 r at))
    ∙ (path_eq-turned r1 r0 ∙ apart r0 r1 (two-first r0 r1 h)))
same-root Right (r0 ∷ r1 ∷ []) r u aside h at other Right =
    own u ∙ sym (ap (path_eq r) (same_Some r1 r at) ∙ own r)
same-root a (r0 ∷ r1 ∷ r2 ∷ rs) r u aside h at other d =
    let none : false ≡ true =
    too-many (length rs) (list_all is_place (r0 ∷ r1 ∷ r2 ∷ rs)) (none_over (r0 ∷ r1 ∷ r2 ∷ rs)) h in cc

-- A root of a profile is a place.
pub root-place : (a : Side) (rs : List Path) (r : Path) → are_roots rs ≡ true → at_side rs a ≡ Some r → is_place r ≡ true
root-place a rs r h at =
    let all = and_parts (length rs == 2 && list_all is_place rs) (none_over rs) h in
    each a rs (and_parts (length rs == 2) (list_all is_place rs) all.0).1 at
  where
    each : (a : Side) (rs : List Path) → list_all is_place rs ≡ true → at_side rs a ≡ Some r → is_place r ≡ true
    each Left [] all at = cc
    each Right [] all at = cc
    each Left (r0 ∷ rs) all at =
        ap is_place (sym (same_Some r0 r at)) ∙ (and_parts (is_place r0) (list_all is_place rs) all).0
    each Right (r0 ∷ []) all at = cc
    each Right (r0 ∷ r1 ∷ rs) all at =
        ap is_place (sym (same_Some r1 r at))
        ∙ (and_parts (is_place r1) (list_all is_place rs) (and_parts (is_place r0) (list_all is_place (r1 ∷ rs)) all).1).0

-- And it has a name.
named : (a : Side) (rs : List Path) → are_roots rs ≡ true → at_side rs a ≡ Some [] → false ≡ true
named a [] h at = cc
named a (r0 ∷ []) h at = cc
named Left (r0 ∷ r1 ∷ []) h at =
    let none : not (is_over r0 r1 || is_over r1 r0) ≡ true = two-first r0 r1 h in
    sym (ap (λ r. not (is_over r r1 || is_over r1 r)) (same_Some r0 [] at)) ∙ none
named Right (r0 ∷ r1 ∷ []) h at =
    let none : not (is_over r0 r1 || is_over r1 r0) ≡ true = two-first r0 r1 h in
    sym (ap (λ r. not (is_over r0 r || is_over r r0)) (same_Some r1 [] at) ∙ ap not (or-true (is_over r0 []))) ∙ none
named a (r0 ∷ r1 ∷ r2 ∷ rs) h at =
    too-many (length rs) (list_all is_place (r0 ∷ r1 ∷ r2 ∷ rs)) (none_over (r0 ∷ r1 ∷ r2 ∷ rs)) h

pub root-path : (a : Side) (rs : List Path) (r : Path) → are_roots rs ≡ true → at_side rs a ≡ Some r → is_path r ≡ true
root-path a rs [] h at = let no : false ≡ true = named a rs h at in cc
root-path a rs (n ∷ r) h at = (λ i. not (nonzero (length r) i) && root-place a rs (n ∷ r) h at i)

pub has-placed : (a : Side) (u aside : Path) (P : Parts) → has_root (placed a u aside P) u ≡ true
has-placed Left u aside P = ap (λ b. b || (path_eq aside u || false)) (own u)
has-placed Right u aside P =
    ap (λ b. path_eq aside u || (b || false)) (own u) ∙ or-true (path_eq aside u)

-- What may be done, by which roots are where.
abbrev may_by : (Side → Bool) → Option Side → List Bars → Verb → Bool
may_by at force bars v =
    not (some_passes at force
    || (at Left && some_passes (covers v) (at_side bars Left) || at Right && some_passes (covers v) (at_side bars Right)))

abbrev barred_by : (Side → Bool) → Verb → Path → List Partial → Bool
barred_by at v p bs = list_any (λ b. at b.side && covers v b.bars && matches b.spec p) bs

module _ (P : Parts) (a : Side) (r u aside : Path) (roots : are_roots P.roots ≡ true) (at_a : at_side P.roots a ≡ Some r)
    (other : path_eq u aside ≡ false) where
  abbrev same : (d : Side) → root_test (two_roots a u aside) u d ≡ root_test P.roots r d
  same = same-root a P.roots r u aside roots at_a other

  -- At its own root.
  may-own : (p : Path) (v : Verb) → may_at (placed a u aside P) u p v ≡ may_at P r p v
  may-own p v =
      (λ i. may_by (λ d. same d i) P.force P.bars v && not (barred_by (λ d. same d i) v p P.partial))

  -- At a root above, where bars on x alone don't matter to what is below it.
  fixed-free : (n : Name) (x : Path) (m : Name) (p : Path) (v : Verb) (d : Side)
      → (root_test (two_roots a u aside) u d && covers v all_bars && matches (just (n ∷ x)) (n ∷ x ++ m ∷ p)) ≡ false
  fixed-free n x m p v d =
      ap (λ b. root_test (two_roots a u aside) u d && covers v all_bars && b) (just-below n x m p)
      ∙ and-false (root_test (two_roots a u aside) u d && covers v all_bars)

  bars-lifted : (n : Name) (x : Path) (m : Name) (p : Path) (v : Verb)
      → barred_by (root_test (two_roots a u aside) u) v (n ∷ x ++ m ∷ p) (map (lifted_bar (n ∷ x)) P.partial)
      ≡ barred_by (root_test P.roots r) v (m ∷ p) P.partial
  bars-lifted n x m p v =
      sym (any-map (λ b. root_test (two_roots a u aside) u b.side && covers v b.bars && matches b.spec (n ∷ x ++ m ∷ p))
      (lifted_bar (n ∷ x)) P.partial)
      ∙ any-alike
      (λ b. root_test (two_roots a u aside) u b.side && covers v b.bars && matches (lifted_spec (n ∷ x) b.spec) (n ∷ x ++ m ∷ p))
      (λ b. root_test P.roots r b.side && covers v b.bars && matches b.spec (m ∷ p)) P.partial
      (λ b i. same b.side i && covers v b.bars && lifted-matches n x b.spec m p i)

  may-lifted : (n : Name) (x : Path) (m : Name) (p : Path) (v : Verb)
      → may_at (placed a u aside (lifted (n ∷ x) P)) u (n ∷ x ++ m ∷ p) v ≡ may_at P r (m ∷ p) v
  may-lifted n x m p v =
      (λ i. may_by (λ d. same d i) P.force P.bars v
      && not (fixed-free n x m p v Left i || (fixed-free n x m p v Right i || bars-lifted n x m p v i)))

  may-some : (n : Name) (x p : Path) (v : Verb) → not (length p == 0) ≡ true
      → may_at (placed a u aside (lifted (n ∷ x) P)) u (n ∷ x ++ p) v ≡ may_at P r p v
  may-some n x [] v some = let none : false ≡ true = some in cc
  may-some n x (m ∷ p) v some = may-lifted n x m p v

  pub may-said : (x p : Path) (v : Verb) → not (length p == 0) ≡ true
      → may_at (placed a u aside (said_from x P)) u (x ++ p) v ≡ may_at P r p v
  may-said [] p v some = may-own p v
  may-said (n ∷ x) p v some =
      ap (λ (S : Parts). may_at (placed a u aside S) u (n ∷ x ++ p) v) (said-lifted n x P) ∙ may-some n x p v some

  -- What is kept of the profile below x alone may do there what the profile may.
  pub may-below : (n : Name) (x : Path) (m : Name) (p : Path) (v : Verb)
      → may_at (placed a u aside (only_below (n ∷ x) P)) u (n ∷ x ++ m ∷ p) v ≡ may_at P r (n ∷ x ++ m ∷ p) v
  may-below n x m p v =
      (λ i. may_by (λ d. same d i) P.force P.bars v
      && not (fixed-free n x m p v Left i
      || (fixed-free n x m p v Right i || barred_by (λ d. same d i) v (n ∷ x ++ m ∷ p) P.partial)))

  pub write-said : (x p : Path) → is_place x ≡ true → IsTrue (write P r p)
      → IsTrue (write (placed a u aside (said_from x P)) u (x ++ p))
  write-said x p place h =
      let L = placed a u aside (said_from x P) in
      let two = and_parts (writes_at P r p) (reach P p) h in
      let some = some-name P p two.1 in
      let may = and_parts (has_root P r) (may_at P r p Create || may_at P r p Update || may_at P r p Delete) two.0 in
      let new : (may_at L u (x ++ p) Create || may_at L u (x ++ p) Update || may_at L u (x ++ p) Delete) ≡ true =
      (λ i. may-said x p Create some i || may-said x p Update some i || may-said x p Delete some i) ∙ may.1 in
      and_from (writes_at L u (x ++ p)) (reach L (x ++ p))
      (and_from (has_root L u) (may_at L u (x ++ p) Create || may_at L u (x ++ p) Update || may_at L u (x ++ p) Delete)
      (has-placed a u aside (said_from x P)) new)
      (reach-placed a u aside (said_from x P) (x ++ p) ∙ reach-said x P p place two.1)
