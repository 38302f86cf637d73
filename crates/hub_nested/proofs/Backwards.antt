-- Clashes of a set that is counted from the upper root, at the roots of its own.
use Rattle.std.proofs.Common.{◌≡◌, ◌==◌, ◌⊎◌, inl, inr, ⊎_elim, cond, Bool, true, false, not, ◌&&◌, ◌||◌, List, [], ◌∷◌, ◌++◌, length, drop, map, Some, refl, sym, ap, ◌∙◌, subst, append-nil}
use Rattle.std.specs.Prelude.{IsTrue}
use Rattle.std.specs.List.{list_all, list_any}
use Rattle.std.proofs.Math.Bool.{and-false, or-true}
use Rattle.std.proofs.lemmas.Bool.{and_from, and_parts, or_cases}
use Rattle.std.proofs.lemmas.Option.{same_Some}
use Rattle.hub_text.specs.laws.Test.{any-map, any-weaker}
use Rattle.hub_path.specs.Path.{Name, Path, is_over, is_place, path_eq}
use Rattle.hub_path.specs.declared.side.Side.{Side}
use Rattle.hub_path.specs.declared.side.Side.TheVariants.{Left, Right}
use Rattle.hub_path.specs.laws.General.{is_over-append, is_over-rest, is_over-transitive, path_eq-decides, path_eq-turned}
use Rattle.hub_glob.specs.Glob.{matches}
use Rattle.hub_profile.specs.Facts.{are_roots}
use Rattle.hub_profile.specs.Parts.{IsProfile, Parts, at_side, has_root}
use Rattle.hub_profile.specs.declared.verb.Verb.{Verb}
use Rattle.hub_profile.specs.declared.verb.Verb.TheVariants.{Create, Update, Delete}
use Rattle.hub_reach.specs.Reach.{covers, is_partly_barred, is_partly_barred_by, may, may_at, reach, write, writes_at}
use Rattle.hub_reach.specs.Safe.{Clash}
use Rattle.hub_reach.specs.laws.General.{reach-below}
use Rattle.hub_nested.specs.Lifted.{all_bars, just, lifted, lifted_bar, said_from}
use Rattle.hub_nested.specs.Meeting as said
use Rattle.hub_nested.specs.Placed.{asides, placed, two_roots}
use Rattle.hub_nested.specs.Through.{WritesOverAt, keeps_all}
use Rattle.hub_nested.specs.declared.meeting.Meeting.TheVariants as meets
use Rattle.hub_nested.specs.declared.meeting.Together.{Together}
use Rattle.hub_nested.proofs.Asides.{asides-differ, first-other, second-other}
use Rattle.hub_nested.proofs.Clashing.{down-place, is-said, over-said}
use Rattle.hub_nested.proofs.Fronts.{just-own}
use Rattle.hub_nested.proofs.Reaching.{over-below, reach-placed, reach-some, said-lifted, some-name}
use Rattle.hub_nested.proofs.Writing.{may-said, root-place}

is-same : {X : Type 0} (b : Bool) (xs : List X) → list_any (λ x. b) xs ≡ true → b ≡ true
is-same true xs h = refl
is-same false [] h = h
is-same false (x ∷ xs) h = is-same false xs h

-- What a profile reaches or passes through.
abbrev reach_all : Parts → Path → Bool
reach_all Q q = reach Q q || (length q == 0 && keeps_all Q)

reached : (Q : Parts) (q : Path) → reach Q q ≡ true → reach_all Q q ≡ true
reached Q q h = ap (λ b. b || (length q == 0 && keeps_all Q)) h

-- All that is reached of a profile that is said from above lies below.
module _ (n : Name) (x : Path) (P : Parts) (place : is_place (n ∷ x) ≡ true) (t : Path) (h : IsTrue (reach (lifted (n ∷ x) P) t)) where
  some-value : list_any (λ v. is_over (n ∷ x ++ v) t) P.paths ≡ true
  some-value =
      any-map (λ s. is_over s t) (λ v. n ∷ x ++ v) P.paths ∙ reach-below (lifted (n ∷ x) P) t h

  lies-below : t ≡ n ∷ x ++ drop (length (n ∷ x)) t
  lies-below =
      is_over-rest (n ∷ x) t
      (is-same (is_over (n ∷ x) t) P.paths
      (any-weaker (λ v. is_over (n ∷ x ++ v) t) (λ v. is_over (n ∷ x) t) P.paths
      (λ v e. is_over-transitive (n ∷ x) (n ∷ x ++ v) t (is_over-append (n ∷ x) v) e) some-value))

  top-only : (v : Path) → is_over v [] ≡ true → (length v == 0) ≡ true
  top-only [] e = refl
  top-only (m ∷ v) e = cc

  passes : (q : Path) → t ≡ n ∷ x ++ q → reach_all P q ≡ true
  passes [] e =
      let kept : keeps_all P ≡ true =
      any-weaker (λ v. is_over (n ∷ x ++ v) t) (λ v. length v == 0) P.paths
      (λ v over. top-only v (sym (over-below (n ∷ x) v []) ∙ (ap (is_over (n ∷ x ++ v)) (sym e) ∙ over))) some-value in
      ap (λ b. reach P [] || (true && b)) kept ∙ or-true (reach P [])
  passes (m ∷ q) e =
      reached P (m ∷ q)
      (sym (reach-some n x P place m q) ∙ subst (λ z. IsTrue (reach (lifted (n ∷ x) P) z)) e h)

-- A path that is reached from above, as one from the profile's own root.
reach-back : (y : Path) (Q : Parts) (t : Path) → is_place y ≡ true → IsTrue (reach (said_from y Q) t)
    → (q : Path) × (t ≡ y ++ q) × IsTrue (reach_all Q q)
reach-back [] Q t place h = (t, refl, reached Q t h)
reach-back (n ∷ y) Q t place h =
    let own = subst (λ (S : Parts). IsTrue (reach S t)) (said-lifted n y Q) h in
    let e = lies-below n y Q place t own in
    (drop (length (n ∷ y)) t, e, passes n y Q place t own (drop (length (n ∷ y)) t) e)

own : (u : Path) → path_eq u u ≡ true
own u = (path_eq-decides u u).1 refl

covers-all : (v : Verb) → covers v all_bars ≡ true
covers-all Create = refl
covers-all Update = refl
covers-all Delete = refl

-- Nothing is written at x itself.
module _ (n : Name) (x : Path) (P : Parts) (u aside : Path) where
  abbrev L : Side → Parts
  L a = placed a u aside (lifted (n ∷ x) P)

  barred-top : (a : Side) (v : Verb) → is_partly_barred (L a) u (n ∷ x) v ≡ true
  barred-top Left v =
      (λ i. ((own u i && covers-all v i) && just-own n x i)
      || list_any (is_partly_barred_by (L Left) u v (n ∷ x)) (drop 1 (L Left).partial))
  barred-top Right v =
      (λ i. is_partly_barred_by (L Right) u v (n ∷ x) (record { side = Left; bars = all_bars; spec = just (n ∷ x) })
      || (((own u i && covers-all v i) && just-own n x i)
      || list_any (is_partly_barred_by (L Right) u v (n ∷ x)) (map (lifted_bar (n ∷ x)) P.partial)))
      ∙ or-true (is_partly_barred_by (L Right) u v (n ∷ x) (record { side = Left; bars = all_bars; spec = just (n ∷ x) }))

  none-top : (a : Side) (v : Verb) → may_at (L a) u (n ∷ x) v ≡ false
  none-top a v = ap (λ b. may (L a) u v && not b) (barred-top a v) ∙ and-false (may (L a) u v)

  writes-top : (a : Side) → writes_at (L a) u (n ∷ x) ≡ false
  writes-top a =
      (λ i. has_root (L a) u && (none-top a Create i || none-top a Update i || none-top a Delete i))
      ∙ and-false (has_root (L a) u)

has-own : (a : Side) (rs : List Path) (r : Path) → at_side rs a ≡ Some r → list_any (λ s. path_eq s r) rs ≡ true
has-own Left [] r at = cc
has-own Left (s ∷ rs) r at =
    ap (λ b. b || list_any (λ t. path_eq t r) rs) (ap (λ t. path_eq t r) (same_Some s r at) ∙ own r)
has-own Right [] r at = cc
has-own Right (s ∷ []) r at = cc
has-own Right (s ∷ t ∷ rs) r at =
    ap (λ b. path_eq s r || (b || list_any (λ z. path_eq z r) rs)) (ap (λ z. path_eq z r) (same_Some t r at) ∙ own r)
    ∙ or-true (path_eq s r)

module _ (P : Parts) (a : Side) (r u aside : Path) (roots : are_roots P.roots ≡ true) (at_a : at_side P.roots a ≡ Some r)
    (other : path_eq u aside ≡ false) where
  abbrev S : Path → Parts
  S x = placed a u aside (said_from x P)

  write-own : (x p : Path) → IsTrue (reach P p) → IsTrue (writes_at (S x) u (x ++ p)) → IsTrue (write P r p)
  write-own x p h k =
      let some = some-name P p h in
      let may = and_parts (has_root (S x) u)
      (may_at (S x) u (x ++ p) Create || may_at (S x) u (x ++ p) Update || may_at (S x) u (x ++ p) Delete) k in
      let same = λ (v : Verb). may-said P a r u aside roots at_a other x p v some in
      let mine : (may_at P r p Create || may_at P r p Update || may_at P r p Delete) ≡ true =
      (λ i. sym (same Create) i || sym (same Update) i || sym (same Delete) i) ∙ may.1 in
      and_from (writes_at P r p) (reach P p)
      (and_from (has_root P r) (may_at P r p Create || may_at P r p Update || may_at P r p Delete) (has-own a P.roots r at_a) mine) h

  -- A path that is written from above, likewise.
  write-back : (x t : Path) → is_place x ≡ true → IsTrue (write (S x) u t) → (p : Path) × (t ≡ x ++ p) × IsTrue (write P r p)
  write-back [] t place h =
      let two = and_parts (writes_at (S []) u t) (reach (S []) t) h in
      (t, refl, write-own [] t (sym (reach-placed a u aside P t) ∙ two.1) two.0)
  write-back (n ∷ x) t place h =
      let two = and_parts (writes_at (S (n ∷ x)) u t) (reach (S (n ∷ x)) t) h in
      let mine : IsTrue (reach (said_from (n ∷ x) P) t) = sym (reach-placed a u aside (said_from (n ∷ x) P) t) ∙ two.1 in
      let its = subst (λ (Z : Parts). IsTrue (reach Z t)) (said-lifted n x P) mine in
      go (drop (length (n ∷ x)) t) (lies-below n x P place t its) its two.0
    where
      go : (q : Path) → t ≡ n ∷ x ++ q → IsTrue (reach (lifted (n ∷ x) P) t) → IsTrue (writes_at (S (n ∷ x)) u t)
          → (p : Path) × (t ≡ n ∷ x ++ p) × IsTrue (write P r p)
      go [] e its k =
          let at_top : writes_at (placed a u aside (lifted (n ∷ x) P)) u (n ∷ x) ≡ true =
          subst (λ (Z : Parts). writes_at (placed a u aside Z) u (n ∷ x) ≡ true) (said-lifted n x P)
          (subst (λ z. writes_at (S (n ∷ x)) u z ≡ true) (e ∙ append-nil (n ∷ x)) k) in
          let no : false ≡ true = sym (writes-top n x P u aside a) ∙ at_top in cc
      go (m ∷ q) e its k = (
        m ∷ q,
        e,
        write-own (n ∷ x) (m ∷ q)
            (sym (reach-some n x P place m q) ∙ subst (λ z. IsTrue (reach (lifted (n ∷ x) P) z)) e its)
            (subst (λ z. IsTrue (writes_at (S (n ∷ x)) u z)) e k),
      )

-- Roots of a placed profile.
in-two : (a : Side) (u aside r : Path) → list_any (λ s. path_eq s r) (two_roots a u aside) ≡ true → (u ≡ r) ⊎ (aside ≡ r)
in-two Left u aside r h =
    ⊎_elim (λ e. inl ((path_eq-decides u r).0 e))
    (λ rest. ⊎_elim (λ e. inr ((path_eq-decides aside r).0 e)) (λ none. cc) (or_cases (path_eq aside r) false rest))
    (or_cases (path_eq u r) (path_eq aside r || false) h)
in-two Right u aside r h =
    ⊎_elim (λ e. inr ((path_eq-decides aside r).0 e))
    (λ rest. ⊎_elim (λ e. inl ((path_eq-decides u r).0 e)) (λ none. cc) (or_cases (path_eq u r) false rest))
    (or_cases (path_eq aside r) (path_eq u r || false) h)

differ : (r s : Path) → path_eq r s ≡ false → r ≡ s → ⊥
differ r s other same = let no : true ≡ false = sym ((path_eq-decides r s).1 same) ∙ other in cc

module _ (a b : Side) (u one two : Path) (first : path_eq u one ≡ false) (second : path_eq u two ≡ false)
    (other : path_eq one two ≡ false) where
  common-root : (r : Path) → list_any (λ s. path_eq s r) (two_roots a u one) ≡ true
      → list_any (λ s. path_eq s r) (two_roots b u two) ≡ true → u ≡ r
  common-root r h k =
      ⊎_elim (λ e. e)
      (λ (e : one ≡ r). ⊎_elim (λ f. f) (λ (f : two ≡ r). absurd (differ one two other (e ∙ sym f))) (in-two b u two r k))
      (in-two a u one r h)

  none-shared : list_all (λ r. list_any (λ s. path_eq s r) (two_roots b u two)) (two_roots a u one) ≡ true → ⊥
  none-shared h =
      ⊎_elim (λ (e : u ≡ one). differ u one first e) (λ (e : two ≡ one). differ one two other (sym e))
      (in-two b u two one (has-aside a h))
    where
      has-aside : (a : Side) → list_all (λ r. list_any (λ s. path_eq s r) (two_roots b u two)) (two_roots a u one) ≡ true
          → list_any (λ s. path_eq s one) (two_roots b u two) ≡ true
      has-aside Left k =
          (and_parts (list_any (λ s. path_eq s one) (two_roots b u two)) true
          (and_parts (list_any (λ s. path_eq s u) (two_roots b u two)) (list_any (λ s. path_eq s one) (two_roots b u two) && true) k).1).0
      has-aside Right k =
          (and_parts (list_any (λ s. path_eq s one) (two_roots b u two)) (list_any (λ s. path_eq s u) (two_roots b u two) && true) k).0

clash-back : (P Q : Parts) (a b : Side) (r s u x y one two : Path) → IsProfile P → IsProfile Q
    → at_side P.roots a ≡ Some r → at_side Q.roots b ≡ Some s → r ≡ u ++ x → s ≡ u ++ y → path_eq u one ≡ false
    → path_eq u two ≡ false → path_eq one two ≡ false
    → Clash (placed a u one (said_from x P)) (placed b u two (said_from y Q)) → WritesOverAt P Q r s
clash-back P Q a b r s u x y one two own_p own_q at_a at_b e f first second other (inr c) =
    absurd (none-shared a b u one two first second other c.0)
clash-back P Q a b r s u x y one two own_p own_q at_a at_b e f first second other (inl c) =
    let same = common-root a b u one two first second other c.0 c.1 c.2 in
    let place_x = down-place u r x e (root-place a P.roots r own_p.roots at_a) in
    let place_y = down-place u s y f (root-place b Q.roots s own_q.roots at_b) in
    let written : IsTrue (write (placed a u one (said_from x P)) u c.3.0) =
    subst (λ z. IsTrue (write (placed a u one (said_from x P)) z c.3.0)) (sym same) c.3.3 in
    let w = write-back P a r u one own_p.roots at_a first x c.3.0 place_x written in
    let z = reach-back y Q c.3.1 place_y (sym (reach-placed b u two (said_from y Q) c.3.1) ∙ c.3.4) in (
      w.0,
      z.0,
      over-said u r s x y w.0 z.0 e f ∙ ((λ i. is_over (sym w.1 i) (sym z.1 i)) ∙ c.3.2),
      w.2,
      z.2,
    )

module _ (P Q : Parts) (a b : Side) (r s : Path) (at_a : at_side P.roots a ≡ Some r) (at_b : at_side Q.roots b ≡ Some s) (t : Together)
    (own_p : IsProfile P) (own_q : IsProfile Q) (e : said.meeting P a Q b ≡ meets.Counted t) where
  pub first-back : Clash t.first t.second → WritesOverAt P Q r s
  first-back c =
      let w = is-said P Q a b r s at_a at_b t e in
      clash-back P Q a b r s w.root w.first w.second (asides w.root).0 (asides w.root).1 own_p own_q at_a at_b w.upper w.lower
      (first-other w.root) (second-other w.root) (asides-differ w.root)
      (subst (λ (z : Together). Clash z.first z.second) (sym w.are) c)

  pub second-back : Clash t.second t.first → WritesOverAt Q P s r
  second-back c =
      let w = is-said P Q a b r s at_a at_b t e in
      clash-back Q P b a s r w.root w.second w.first (asides w.root).1 (asides w.root).0 own_q own_p at_b at_a w.lower w.upper
      (second-other w.root) (first-other w.root)
      (path_eq-turned (asides w.root).1 (asides w.root).0 ∙ asides-differ w.root)
      (subst (λ (z : Together). Clash z.second z.first) (sym w.are) c)
