-- Texts of roots tell roots apart: so a state is a map by root, and one by unordered pair of roots.
use Rattle.std.proofs.Common.{◌≡◌, ℕ, ◌<◌, Bool, true, false, ◌&&◌, ◌||◌, cond, List, [], ◌∷◌, length, refl, sym, ap, ◌∙◌, arith, ◌≢◌}
use Rattle.std.specs.Prelude.{Some}
use Rattle.std.specs.Str.{chars}
use Rattle.std.proofs.lemmas.Str.{chars-encodes}
use Rattle.hub_path.specs.Path.{Path, is_place, text_of, name_cmp, path_cmp, path_eq, path_of}
use Rattle.std.proofs.lemmas.Bool.{and_parts, and_from, or_left, or_right, false≢true}
use Rattle.hub_state.specs.State.{root_chars, root_text, State, Text, is_before, pair_of, with_replica, with_archive, in_order, is_pair, replica_at, archive_at}
use Rattle.std.specs.FinMap as fin
use Rattle.std.specs.Ordering.{eq_by_cmp, ordering_reverse, is_eq, ordering_then}
use Rattle.std.specs.declared.cmp.Ordering.{Ordering}
use Rattle.std.specs.declared.cmp.Ordering.TheVariants.{Less, Equal, Greater}
use Rattle.hub_path.specs.laws.General.{name_cmp-total, name_cmp-exact, path_cmp-total, path_of-text_of}
use Rattle.hub_path.specs.laws.Text.{scalars-text}
use Rattle.hub_tree.specs.Tree.{Replica, Archive}
use Rattle.hub_tree.specs.laws.MarkMaps.{is_path-names}
use Rattle.hub_tree.specs.laws.Children.{path_eq-cmp}
use Rattle.hub_tree.specs.laws.Order.{same_path, same_name, path_itself, is_eq-then, name_itself}

-- Different roots have different texts.
path_from : (p : Path) → 0 < length p → is_place p ≡ true → path_of (text_of p) ≡ p
path_from p l h = path_of-text_of p (is_path-names p l h)

no_empty_name : (p : Path) → [] ∷ [] ≡ p → is_place p ≡ true → ⊥
no_empty_name p e h = let w : false ≡ true = ap is_place e ∙ h in cc

same_places : (p q : Path) → is_place p ≡ true → is_place q ≡ true → text_of p ≡ text_of q → p ≡ q
same_places [] [] h k e = refl
same_places [] (m ∷ q) h k e =
    absurd (no_empty_name (m ∷ q) (ap path_of e ∙ path_from (m ∷ q) (omega arith) k) k)
same_places (n ∷ p) [] h k e =
    absurd (no_empty_name (n ∷ p) (ap path_of (sym e) ∙ path_from (n ∷ p) (omega arith) h) h)
same_places (n ∷ p) (m ∷ q) h k e =
    sym (path_from (n ∷ p) (omega arith) h) ∙ ap path_of e ∙ path_from (m ∷ q) (omega arith) k

tail : List ℕ → List ℕ
tail [] = []
tail (c ∷ cs) = cs

tail-cons : (c : ℕ) (cs : List ℕ) → tail (c ∷ cs) ≡ cs
unfolding tail
tail-cons c cs = refl

pub same_roots : (r s : Path) → is_place r ≡ true → is_place s ≡ true → root_text r ≡ root_text s
    → r ≡ s
same_roots r s h k e =
    let cs : root_chars r ≡ root_chars s = sym (chars-encodes (root_chars r) (scalars-text r h))
    ∙ ap chars e ∙ chars-encodes (root_chars s) (scalars-text s k) in
    same_places r s h k (sym (tail-cons 47 (text_of r)) ∙ ap tail cs ∙ tail-cons 47 (text_of s))

-- Roots for which the test says no are different.
pub other_roots : (r s : Path) → path_eq r s ≡ false → r ≢ s
other_roots r s e same =
    false≢true (sym e ∙ path_eq-cmp r s ∙ ap (λ p. eq_by_cmp path_cmp p s) same ∙ path_itself s)

-- What is found at two texts.
is_eq-last : (r : Ordering) → is_eq (ordering_then r Equal) ≡ is_eq r
is_eq-last Less = refl
is_eq-last Equal = refl
is_eq-last Greater = refl

pub is_eq-pair : (t u a b : Text)
    → eq_by_cmp path_cmp (t ∷ u ∷ []) (a ∷ b ∷ [])
    ≡ (eq_by_cmp name_cmp t a && eq_by_cmp name_cmp u b)
is_eq-pair t u a b =
    is_eq-then (name_cmp t a) (ordering_then (name_cmp u b) Equal)
    ∙ ap (λ x. is_eq (name_cmp t a) && x) (is_eq-last (name_cmp u b))

-- Two tests that pass together.
same_tests : (a b : Bool) → (a ≡ true → b ≡ true) → (b ≡ true → a ≡ true) → a ≡ b
same_tests true b f g = sym (f refl)
same_tests false true f g = g refl
same_tests false false f g = refl

either : {P : Type 0} (a b : Bool) → (a || b) ≡ true → (a ≡ true → P) → (b ≡ true → P) → P
either true b h f g = f refl
either false b h f g = g h

-- The texts of two roots are equal where the roots are.
texts_tell : (q r : Path) → is_place q ≡ true → is_place r ≡ true
    → eq_by_cmp name_cmp (root_text q) (root_text r) ≡ path_eq q r
texts_tell q r h k =
    same_tests _ _
    (λ e. path_eq-cmp q r
    ∙ ap (λ p. eq_by_cmp path_cmp p r)
    (same_roots q r h k (same_name (root_text q) (root_text r) e)) ∙ path_itself r)
    (λ e. ap (λ p. eq_by_cmp name_cmp (root_text p) (root_text r))
    (same_path q r (sym (path_eq-cmp q r) ∙ e)) ∙ name_itself (root_text r))

pub replica_put : (S : State) (r q : Path) (m : Replica) → is_place r ≡ true → is_place q ≡ true
    → replica_at (with_replica S r m) q ≡ cond (path_eq q r) (Some m) (replica_at S q)
replica_put S r q m h k =
    fin.get-insert name_cmp-total S.replicas (root_text r) m (root_text q)
    ∙ ap (λ b. cond b (Some m) (fin.get S.replicas (root_text q))) (texts_tell q r k h)

-- Two texts in order are the same two turned.
turned : (t u : Text) → in_order t u ≡ in_order u t
turned t u =
    by (name_cmp t u) refl
    ∙ ap (λ x. cond (is_before x) (u ∷ t ∷ []) (t ∷ u ∷ [])) (sym (name_cmp-total.antisymm u t))
  where
    by : (x : Ordering) → name_cmp t u ≡ x
        → cond (is_before (name_cmp t u)) (t ∷ u ∷ []) (u ∷ t ∷ [])
        ≡ cond (is_before (ordering_reverse (name_cmp t u))) (u ∷ t ∷ []) (t ∷ u ∷ [])
    by Less e = ap (λ x. cond (is_before x) (t ∷ u ∷ []) (u ∷ t ∷ [])) e
        ∙ sym (ap (λ x. cond (is_before (ordering_reverse x)) (u ∷ t ∷ []) (t ∷ u ∷ [])) e)
    by Equal e =
        ap (λ x. cond (is_before x) (t ∷ u ∷ []) (u ∷ t ∷ [])) e
        ∙ ap (λ x. u ∷ x ∷ []) (name_cmp-exact t u e)
        ∙ ap (λ x. x ∷ u ∷ []) (sym (name_cmp-exact t u e))
        ∙ sym (ap (λ x. cond (is_before (ordering_reverse x)) (u ∷ t ∷ []) (t ∷ u ∷ [])) e)
    by Greater e = ap (λ x. cond (is_before x) (t ∷ u ∷ []) (u ∷ t ∷ [])) e
        ∙ sym (ap (λ x. cond (is_before (ordering_reverse x)) (u ∷ t ∷ []) (t ∷ u ∷ [])) e)

pub pair_turned : (r s : Path) → pair_of r s ≡ pair_of s r
pair_turned r s = turned (root_text r) (root_text s)

-- Pairs of texts are equal where the texts are, in either order.
abbrev eq_texts : Text → Text → Bool
eq_texts t a = eq_by_cmp name_cmp t a

abbrev are_texts : Text → Text → Text → Text → Bool
are_texts a b t u = (eq_texts t a && eq_texts u b) || (eq_texts t b && eq_texts u a)

turn_and : (a b : Bool) → (a && b) ≡ true → (b && a) ≡ true
turn_and a b h = let w = and_parts a b h in and_from b a w.1 w.0

pair_parts : (t u a b : Text) (x y : Bool)
    → eq_by_cmp path_cmp (cond x (t ∷ u ∷ []) (u ∷ t ∷ [])) (cond y (a ∷ b ∷ []) (b ∷ a ∷ []))
    ≡ true → are_texts a b t u ≡ true
pair_parts t u a b true true e = or_left _ _ (sym (is_eq-pair t u a b) ∙ e)
pair_parts t u a b true false e = or_right _ _ (sym (is_eq-pair t u b a) ∙ e)
pair_parts t u a b false true e =
    or_right _ _ (turn_and (eq_texts u a) (eq_texts t b) (sym (is_eq-pair u t a b) ∙ e))
pair_parts t u a b false false e =
    or_left _ _ (turn_and (eq_texts u b) (eq_texts t a) (sym (is_eq-pair u t b a) ∙ e))

same_two : (t u a b : Text) → (eq_texts t a && eq_texts u b) ≡ true → in_order t u ≡ in_order a b
same_two t u a b h =
    let w = and_parts (eq_texts t a) (eq_texts u b) h in
    ap (λ x. in_order x u) (same_name t a w.0) ∙ ap (in_order a) (same_name u b w.1)

in_order-tells : (t u a b : Text) → eq_by_cmp path_cmp (in_order t u) (in_order a b)
    ≡ are_texts a b t u
in_order-tells t u a b =
    same_tests _ _ (pair_parts t u a b (is_before (name_cmp t u)) (is_before (name_cmp a b)))
    turn_back
  where
    same : are_texts a b t u ≡ true → in_order t u ≡ in_order a b
    same h = either (eq_texts t a && eq_texts u b) (eq_texts t b && eq_texts u a) h
        (λ e. same_two t u a b e) (λ e. same_two t u b a e ∙ turned b a)

    turn_back : are_texts a b t u ≡ true → eq_by_cmp path_cmp (in_order t u) (in_order a b) ≡ true
    turn_back h = ap (λ k. eq_by_cmp path_cmp k (in_order a b)) (same h)
        ∙ path_itself (in_order a b)

pairs_tell : (r s p q : Path) → is_place r ≡ true → is_place s ≡ true → is_place p ≡ true
    → is_place q ≡ true
    → eq_by_cmp path_cmp (pair_of p q) (pair_of r s) ≡ is_pair r s p q
pairs_tell r s p q hr hs hp hq =
    in_order-tells (root_text p) (root_text q) (root_text r) (root_text s)
    ∙ ap (λ x. (x && eq_texts (root_text q) (root_text s))
    || (eq_texts (root_text p) (root_text s) && eq_texts (root_text q) (root_text r)))
    (texts_tell p r hp hr)
    ∙ ap (λ x. (path_eq p r && x)
    || (eq_texts (root_text p) (root_text s) && eq_texts (root_text q) (root_text r)))
    (texts_tell q s hq hs)
    ∙ ap (λ x. (path_eq p r && path_eq q s) || (x && eq_texts (root_text q) (root_text r)))
    (texts_tell p s hp hs)
    ∙ ap (λ x. (path_eq p r && path_eq q s) || (path_eq p s && x)) (texts_tell q r hq hr)

pub archive_put : (S : State) (r s p q : Path) (a : Archive) → is_place r ≡ true → is_place s ≡ true
    → is_place p ≡ true → is_place q ≡ true
    → archive_at (with_archive S r s a) p q ≡ cond (is_pair r s p q) (Some a) (archive_at S p q)
archive_put S r s p q a hr hs hp hq =
    fin.get-insert path_cmp-total S.archives (pair_of r s) a (pair_of p q)
    ∙ ap (λ b. cond b (Some a) (fin.get S.archives (pair_of p q))) (pairs_tell r s p q hr hs hp hq)
