-- The sweep finds all near pairs and no others.
use Rattle.std.proofs.Common.{◌≡◌, subst, inl, inr, ⊎_elim, ◌<◌, ℕ, zero, suc, Bool, true, false, cond, List, [], ◌∷◌, map, reverse, refl, sym, ap, ◌∙◌, arith}
use Rattle.std.specs.Prelude.{Contains, slice_get, Some, IsTrue}
use Rattle.std.specs.Ordering.{is_lt}
use Rattle.std.specs.declared.cmp.Ordering.TheVariants.{Less}
use Rattle.std.proofs.lemmas.Bool.{false≢true}
use Rattle.std.proofs.lemmas.Option.{none-some, same_Some}
use Rattle.std.proofs.lemmas.List.Elements.{Contains-append_left, Contains-append_right, Contains-append_cases}
use Rattle.std.proofs.lemmas.List.Sorted.{Contains-permutation, IsPermutation-reverse, IsPermutation-sym}
use Rattle.hub_path.specs.Path.{Path, is_over, path_cmp, path_eq}
use Rattle.hub_path.specs.laws.General.{is_over-reflexive, is_over-transitive, path_cmp-over, path_eq-decides}
use Rattle.hub_text.specs.laws.List.{cons-cases, cons-here, cons-there, to-map}
use Rattle.hub_parts.specs.Near.{AreAllNear, AreInOrder, IsValueOver, HasEachNear, near_pairs, over_only, pairs_below}
use Rattle.hub_parts.specs.declared.kept_value.KeptValue.{KeptValue}
use Rattle.hub_parts.proofs.Items.{none-in, out-map, places}
use Rattle.hub_parts.proofs.Order.{between}

to-reverse : {X : Type 0} (xs : List X) (x : X) → Contains xs x → Contains (reverse xs) x
to-reverse xs x m = Contains-permutation xs (reverse xs) x (IsPermutation-reverse xs) m

from-reverse : {X : Type 0} (xs : List X) (x : X) → Contains (reverse xs) x → Contains xs x
from-reverse xs x m = Contains-permutation (reverse xs) xs x (IsPermutation-sym xs (reverse xs) (IsPermutation-reverse xs)) m

-- What is over a path stays on the stack.
stays-by : (p : Path) (k s : KeptValue) (ks : List KeptValue) (b : Bool) → is_over k.path p ≡ b → IsTrue (is_over s.path p) → Contains (k ∷ ks) s
    → (Contains ks s → Contains (over_only p ks) s) → Contains (cond b (k ∷ ks) (over_only p ks)) s
stays-by p k s ks true e over has more = has
stays-by p k s ks false e over has more = ⊎_elim
    (λ same. absurd (false≢true (sym e ∙ (ap (λ (x : KeptValue). is_over x.path p) same ∙ over))))
    more
    (cons-cases k s ks has)

stays : (p : Path) (ks : List KeptValue) (s : KeptValue) → IsTrue (is_over s.path p) → Contains ks s → Contains (over_only p ks) s
stays p [] s over has = has
stays p (k ∷ ks) s over has = stays-by p k s ks (is_over k.path p) refl over has (stays p ks s over)

next-order : (k : KeptValue) (ks : List KeptValue) → AreInOrder (k ∷ ks) → AreInOrder ks
next-order k ks order a b x y less at_a at_b = order (suc a) (suc b) x y (omega (arith, less)) at_a at_b

later : (b : ℕ) → 0 < suc b
later b = omega arith

abbrev pair : KeptValue → KeptValue → ℕ × ℕ
pair k l = (k.profile, l.profile)

-- One of the stack, and one that comes.
from-stack : (above ks : List KeptValue) → AreInOrder ks → (b : ℕ) (s l : KeptValue) → Contains above s → slice_get ks b ≡ Some l
    → ((a : ℕ) (k : KeptValue) → slice_get ks a ≡ Some k → is_lt (path_cmp k.path s.path) ≡ false)
    → IsTrue (is_over s.path l.path) → Contains (pairs_below above ks) (pair s l)
from-stack above [] order b s l has at low over = absurd (none-some l at)
from-stack above (k ∷ ks) order zero s l has at low over =
    let same = same_Some k l at in
    Contains-append_left (map (λ x. pair x k) (reverse (over_only k.path above))) (pairs_below (k ∷ over_only k.path above) ks) (pair s l)
    (subst (λ (y : KeptValue). Contains (map (λ x. pair x k) (reverse (over_only k.path above))) (pair s y)) same
    (to-map (λ x. pair x k) (reverse (over_only k.path above)) s (to-reverse (over_only k.path above) s (stays k.path above s (subst (λ (y : KeptValue). IsTrue (is_over s.path y.path)) (sym same) over) has))))
from-stack above (k ∷ ks) order (suc b) s l has at low over =
    let mid = between s.path k.path l.path (low 0 k refl) (order 0 (suc b) k l (later b) refl at) over in
    Contains-append_right (map (λ x. pair x k) (reverse (over_only k.path above))) (pairs_below (k ∷ over_only k.path above) ks) (pair s l)
    (from-stack (k ∷ over_only k.path above) ks (next-order k ks order) b s l
    (cons-there k s (over_only k.path above) (stays k.path above s mid has)) at (λ a x e. low (suc a) x e) over)

-- Two that come, the upper one first.
of-two : (above ks : List KeptValue) → AreInOrder ks → (a b : ℕ) (k l : KeptValue) → a < b → slice_get ks a ≡ Some k → slice_get ks b ≡ Some l
    → IsTrue (is_over k.path l.path) → Contains (pairs_below above ks) (pair k l)
of-two above [] order a b k l less at_k at_l over = absurd (none-some k at_k)
of-two above (h ∷ ks) order zero zero k l less at_k at_l over = absurd (omega (arith, less))
of-two above (h ∷ ks) order zero (suc b) k l less at_k at_l over =
    let same = same_Some h k at_k in
    Contains-append_right (map (λ x. pair x h) (reverse (over_only h.path above))) (pairs_below (h ∷ over_only h.path above) ks) (pair k l)
    (from-stack (h ∷ over_only h.path above) ks (next-order h ks order) b k l (cons-here h k (over_only h.path above) same) at_l
    (λ a x e. order 0 (suc a) k x (later a) at_k e) over)
of-two above (h ∷ ks) order (suc a) zero k l less at_k at_l over = absurd (omega (arith, less))
of-two above (h ∷ ks) order (suc a) (suc b) k l less at_k at_l over =
    Contains-append_right (map (λ x. pair x h) (reverse (over_only h.path above))) (pairs_below (h ∷ over_only h.path above) ks) (pair k l)
    (of-two (h ∷ over_only h.path above) ks (next-order h ks order) a b k l (omega (arith, less)) at_k at_l over)

-- What is over a path and doesn't come before it, is the path.
same-path : (p q : Path) → IsTrue (is_over p q) → is_lt (path_cmp p q) ≡ false → p ≡ q
same-path p q over late = go (path_eq p q) refl
  where
    go : (b : Bool) → path_eq p q ≡ b → p ≡ q
    go true e = (path_eq-decides p q).0 e
    go false e =
        let less : path_cmp p q ≡ Less = path_cmp-over p q over (λ same. false≢true (sym e ∙ (path_eq-decides p q).1 same)) in
        absurd (false≢true (sym late ∙ ap is_lt less))

turned-over : (p q : Path) → p ≡ q → IsTrue (is_over q p)
turned-over p q e = subst (λ x. IsTrue (is_over q x)) (sym e) (is_over-reflexive q)

pub complete : (ks : List KeptValue) → AreInOrder ks → HasEachNear ks (near_pairs ks)
complete ks order a b k l off at_k at_l over = ⊎_elim
    (λ less. inl (of-two [] ks order a b k l less at_k at_l over))
    (λ other. ⊎_elim
    (λ same. absurd (off same))
    (λ more. inr (of-two [] ks order b a l k more at_l at_k
    (turned-over k.path l.path (same-path k.path l.path over (order b a l k more at_l at_k)))))
    other)
    (places a b)

-- Each of the stack is over those above it.
abbrev Stacked : List KeptValue → Type 0
Stacked [] = Unit {0}
Stacked (k ∷ ks) = ((s : KeptValue) → Contains ks s → IsTrue (is_over s.path k.path)) × Stacked ks

-- What is left is over the path, is stacked, and was there.
record Left (p : Path) (all : List KeptValue) (ks : List KeptValue) : Type 0 where
  over : (s : KeptValue) → Contains ks s → IsTrue (is_over s.path p)
  stacked : Stacked ks
  there : (s : KeptValue) → Contains ks s → Contains all s

left-by : (p : Path) (k : KeptValue) (ks : List KeptValue) (b : Bool) → is_over k.path p ≡ b → Stacked (k ∷ ks) → Left p ks (over_only p ks)
    → Left p (k ∷ ks) (cond b (k ∷ ks) (over_only p ks))
left-by p k ks true e stack more = record {
  over = λ s has. ⊎_elim
      (λ same. subst (λ (x : KeptValue). IsTrue (is_over x.path p)) same e)
      (λ rest. is_over-transitive s.path k.path p (stack.0 s rest) e)
      (cons-cases k s ks has);
  stacked = stack;
  there = λ s has. has;
}
left-by p k ks false e stack more = record {
  over = more.over;
  stacked = more.stacked;
  there = λ s has. cons-there k s ks (more.there s has);
}

left : (p : Path) (ks : List KeptValue) → Stacked ks → Left p ks (over_only p ks)
left p [] stack = record { over = λ s has. absurd (none-in s has); stacked = stack; there = λ s has. has }
left p (k ∷ ks) stack = left-by p k ks (is_over k.path p) refl stack (left p ks stack.1)

-- Each pair is of one of the stack or of these, and of one of these.
found : (all above ks : List KeptValue) → Stacked above → ((s : KeptValue) → Contains above s → Contains all s) → ((s : KeptValue) → Contains ks s → Contains all s)
    → (i j : ℕ) → Contains (pairs_below above ks) (i, j) → IsValueOver all i j
found all above [] stack own come i j has = absurd (none-in (i, j) has)
found all above (k ∷ ks) stack own come i j has =
    let rest = left k.path above stack in
    ⊎_elim
    (λ here.
    let w = out-map (λ x. pair x k) (reverse (over_only k.path above)) (i, j) here in
    let m = from-reverse (over_only k.path above) w.0 w.1 in
    (w.0, k, own w.0 (rest.there w.0 m), come k (cons-here k k ks refl), ap (λ (x : ℕ × ℕ). x.0) w.2, ap (λ (x : ℕ × ℕ). x.1) w.2, rest.over w.0 m))
    (λ there. found all (k ∷ over_only k.path above) ks (rest.over, rest.stacked)
    (λ s m. ⊎_elim
    (λ same. come s (cons-here k s ks same))
    (λ old. own s (rest.there s old))
    (cons-cases k s (over_only k.path above) m))
    (λ s m. come s (cons-there k s ks m)) i j there)
    (Contains-append_cases (map (λ x. pair x k) (reverse (over_only k.path above))) (pairs_below (k ∷ over_only k.path above) ks) (i, j) has)

pub exact : (ks : List KeptValue) → AreAllNear ks (near_pairs ks)
exact ks i j has = found ks [] ks tt (λ s m. absurd (none-in s m)) (λ s m. m) i j has
