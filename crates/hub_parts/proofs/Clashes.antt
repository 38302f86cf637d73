-- Where clashes are: at common roots, and at nested ones.
use Rattle.std.proofs.Common.{◌≡◌, subst, ◌⊎◌, inl, inr, ⊎_elim, ℕ, zero, suc, Bool, true, List, [], ◌∷◌, ◌++◌, refl, sym, ap, ◌∙◌, arith}
use Rattle.std.specs.Prelude.{Contains, slice_get, Some, IsTrue, ◌&&◌, ◌+◌}
use Rattle.std.specs.List.{list_all, flat_map}
use Rattle.std.proofs.lemmas.Bool.{and_parts}
use Rattle.std.proofs.lemmas.Option.{none-some, same_Some}
use Rattle.std.proofs.lemmas.List.Elements.{Contains-append_left, Contains-append_right}
use Rattle.hub_path.specs.Path.{Path, is_over, path_eq}
use Rattle.hub_path.specs.laws.General.{is_over-append, is_over-comparable, is_over-transitive, name_eq-decides, path_eq-decides}
use Rattle.hub_text.specs.laws.List.{at-place, cons-cases, cons-here, cons-there, to-map}
use Rattle.hub_profile.specs.Facts.{are_roots}
use Rattle.hub_profile.specs.Parts.{Parts, has_root}
use Rattle.hub_reach.specs.Reach.{reach, write, writes_at}
use Rattle.hub_reach.specs.Safe.{Clash, all_roots}
use Rattle.hub_reach.specs.laws.General.{reach-below}
use Rattle.hub_parts.specs.Clashing.{AreNear}
use Rattle.hub_parts.specs.Nested.{WideClash}
use Rattle.hub_parts.specs.Values.{value_at, values, values_at, values_from, values_of_one}
use Rattle.hub_parts.specs.Whole.{AreRootsApart}
use Rattle.hub_parts.proofs.Items.{in-flat, none-in, passing-item}

-- Below one root paths lie over each other as they do by themselves.
pub below-root : (r p q : Path) → is_over (r ++ p) (r ++ q) ≡ is_over p q
below-root [] p q = refl
below-root (n ∷ r) p q = ap (λ b. b && is_over (r ++ p) (r ++ q)) ((name_eq-decides n n).1 refl) ∙ below-root r p q

pub own-root : (P : Parts) (r : Path) → IsTrue (has_root P r) → Contains P.roots r
own-root P r h =
    let w = passing-item (λ own. path_eq own r) P.roots h in
    subst (λ x. Contains P.roots x) ((path_eq-decides w.0 r).0 w.2) w.1

write-reach : (P : Parts) (r p : Path) → IsTrue (write P r p) → IsTrue (reach P p)
write-reach P r p h = (and_parts (writes_at P r p) (reach P p) h).1

pub plain-wide : (P Q : Parts) → Clash P Q → WideClash P Q
plain-wide P Q (inl c) =
    inl (c.0, c.0, c.1, c.2, (c.3.0, c.3.1, below-root c.0 c.3.0 c.3.1 ∙ c.3.2, c.3.3, c.3.4))
plain-wide P Q (inr c) = inr c

-- Of the roots of two profiles.
root-of : (P Q : Parts) (r : Path) → Contains P.roots r ⊎ Contains Q.roots r → Contains (all_roots (P ∷ Q ∷ []) []) r
root-of P Q r (inl m) =
    Contains-append_left (flat_map (λ (X : Parts). X.roots) (P ∷ Q ∷ [])) [] r
    (in-flat (λ (X : Parts). X.roots) (P ∷ Q ∷ []) P r (cons-here P P (Q ∷ []) refl) m)
root-of P Q r (inr m) =
    Contains-append_left (flat_map (λ (X : Parts). X.roots) (P ∷ Q ∷ [])) [] r
    (in-flat (λ (X : Parts). X.roots) (P ∷ Q ∷ []) Q r (cons-there P Q (Q ∷ []) (cons-here Q Q [] refl)) m)

pub apart-same : (P Q : Parts) (r s : Path) → AreRootsApart (P ∷ Q ∷ []) [] → Contains P.roots r ⊎ Contains Q.roots r
    → Contains P.roots s ⊎ Contains Q.roots s → IsTrue (is_over r s) → r ≡ s
apart-same P Q r s apart h k over =
    let m = at-place (all_roots (P ∷ Q ∷ []) []) r (root-of P Q r h) in
    let n = at-place (all_roots (P ∷ Q ∷ []) []) s (root-of P Q s k) in
    apart m.0 n.0 r s m.2 n.2 over

-- Roots that have a path below both are over each other.
pub roots-meet : (r s p q : Path) → IsTrue (is_over (r ++ p) (s ++ q)) → IsTrue (is_over r s) ⊎ IsTrue (is_over s r)
roots-meet r s p q over =
    is_over-comparable r s (s ++ q) (is_over-transitive r (r ++ p) (s ++ q) (is_over-append r p) over) (is_over-append s q)

pub wide-plain : (P Q : Parts) → AreRootsApart (P ∷ Q ∷ []) [] → WideClash P Q → Clash P Q
wide-plain P Q apart (inl c) =
    let m = own-root P c.0 c.2 in
    let n = own-root Q c.1 c.3 in
    let same : c.0 ≡ c.1 = ⊎_elim
    (λ over. apart-same P Q c.0 c.1 apart (inl m) (inr n) over)
    (λ over. sym (apart-same P Q c.1 c.0 apart (inr n) (inl m) over))
    (roots-meet c.0 c.1 c.4.0 c.4.1 c.4.2) in
    inl (
      c.0,
      c.2,
      subst (λ x. IsTrue (has_root Q x)) (sym same) c.3,
      (
        c.4.0,
        c.4.1,
        sym (below-root c.0 c.4.0 c.4.1) ∙ subst (λ x. IsTrue (is_over (c.0 ++ c.4.0) (x ++ c.4.1))) (sym same) c.4.2,
        c.4.3,
        c.4.4,
      ),
    )
wide-plain P Q apart (inr c) = inr c

-- A kept value over a path that is reached.
value-over : (P : Parts) (p : Path) → IsTrue (reach P p) → (v : Path) × Contains P.paths v × IsTrue (is_over v p)
value-over P p h = passing-item (λ s. is_over s p) P.paths (reach-below P p h)

over-below : (r v p : Path) → IsTrue (is_over v p) → IsTrue (is_over (r ++ v) (r ++ p))
over-below r v p h = below-root r v p ∙ h

-- Two values over paths of which one is over the other are near.
values-near : (r s v w p q : Path) → IsTrue (is_over v p) → IsTrue (is_over w q) → IsTrue (is_over (r ++ p) (s ++ q))
    → IsTrue (is_over (r ++ v) (s ++ w)) ⊎ IsTrue (is_over (s ++ w) (r ++ v))
values-near r s v w p q one two over =
    is_over-comparable (r ++ v) (s ++ w) (s ++ q) (is_over-transitive (r ++ v) (r ++ p) (s ++ q) (over-below r v p one) over) (over-below s w q two)

-- The values of all profiles have each kept value at each root.
in-values : (Ps : List Parts) (n i : ℕ) (P : Parts) (r v : Path) → slice_get Ps i ≡ Some P → Contains P.roots r → Contains P.paths v
    → Contains (values_from n Ps) (value_at (n + i) r v)
in-values [] n i P r v at root value = absurd (none-some P at)
in-values (Q ∷ Ps) n zero P r v at root value =
    Contains-append_left (values_of_one n Q) (values_from (suc n) Ps) (value_at (n + 0) r v)
    (subst (λ (X : Parts). Contains (values_of_one n X) (value_at (n + 0) r v)) (sym (same_Some Q P at))
    (subst (λ m. Contains (values_of_one n P) (value_at m r v)) (omega arith)
    (in-flat (λ s. values_at n s P.paths) P.roots r (value_at n r v) root (to-map (value_at n r) P.paths v value))))
in-values (Q ∷ Ps) n (suc i) P r v at root value =
    Contains-append_right (values_of_one n Q) (values_from (suc n) Ps) (value_at (n + suc i) r v)
    (subst (λ m. Contains (values_from (suc n) Ps) (value_at m r v)) (omega arith) (in-values Ps (suc n) i P r v at root value))

own-value : (Ps : List Parts) (i : ℕ) (P : Parts) (r v : Path) → slice_get Ps i ≡ Some P → Contains P.roots r → Contains P.paths v
    → Contains (values Ps) (value_at i r v)
own-value Ps i P r v at root value =
    subst (λ m. Contains (values_from 0 Ps) (value_at m r v)) (omega arith) (in-values Ps 0 i P r v at root value)

at-roots : (Ps : List Parts) (i j : ℕ) (P Q : Parts) → slice_get Ps i ≡ Some P → slice_get Ps j ≡ Some Q
    → (r s p q : Path) → Contains P.roots r → Contains Q.roots s → IsTrue (is_over (r ++ p) (s ++ q))
    → IsTrue (reach P p) → IsTrue (reach Q q) → AreNear Ps i j
at-roots Ps i j P Q at_i at_j r s p q root_p root_q over one two =
    let v = value-over P p one in
    let w = value-over Q q two in
    let k = own-value Ps i P r v.0 at_i root_p v.1 in
    let l = own-value Ps j Q s w.0 at_j root_q w.1 in
    ⊎_elim
    (λ h. inl (value_at i r v.0, value_at j s w.0, k, l, refl, refl, h))
    (λ h. inr (value_at j s w.0, value_at i r v.0, l, k, refl, refl, h))
    (values-near r s v.0 w.0 p q v.2 w.2 over)

-- A profile has a root.
some-root : (rs : List Path) → are_roots rs ≡ true → (r : Path) × Contains rs r
some-root [] h = cc
some-root (r ∷ rs) h = (r, cons-here r r rs refl)

each-root : (f : Path → Bool) (rs : List Path) (r : Path) → list_all f rs ≡ true → Contains rs r → f r ≡ true
each-root f [] r h m = absurd (none-in r m)
each-root f (x ∷ rs) r h m =
    let parts = and_parts (f x) (list_all f rs) h in
    ⊎_elim (λ same. subst (λ y. f y ≡ true) same parts.0) (λ rest. each-root f rs r parts.1 rest) (cons-cases x r rs m)

pub clash-near : (Ps : List Parts) (i j : ℕ) (P Q : Parts) → slice_get Ps i ≡ Some P → slice_get Ps j ≡ Some Q
    → IsTrue (are_roots P.roots) → WideClash P Q → AreNear Ps i j
clash-near Ps i j P Q at_i at_j own (inl c) =
    at-roots Ps i j P Q at_i at_j c.0 c.1 c.4.0 c.4.1 (own-root P c.0 c.2) (own-root Q c.1 c.3) c.4.2
    (write-reach P c.0 c.4.0 c.4.3) c.4.4
clash-near Ps i j P Q at_i at_j own (inr c) =
    let r = some-root P.roots own in
    let s = own-root Q r.0 (each-root (has_root Q) P.roots r.0 c.0 r.1) in
    at-roots Ps i j P Q at_i at_j r.0 r.0 c.1.0 c.1.1 r.1 s (over-below r.0 c.1.0 c.1.1 c.1.2) c.1.3 c.1.4
