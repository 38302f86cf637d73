-- What stands between a path and one below it, in the order of paths.
use Rattle.std.proofs.Common.{◌≡◌, true, false, [], ◌∷◌, refl, sym, ap, ◌∙◌, subst}
use Rattle.std.specs.Prelude.{IsTrue}
use Rattle.std.specs.Ordering.{is_lt, ordering_then, ordering_reverse}
use Rattle.std.specs.declared.cmp.Ordering.{Ordering}
use Rattle.std.specs.declared.cmp.Ordering.TheVariants.{Less, Equal, Greater}
use Rattle.std.proofs.lemmas.Bool.{and_parts, and_from}
use Rattle.hub_path.specs.Path.{Name, Path, is_over, name_cmp, name_eq, path_cmp}
use Rattle.hub_path.specs.laws.General.{name_cmp-exact, name_cmp-total, name_eq-decides}

-- By the first names m of q, n of p and r: m isn't less than n, nor n less than m.
by-first : (n m : Name) (c d : Ordering) (o : Ordering) → name_cmp m n ≡ o → is_lt (ordering_then (name_cmp m n) c) ≡ false
    → is_lt (ordering_then (name_cmp n m) d) ≡ false → (name_eq n m ≡ true) × (is_lt c ≡ false) × (is_lt d ≡ false)
by-first n m c d Less e h k = cc
by-first n m c d Equal e h k =
    let same = name_cmp-exact m n e in
    let turned : name_cmp n m ≡ Equal = name_cmp-total.antisymm n m ∙ ap ordering_reverse e in
    ((name_eq-decides n m).1 (sym same), sym (ap (λ x. is_lt (ordering_then x c)) e) ∙ h, sym (ap (λ x. is_lt (ordering_then x d)) turned) ∙ k)
by-first n m c d Greater e h k =
    let turned : name_cmp n m ≡ Less = name_cmp-total.antisymm n m ∙ ap ordering_reverse e in cc

pub between : (p q r : Path) → is_lt (path_cmp q p) ≡ false → is_lt (path_cmp r q) ≡ false → IsTrue (is_over p r) → IsTrue (is_over p q)
between [] q r h k over = refl
between (n ∷ p) [] r h k over = cc
between (n ∷ p) (m ∷ q) [] h k over = cc
between (n ∷ p) (m ∷ q) (l ∷ r) h k over =
    let heads = and_parts (name_eq n l) (is_over p r) over in
    let e : n ≡ l = (name_eq-decides n l).0 heads.0 in
    let first = by-first n m (path_cmp q p) (path_cmp r q) (name_cmp m n) refl h
    (subst (λ x. is_lt (ordering_then (name_cmp x m) (path_cmp r q)) ≡ false) (sym e) k) in
    and_from (name_eq n m) (is_over p q) first.0 (between p q r first.1 first.2 heads.1)
