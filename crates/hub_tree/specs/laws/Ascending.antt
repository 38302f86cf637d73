-- Entries whose keys ascend.
use Rattle.std.proofs.Common.{◌≡◌, Bool, true, false, cond, ◌&&◌, T, List, [], ◌∷◌, ◌++◌, Option, refl, ap, sym, ◌∙◌, subst, append_assoc}
use Rattle.std.specs.FinMap as fin
use Rattle.std.specs.FinMap.Entries.{find, is_sorted, below_all}
use Rattle.std.specs.BTreeMap.{insert_entry}
use Rattle.std.specs.Cmp.{IsTotalOrder, eq_by_cmp_equiv}
use Rattle.std.specs.List.{AllByRecursion}
use Rattle.std.specs.List.Sorted.{IsStrictlySortedBy}
use Rattle.std.specs.Map.{keys_of}
use Rattle.std.specs.Ordering.{eq_by_cmp, is_lt, match_ordering, ordering_reverse}
use Rattle.std.specs.declared.cmp.Ordering.{Ordering}
use Rattle.std.specs.declared.cmp.Ordering.TheVariants.{Less, Greater}
use Rattle.std.proofs.lemmas.Map.Keys.{sorted_head, sorted_tail}

pub both : (a b : Bool) → T a → T b → T (a && b)
both true b p q = q
both false b p q = p

module _ {K X : Type 0} (R : K → K → Ordering) where
  below_all-from : (k : K) (es : List (K × X)) → AllByRecursion (λ y. R k y ≡ Less) (keys_of es)
      → T (below_all R k es)
  below_all-from k [] h = tt
  below_all-from k (e ∷ es) h =
      both _ _ (subst (λ r. T (is_lt r)) (sym h.0) tt) (below_all-from k es h.1)

  pub is_sorted-from : (es : List (K × X)) → IsStrictlySortedBy R (keys_of es) → T (is_sorted R es)
  is_sorted-from [] h = tt
  is_sorted-from (e ∷ es) h =
      both _ _ (below_all-from e.0 es (sorted_head R e.0 (keys_of es) h))
      (is_sorted-from es (sorted_tail R e.0 (keys_of es) h))

  -- the last key is above those before it
  last_above : (k : K) (es : List (K × X)) (e : K × X) (rest : List (K × X))
      → AllByRecursion (λ y. R k y ≡ Less) (keys_of (es ++ e ∷ rest)) → R k e.0 ≡ Less
  last_above k [] e rest h = h.0
  last_above k (d ∷ es) e rest h = last_above k es e rest h.1

module _ {K X : Type 0} {R : K → K → Ordering} (o : IsTotalOrder R) where
  pub entries-ascending : fin.IsAntisymmetric R → (es : List (K × X))
      → IsStrictlySortedBy R (keys_of es) → fin.entries (fin.from_entries {R = R} es) ≡ es
  entries-ascending same es h =
      let s = is_sorted-from R es h in
      ap fin.entries (fin.same_map o same (fin.from_entries es) (fin.from_sorted es)
      (λ q. fin.get-from_entries o es q ∙ sym (fin.get-from_sorted R es q s)))
      ∙ fin.entries-from_sorted R es s

  -- an entry above the others goes to the end
  pub insert_entry-last : (es : List (K × X)) (e : K × X) (rest : List (K × X))
      → IsStrictlySortedBy R (keys_of (es ++ e ∷ rest)) → insert_entry R es e.0 e.1 ≡ es ++ e ∷ []
  insert_entry-last [] e rest h = refl
  insert_entry-last (d ∷ es) e rest h =
      let above : R e.0 d.0 ≡ Greater = o.antisymm e.0 d.0
      ∙ ap ordering_reverse (last_above R d.0 es e rest
      (sorted_head R d.0 (keys_of (es ++ e ∷ rest)) h)) in
      ap (λ r. match_ordering r (e ∷ d ∷ es) ((d.0, e.1) ∷ es)
      (d ∷ insert_entry R es e.0 e.1)) above
      ∙ ap (λ fs. d ∷ fs) (insert_entry-last es e rest
      (sorted_tail R d.0 (keys_of (es ++ e ∷ rest)) h))

  -- a map from entries that were changed at one key
  pub get_changed : (es fs : List (K × X)) (k : K) (w : Option X)
      → ((q : K) → find R q fs ≡ cond (eq_by_cmp R k q) w (find R q es)) → (q : K)
      → fin.get (fin.from_entries {R = R} fs) q
      ≡ cond (eq_by_cmp R q k) w (fin.get (fin.from_entries {R = R} es) q)
  get_changed es fs k w h q =
      fin.get-from_entries o fs q ∙ h q ∙ ap (λ b. cond b w (find R q es))
      ((eq_by_cmp_equiv o).symm k q)
      ∙ ap (cond (eq_by_cmp R q k) w) (sym (fin.get-from_entries o es q))

-- one more copied entry
pub copy_more : {K X : Type 0} {R : K → K → Ordering} (o : IsTotalOrder R)
    (done iterator rest all : List (K × X)) (e : K × X) (k : K)
    → done ++ iterator ≡ all → iterator ≡ e ∷ rest → k ≡ e.0 → IsStrictlySortedBy R (keys_of all)
    → insert_entry R done k e.1 ++ rest ≡ all
copy_more {R = R} o done iterator rest all e k i s same h =
    let whole : done ++ e ∷ rest ≡ all = ap (λ es. done ++ es) (sym s) ∙ i in
    ap (λ k. insert_entry R done k e.1 ++ rest) same
    ∙ ap (λ es. es ++ rest) (insert_entry-last o done e rest
    (subst (λ es. IsStrictlySortedBy R (keys_of es)) (sym whole) h))
    ∙ append_assoc done (e ∷ []) rest ∙ whole

-- maps are equal where their entries are
pub same_entries : {K X : Type 0} {R : K → K → Ordering} (o : IsTotalOrder R)
    → fin.IsAntisymmetric R → (es fs : List (K × X)) → IsStrictlySortedBy R (keys_of es)
    → IsStrictlySortedBy R (keys_of fs)
    → fin.from_entries {R = R} es ≡ fin.from_entries {R = R} fs → es ≡ fs
same_entries o same es fs h k e =
    sym (entries-ascending o same es h) ∙ ap (λ m. fin.entries m) e ∙ entries-ascending o same fs k
