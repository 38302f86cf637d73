-- The ascending list of some paths: it is in order and has the same members.
use Rattle.std.proofs.Common.{◌≡◌, Bool, true, false, cond, ◌||◌, T, List, [], ◌∷◌, Option, Some, refl, ap, sym, ◌∙◌}
use Rattle.std.specs.List.{fold}
use Rattle.std.specs.Option.{is_some}
use Rattle.std.specs.List.Sorted.{IsStrictlySortedBy}
use Rattle.std.specs.FinMap.Entries.{find, put, is_sorted, is_sorted-put, find-put, is_some-find}
use Rattle.std.specs.Ordering.{eq_by_cmp}
use Rattle.std.proofs.Math.Bool.{or-false}
use Rattle.std.specs.Cmp.{both_ways}
use Rattle.hub_path.specs.Path.{Path, path_cmp, ascending}
use Rattle.hub_tree.specs.laws.Order.{path_total, path_antisymmetric}
use Rattle.hub_tree.specs.laws.Children.{sorted_keys, same_sorted}
use Rattle.hub_tree.specs.laws.Between.{among}

abbrev all_put : List (Path × Bool) → List Path → List (Path × Bool)
all_put es ps = fold (λ es p. put path_cmp p true es) es ps

put_sorted : (ps : List Path) (es : List (Path × Bool)) → T (is_sorted path_cmp es)
    → T (is_sorted path_cmp (all_put es ps))
put_sorted [] es h = h
put_sorted (p ∷ ps) es h =
    put_sorted ps (put path_cmp p true es) (is_sorted-put path_cmp path_total p true es h)

pub ascending_sorted : (ps : List Path) → IsStrictlySortedBy path_cmp (ascending ps)
ascending_sorted ps = sorted_keys path_cmp (all_put [] ps) (put_sorted ps [] tt)

found_or : (a b c : Bool) (v : Bool) (o : Option Bool) → is_some o ≡ c
    → (a || is_some (cond b (Some v) o)) ≡ ((b || a) || c)
found_or true true c v o e = refl
found_or true false c v o e = refl
found_or false true c v o e = refl
found_or false false c v o e = e

put_finds : (q : Path) (ps : List Path) (es : List (Path × Bool))
    → is_some (find path_cmp q (all_put es ps)) ≡ (among q ps || is_some (find path_cmp q es))
put_finds q [] es = refl
put_finds q (p ∷ ps) es =
    put_finds q ps (put path_cmp p true es)
    ∙ (ap (λ o. among q ps || is_some o) (find-put path_cmp path_total q p true es)
    ∙ found_or (among q ps) (eq_by_cmp path_cmp q p) (is_some (find path_cmp q es)) true
    (find path_cmp q es) refl)

pub among_ascending : (q : Path) (ps : List Path) → among q (ascending ps) ≡ among q ps
among_ascending q ps =
    sym (is_some-find path_cmp q (all_put [] ps)) ∙ (put_finds q ps [] ∙ or-false (among q ps))

-- Lists in order with the same members are equal.
pub same_list : (xs ys : List Path) → IsStrictlySortedBy path_cmp xs
    → IsStrictlySortedBy path_cmp ys → ((q : Path) → among q xs ≡ true → among q ys ≡ true)
    → ((q : Path) → among q ys ≡ true → among q xs ≡ true) → xs ≡ ys
same_list xs ys s t f g =
    same_sorted path_cmp path_total path_antisymmetric xs ys s t
    (λ q. both_ways (among q xs) (among q ys) (f q) (g q))
