-- Ascending lists of paths, and what is put into them.
use Rattle.std.proofs.Common.{◌≡◌, ◌≢◌, Bool, true, false, cond, List, [], ◌∷◌, ◌++◌, length, map, Some, refl, ap, sym, ◌∙◌, append_assoc, arith, length-append}
use Rattle.std.specs.Prelude.{fold, find}
use Rattle.std.specs.List.{AllByRecursion}
use Rattle.std.specs.List.Sorted.{IsStrictlySortedBy}
use Rattle.std.specs.BTreeSet.{insert_key}
use Rattle.std.specs.FinMap.Entries.{put, by_order}
use Rattle.std.specs.Ordering.{match_ordering, ordering_reverse}
use Rattle.std.specs.declared.cmp.Ordering.{Ordering}
use Rattle.std.specs.declared.cmp.Ordering.TheVariants.{Less, Equal, Greater}
use Rattle.hub_path.specs.Path.{Name, Path, path_cmp, ascending, children_named}
use Rattle.hub_path.specs.laws.General.{path_cmp-total, path_cmp-over, is_over-append}
use Rattle.hub_job.specs.forms.Waiting.{put_all}

abbrev keys : List (Path × Bool) → List Path
keys es = map (λ e. e.0) es

-- A list that is built by entries has the same paths in the same order.
by : (o : Ordering) (p : Path) (e : Path × Bool) (es fs : List (Path × Bool)) (qs : List Path) → keys fs ≡ qs
    → keys (by_order o ((p, true) ∷ e ∷ es) ((e.0, true) ∷ es) (e ∷ fs)) ≡ match_ordering o (p ∷ e.0 ∷ keys es) (e.0 ∷ keys es) (e.0 ∷ qs)
by Less p e es fs qs h = refl
by Equal p e es fs qs h = refl
by Greater p e es fs qs h = ap (λ qs. e.0 ∷ qs) h

keys-put : (p : Path) (es : List (Path × Bool)) → keys (put path_cmp p true es) ≡ insert_key path_cmp (keys es) p
keys-put p [] = refl
keys-put p (e ∷ es) = by (path_cmp p e.0) p e es (put path_cmp p true es) (insert_key path_cmp (keys es) p) (keys-put p es)

keys-put_all : (ps : List Path) (es : List (Path × Bool)) → keys (fold (λ es p. put path_cmp p true es) es ps) ≡ put_all (keys es) ps
keys-put_all [] es = refl
keys-put_all (p ∷ ps) es = keys-put_all ps (put path_cmp p true es) ∙ ap (λ qs. put_all qs ps) (keys-put p es)

pub ascending_is : (ps : List Path) → ascending ps ≡ put_all [] ps
ascending_is ps = keys-put_all ps []

pub put_all-append : (xs ys qs : List Path) → put_all qs (xs ++ ys) ≡ put_all (put_all qs xs) ys
put_all-append [] ys qs = refl
put_all-append (x ∷ xs) ys qs = put_all-append xs ys (insert_key path_cmp qs x)

pub ascending-append : (xs ys : List Path) → ascending (xs ++ ys) ≡ put_all (ascending xs) ys
ascending-append xs ys = ascending_is (xs ++ ys) ∙ (put_all-append xs ys [] ∙ ap (λ qs. put_all qs ys) (sym (ascending_is xs)))

-- Order.
pub turned : (p q : Path) → path_cmp p q ≡ Less → path_cmp q p ≡ Greater
turned p q h = path_cmp-total.antisymm q p ∙ ap ordering_reverse h

pub turned_back : (p q : Path) → path_cmp p q ≡ Greater → path_cmp q p ≡ Less
turned_back p q h = path_cmp-total.antisymm q p ∙ ap ordering_reverse h

abbrev pub AllBefore : List Path → Path → Type 0
AllBefore xs p = AllByRecursion (λ x. path_cmp x p ≡ Less) xs

abbrev AllAfter : Path → List Path → Type 0
AllAfter p xs = AllByRecursion (λ x. path_cmp p x ≡ Less) xs

pub before_more : (xs : List Path) (p q : Path) → AllBefore xs p → path_cmp p q ≡ Less → AllBefore xs q
before_more [] p q a h = tt
before_more (x ∷ xs) p q a h = (path_cmp-total.trans x p q a.0 h, before_more xs p q a.1 h)

middle_after : (p x : Path) (front rest : List Path) → AllAfter p (front ++ x ∷ rest) → path_cmp p x ≡ Less
middle_after p x [] rest a = a.0
middle_after p x (y ∷ front) rest a = middle_after p x front rest a.1

-- What stands before a path in an ascending list is less.
pub all_before : (front rest : List Path) (x : Path) → IsStrictlySortedBy path_cmp (front ++ x ∷ rest) → AllBefore front x
unfolding IsStrictlySortedBy
all_before [] rest x s = tt
all_before (y ∷ front) rest x s = (middle_after y x front rest s.0, all_before front rest x s.1)

-- What is greater than all in front is put behind them.
pub insert_behind : (front rest : List Path) (p : Path) → AllBefore front p → insert_key path_cmp (front ++ rest) p ≡ front ++ insert_key path_cmp rest p
insert_behind [] rest p a = refl
insert_behind (x ∷ front) rest p a =
    ap (λ o. match_ordering o (p ∷ x ∷ front ++ rest) (x ∷ front ++ rest) (x ∷ insert_key path_cmp (front ++ rest) p)) (turned x p a.0)
    ∙ ap (λ qs. x ∷ qs) (insert_behind front rest p a.1)

before_push : (xs : List Path) (y p : Path) → AllBefore xs p → path_cmp y p ≡ Less → AllBefore (xs ++ y ∷ []) p
before_push [] y p a h = (h, tt)
before_push (x ∷ xs) y p a h = (a.0, before_push xs y p a.1 h)

longer : (d : Path) (n : Name) → d ≢ d ++ n ∷ []
longer d n e = absurd (omega (arith, ap length e, length-append d (n ∷ [])))

child_after : (d : Path) (n : Name) → path_cmp d (d ++ n ∷ []) ≡ Less
child_after d n = path_cmp-over d (d ++ n ∷ []) (is_over-append d (n ∷ [])) (longer d n)

-- The children of a path are put behind it and all that is less.
children_behind : (front rest : List Path) (d : Path) (ns : List Name) → AllBefore front d
    → put_all ((front ++ d ∷ []) ++ rest) (children_named d ns) ≡ (front ++ d ∷ []) ++ put_all rest (children_named d ns)
children_behind front rest d [] a = refl
children_behind front rest d (n ∷ ns) a =
    ap (λ qs. put_all qs (children_named d ns)) (insert_behind (front ++ d ∷ []) rest (d ++ n ∷ []) (before_push front d (d ++ n ∷ []) (before_more front d (d ++ n ∷ []) a (child_after d n)) (child_after d n)))
    ∙ children_behind front (insert_key path_cmp rest (d ++ n ∷ [])) d ns a

pub children_wait : (front rest : List Path) (d : Path) (ns : List Name) → IsStrictlySortedBy path_cmp (front ++ d ∷ rest)
    → put_all (front ++ d ∷ rest) (children_named d ns) ≡ (front ++ d ∷ []) ++ put_all rest (children_named d ns)
children_wait front rest d ns s =
    ap (λ qs. put_all qs (children_named d ns)) (sym (append_assoc front (d ∷ []) rest))
    ∙ children_behind front rest d ns (all_before front rest d s)

-- A search that nothing in front passes.
pub find_behind : (f : Path → Bool) (front rest : List Path) → AllByRecursion (λ x. f x ≡ false) front → find f (front ++ rest) ≡ find f rest
find_behind f [] rest a = refl
find_behind f (x ∷ front) rest a = ap (λ b. cond b (Some x) (find f (front ++ rest))) a.0 ∙ find_behind f front rest a.1
