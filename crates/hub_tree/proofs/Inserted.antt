-- Archives made of lists of marks.
use Rattle.std.proofs.Common.{◌≡◌, ℕ, ◌++◌, Bool, true, false, cond, List, [], ◌∷◌, Option, Some, None, refl, ap, sym, ◌∙◌, subst}
use Rattle.std.specs.FinMap as fin
use Rattle.std.specs.FinMap.Entries.{find}
use Rattle.std.specs.BTreeMap.{BTreeMap, IsFromIterResult}
use Rattle.std.specs.Cmp.{eq_by_cmp_equiv}
use Rattle.std.specs.List.{AllByRecursion}
use Rattle.std.specs.List.Sorted.{IsStrictlySortedBy}
use Rattle.std.specs.Map.{keys_of, update_all}
use Rattle.std.specs.Ordering.{eq_by_cmp, is_eq}
use Rattle.std.specs.declared.cmp.Ordering.TheVariants.{Less}
use Rattle.std.proofs.lemmas.Map.Keys.{sorted_head, sorted_tail}
use Rattle.hub_path.specs.Path.{Path, path_cmp, is_path}
use Rattle.hub_tree.specs.Marked.{with_entries}
use Rattle.hub_tree.specs.Tree.{Archive, IsArchive, HasPaths, HasDigests, IsDigest, kept_mark, with_kept}
use Rattle.hub_tree.specs.declared.contents.Mark.{Mark}
use Rattle.hub_tree.specs.declared.contents.Mark.TheVariants as mark
use Rattle.hub_tree.specs.laws.Ascending.{same_entries}
use Rattle.hub_tree.specs.laws.MarkMaps.{IsArchive-set}
use Rattle.hub_tree.specs.laws.Order.{path_total, path_antisymmetric, same_path}

-- What the type of archives asks.
abbrev pub IsGood : Archive → Type 0
IsGood a = IsArchive a × HasPaths a × HasDigests a

with_entries-append : (a : Archive) (xs ys : List (Path × Mark)) → with_entries a (xs ++ ys) ≡ with_entries (with_entries a xs) ys
with_entries-append a [] ys = refl
with_entries-append a (x ∷ xs) ys = with_entries-append (fin.insert a x.0 x.1) xs ys

-- One more mark.
pub good_more : (xs : List (Path × Mark)) (p : Path) (m n : Mark) → IsGood (with_entries fin.empty xs) → is_path p ≡ true
    → ((d : List ℕ) → m ≡ mark.File d → IsDigest d) → kept_mark m ≡ Some n → IsGood (with_entries fin.empty (xs ++ (p, n) ∷ []))
good_more xs p m n good here digest e =
    subst IsGood
    (ap (with_kept (with_entries fin.empty xs) p) e ∙ sym (with_entries-append fin.empty xs ((p, n) ∷ [])))
    (IsArchive-set (with_entries fin.empty xs) p m good here digest)

-- A map that pairs were put into, one after the other, is the archive with them.
updated_all : (f : Path → Option Mark) (a : Archive) (xs : List (Path × Mark)) → ((q : Path) → f q ≡ fin.get a q)
    → (q : Path) → update_all (eq_by_cmp path_cmp) f xs q ≡ fin.get (with_entries a xs) q
updated_all f a [] h q = h q
updated_all f a (x ∷ xs) h q =
    updated_all (λ r. cond (eq_by_cmp path_cmp x.0 r) (Some x.1) (f r)) (fin.insert a x.0 x.1) xs
    (λ r. ap (cond (eq_by_cmp path_cmp x.0 r) (Some x.1)) (h r)
    ∙ ap (λ b. cond b (Some x.1) (fin.get a r)) ((eq_by_cmp_equiv path_total).symm x.0 r)
    ∙ sym (fin.get-insert path_total a x.0 x.1 r)) q

pub collected : (xs : List (Path × Mark)) (m : BTreeMap Path Mark) → IsFromIterResult path_cmp xs m → fin.from_entries m.entries ≡ with_entries fin.empty xs
collected xs m h =
    fin.same_map path_total path_antisymmetric _ _
    (λ q. fin.get-from_entries path_total m.entries q ∙ h.0 q ∙ updated_all (λ _. None) fin.empty xs (λ r. sym (fin.get-empty path_cmp r)) q)

-- Marks in the order of their paths are those of the archive that they are put into.
abbrev found_or : Option Mark → Option Mark → Option Mark
found_or None o = o
found_or (Some m) o = Some m

or_none : (o : Option Mark) → found_or o None ≡ o
or_none None = refl
or_none (Some m) = refl

placed : (b : Bool) (f : Option Mark) (m : Mark) (o : Option Mark) → (b ≡ true → f ≡ None) → found_or f (cond b (Some m) o) ≡ found_or (cond b (Some m) f) o
placed true f m o h = ap (λ g. found_or g (Some m)) (h refl)
placed false f m o h = refl

other_path : (q k x : Path) → eq_by_cmp path_cmp q k ≡ true → path_cmp k x ≡ Less → eq_by_cmp path_cmp q x ≡ false
other_path q k x t l = ap is_eq (ap (λ (p : Path). path_cmp p x) (same_path q k t) ∙ l)

not_later : (q k : Path) (es : List (Path × Mark)) → eq_by_cmp path_cmp q k ≡ true → AllByRecursion (λ y. path_cmp k y ≡ Less) (keys_of es) → find path_cmp q es ≡ None
not_later q k [] t h = refl
not_later q k (e ∷ es) t h = ap (λ b. cond b (Some e.1) (find path_cmp q es)) (other_path q k e.0 t h.0) ∙ not_later q k es t h.1

get-with_entries : (a : Archive) (es : List (Path × Mark)) (q : Path) → IsStrictlySortedBy path_cmp (keys_of es)
    → fin.get (with_entries a es) q ≡ found_or (find path_cmp q es) (fin.get a q)
get-with_entries a [] q s = refl
get-with_entries a (e ∷ es) q s =
    get-with_entries (fin.insert a e.0 e.1) es q (sorted_tail path_cmp e.0 (keys_of es) s)
    ∙ ap (found_or (find path_cmp q es)) (fin.get-insert path_total a e.0 e.1 q)
    ∙ placed (eq_by_cmp path_cmp q e.0) (find path_cmp q es) e.1 (fin.get a q) (λ t. not_later q e.0 es t (sorted_head path_cmp e.0 (keys_of es) s))

in_order : (es : List (Path × Mark)) → IsStrictlySortedBy path_cmp (keys_of es) → with_entries fin.empty es ≡ fin.from_entries es
in_order es s =
    fin.same_map path_total path_antisymmetric (with_entries fin.empty es) (fin.from_entries es)
    (λ q. get-with_entries fin.empty es q s ∙ ap (found_or (find path_cmp q es)) (fin.get-empty path_cmp q)
    ∙ or_none (find path_cmp q es) ∙ sym (fin.get-from_entries path_total es q))

pub collected_in_order : (xs es : List (Path × Mark)) (m : BTreeMap Path Mark) → IsFromIterResult path_cmp xs m → xs ≡ es → IsStrictlySortedBy path_cmp (keys_of es) → m.entries ≡ es
collected_in_order xs es m h same s = same_entries path_total path_antisymmetric m.entries es h.1 s (collected xs m h ∙ ap (with_entries fin.empty) same ∙ in_order es s)
