-- Trees and archives by what stands at each path, and trees after a change.
use Rattle.std.proofs.Common.{◌≡◌, ◌<◌, ◌+◌, Bool, true, false, cond, not, ◌&&◌, [], ◌∷◌, ◌++◌, length, Option, Some, None, refl, ap, sym, ◌∙◌, arith, length-append}
use Rattle.std.specs.Prelude.{◌==◌, if◌then◌else◌}
use Rattle.std.specs.FinMap as fin
use Rattle.std.specs.Option.{unwrap_or}
use Rattle.std.specs.Ordering.{eq_by_cmp}
use Rattle.std.proofs.lemmas.Bool.{false≢true, not-false, cond_both}
use Rattle.hub_path.specs.laws.General.{parent-last_name}
use Rattle.hub_path.specs.Path.{Name, Path, path_cmp, path_eq, parent, last_name}
use Rattle.hub_tree.specs.Tree.{Replica, Archive, IsTree, IsArchive, contents_at, old_mark_at, is_absent, is_directory, children, set_fault, with_contents}
use Rattle.hub_tree.specs.declared.contents.Contents.{Contents}
use Rattle.hub_tree.specs.declared.contents.Contents.TheVariants as contents
use Rattle.hub_tree.specs.declared.contents.Mark.TheVariants as mark
use Rattle.hub_tree.specs.declared.fault.SetFault.{SetFault}
use Rattle.hub_tree.specs.declared.fault.SetFault.TheVariants.{RootPath, NoParent, NotEmpty, NothingThere}
use Rattle.hub_tree.specs.laws.Order.{path_total, path_antisymmetric, same_path}
use Rattle.hub_tree.specs.laws.Children.{is_there, path_eq-cmp, child_names, childless_none, none_childless}

-- the map after a change
abbrev pub held : Contents → Option Contents
held (contents.File bytes) = Some (contents.File bytes)
held contents.Directory = Some contents.Directory
held contents.Absent = None

pub get-with_contents : (m : Replica) (p : Path) (c : Contents) (q : Path)
    → fin.get (with_contents m p c) q ≡ cond (eq_by_cmp path_cmp q p) (held c) (fin.get m q)
get-with_contents m p (contents.File bytes) q =
    fin.get-insert path_total m p (contents.File bytes) q
get-with_contents m p contents.Directory q = fin.get-insert path_total m p contents.Directory q
get-with_contents m p contents.Absent q = fin.get-remove path_total m p q

-- equal by what stands at each path
told : {C : Type 0} (o u : Option C) (nothing : C) → (o ≡ Some nothing → ⊥)
    → (u ≡ Some nothing → ⊥) → unwrap_or o nothing ≡ unwrap_or u nothing → o ≡ u
told None None nothing f g e = refl
told None (Some c) nothing f g e = absurd (g (ap Some (sym e)))
told (Some b) None nothing f g e = absurd (f (ap Some e))
told (Some b) (Some c) nothing f g e = ap Some e

same_contents : (m k : Replica) → IsTree m → IsTree k
    → ((p : Path) → contents_at m p ≡ contents_at k p) → (q : Path) → fin.get m q ≡ fin.get k q
same_contents m k t u h [] = t.no_top ∙ sym u.no_top
same_contents m k t u h (n ∷ q) =
    told (fin.get m (n ∷ q)) (fin.get k (n ∷ q)) contents.Absent (t.present (n ∷ q))
    (u.present (n ∷ q)) (h (n ∷ q))

pub same_tree : (m k : Replica) → IsTree m → IsTree k
    → ((p : Path) → contents_at m p ≡ contents_at k p) → m ≡ k
same_tree m k t u h = fin.same_map path_total path_antisymmetric m k (same_contents m k t u h)

pub same_archive : (a b : Archive) → IsArchive a → IsArchive b
    → ((p : Path) → old_mark_at a p ≡ old_mark_at b p) → a ≡ b
same_archive a b t u h =
    fin.same_map path_total path_antisymmetric a b
    (λ q. told (fin.get a q) (fin.get b q) mark.Absent (t.present q) (u.present q) (h q))

-- the contents after a change
held_or : (c : Contents) (b : Bool) (o : Option Contents)
    → unwrap_or (cond b (held c) o) contents.Absent ≡ cond b c (unwrap_or o contents.Absent)
held_or (contents.File bytes) true o = refl
held_or contents.Directory true o = refl
held_or contents.Absent true o = refl
held_or c false o = refl

pub contents-after : (m : Replica) (p q : Path) (c : Contents) → 0 < length p
    → contents_at (with_contents m p c) q ≡ cond (eq_by_cmp path_cmp q p) c (contents_at m q)
contents-after m [] q c l = absurd (omega arith)
contents-after m (k ∷ p) [] c l = refl
contents-after m (k ∷ p) (n ∷ q) c l =
    ap (λ o. unwrap_or o contents.Absent) (get-with_contents m (k ∷ p) c (n ∷ q))
    ∙ held_or c (eq_by_cmp path_cmp (n ∷ q) (k ∷ p)) (fin.get m (n ∷ q))

pub contents_by_eq-after : (m : Replica) (p q : Path) (c : Contents) → 0 < length p
    → contents_at (with_contents m p c) q ≡ (if path_eq q p then c else contents_at m q)
contents_by_eq-after m p q c l =
    contents-after m p q c l ∙ ap (λ b. cond b c (contents_at m q)) (sym (path_eq-cmp q p))

-- what is at the children
shown_or : (o : Option Contents) → is_there o ≡ not (is_absent (unwrap_or o contents.Absent))
shown_or None = refl
shown_or (Some c) = refl

pub shown_contents : (m : Replica) (q : Path) → 0 < length q
    → is_there (fin.get m q) ≡ not (is_absent (contents_at m q))
shown_contents m [] l = absurd (omega arith)
shown_contents m (n ∷ q) l = shown_or (fin.get m (n ∷ q))

pub childless_absent : (m : Replica) (d : Path) (n : Name) → (length (children m d) == 0) ≡ true
    → is_absent (contents_at m (d ++ n ∷ [])) ≡ true
childless_absent m d n h =
    not-false _ (sym (shown_contents m (d ++ n ∷ []) (child_names d n)) ∙ childless_none m d h n)

pub absent_childless : (m : Replica) (d : Path)
    → ((n : Name) → is_absent (contents_at m (d ++ n ∷ [])) ≡ true)
    → (length (children m d) == 0) ≡ true
absent_childless m d h =
    none_childless m d (λ n. shown_contents m (d ++ n ∷ []) (child_names d n) ∙ ap not (h n))

-- when there is no fault
abbrev first_fault : Bool → Bool → Bool → Bool → Option SetFault
first_fault a b x y =
    if a then Some RootPath else (if not b then Some NoParent
    else (if x then Some NotEmpty else (if y then Some NothingThere else None)))

first_none : (a b x y : Bool) → first_fault a b x y ≡ None
    → (a ≡ false) × (b ≡ true) × (x ≡ false) × (y ≡ false)
first_none true b x y h = cc
first_none false false x y h = cc
first_none false true true y h = cc
first_none false true false true h = cc
first_none false true false false h = (refl, refl, refl, refl)

pub some_names : (p : Path) → (length p == 0) ≡ false → 0 < length p
some_names [] e = cc
some_names (n ∷ p) e = omega arith

-- What is so where contents may be set at a path.
pub record MayBeSet (m : Replica) (p : Path) (c : Contents) : Type 0 where
  pub names : (length p == 0) ≡ false
  pub parent : is_directory (contents_at m (parent p)) ≡ true
  pub bare : (is_directory (contents_at m p) && not (is_directory c)
      && not (length (children m p) == 0)) ≡ false
  pub there : (is_absent (contents_at m p) && is_absent c) ≡ false

pub no_fault : (m : Replica) (p : Path) (c : Contents) → set_fault m p c ≡ None → MayBeSet m p c
no_fault m p c h =
    let w = first_none (length p == 0) (is_directory (contents_at m (parent p)))
    (is_directory (contents_at m p) && not (is_directory c)
    && not (length (children m p) == 0)) (is_absent (contents_at m p) && is_absent c) h in
    record { names = w.0; parent = w.1; bare = w.2; there = w.3 }

pub no_fault-from : (m : Replica) (p : Path) (c : Contents) → MayBeSet m p c
    → set_fault m p c ≡ None
no_fault-from m p c g = λ i. first_fault (g.names i) (g.parent i) (g.bare i) (g.there i)

-- a tree after a change
shorter : (p : Path) → 0 < length p → length (parent p) + 1 ≡ length p
shorter [] l = absurd (omega arith)
shorter (n ∷ p) l =
    omega (
      arith,
      ap length (parent-last_name n p),
      length-append (parent (n ∷ p)) (last_name (n ∷ p) ∷ []),
    )

made_directory : (a b z : Bool) → a ≡ true → z ≡ false → (a && not b && not z) ≡ false → b ≡ true
made_directory a true z e f h = refl
made_directory true false false e f h = absurd (false≢true (sym h))
made_directory true false true e f h = absurd (false≢true (sym f))
made_directory false b z e f h = absurd (false≢true e)

with_child : (m : Replica) (p q : Path) (z : Bool) → 0 < length q → parent q ≡ p
    → is_absent (contents_at m q) ≡ false → (length (children m p) == 0) ≡ z → z ≡ false
with_child m p [] z l e h s = absurd (omega arith)
with_child m p (n ∷ q) false l e h s = refl
with_child m p (n ∷ q) true l e h s =
    let is : p ++ last_name (n ∷ q) ∷ [] ≡ n ∷ q =
    ap (λ d. d ++ last_name (n ∷ q) ∷ []) (sym e) ∙ parent-last_name n q in
    absurd (false≢true (sym h ∙ ap (λ q. is_absent (contents_at m q)) (sym is)
    ∙ childless_absent m p (last_name (n ∷ q)) s))

longer : (p q : Path) → 0 < length p → parent q ≡ p → 0 < length q
longer p [] l e = absurd (omega (arith, ap length e))
longer p (n ∷ q) l e = omega arith

parents-after : (m : Replica) (p q : Path) (c : Contents) (b d : Bool) → IsTree m → MayBeSet m p c
    → eq_by_cmp path_cmp q p ≡ b → eq_by_cmp path_cmp (parent q) p ≡ d
    → is_absent (cond b c (contents_at m q)) ≡ false
    → is_directory (cond d c (contents_at m (parent q))) ≡ true
parents-after m p q c true true t g e f h =
    let is : parent p ≡ p = ap parent (sym (same_path q p e)) ∙ same_path (parent q) p f in
    absurd (omega (arith, ap length is, shorter p (some_names p g.names)))
parents-after m p q c true false t g e f h =
    ap (λ q. is_directory (contents_at m (parent q))) (same_path q p e) ∙ g.parent
parents-after m p q c false true t g e f h =
    let is : parent q ≡ p = same_path (parent q) p f in
    made_directory (is_directory (contents_at m p)) (is_directory c) (length (children m p) == 0)
    (ap (λ p. is_directory (contents_at m p)) (sym is) ∙ t.parents q h)
    (with_child m p q (length (children m p) == 0)
    (longer p q (some_names p g.names) is) is h refl) g.bare
parents-after m p q c false false t g e f h = t.parents q h

held_present : (c : Contents) → held c ≡ Some contents.Absent → ⊥
held_present (contents.File bytes) e = cc
held_present contents.Directory e = cc
held_present contents.Absent e = cc

no_top-after : (m : Replica) (p : Path) (c : Contents) → IsTree m → 0 < length p
    → fin.get (with_contents m p c) [] ≡ None
no_top-after m [] c t l = absurd (omega arith)
no_top-after m (n ∷ p) c t l = get-with_contents m (n ∷ p) c [] ∙ t.no_top

pub IsTree-after : (m : Replica) (p : Path) (c : Contents) → IsTree m → set_fault m p c ≡ None
    → IsTree (with_contents m p c)
IsTree-after m p c t h =
    let g = no_fault m p c h in
    let l = some_names p g.names in
    record {
      parents = λ q e. ap is_directory (contents-after m p (parent q) c l)
          ∙ parents-after m p q c (eq_by_cmp path_cmp q p)
          (eq_by_cmp path_cmp (parent q) p) t g refl refl
          (sym (ap is_absent (contents-after m p q c l)) ∙ e);
      present =
          λ q e. cond_both (eq_by_cmp path_cmp q p) (held c) (fin.get m q)
          (λ r. r ≡ Some contents.Absent → ⊥) (λ b. held_present c) (λ b. t.present q)
          (sym (get-with_contents m p c q) ∙ e);
      no_top = no_top-after m p c t l;
    }
