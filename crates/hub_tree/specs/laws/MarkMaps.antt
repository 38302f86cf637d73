-- Archives as maps.
use Rattle.std.proofs.Common.{◌≡◌, ℕ, ◌<◌, Bool, true, false, cond, List, [], ◌∷◌, Option, Some, None, refl, ap, sym, ◌∙◌, arith}
use Rattle.std.specs.FinMap as fin
use Rattle.std.specs.FinMap.Entries.{find}
use Rattle.std.specs.Option.{is_some, unwrap_or}
use Rattle.std.specs.Prelude.{length}
use Rattle.std.specs.Ordering.{eq_by_cmp}
use Rattle.std.proofs.lemmas.Bool.{false≢true, cond_both}
use Rattle.hub_path.specs.Path.{Path, path_cmp, path_eq, is_path, is_place}
use Rattle.hub_tree.specs.Tree.{Archive, IsArchive, HasPaths, HasDigests, IsDigest, old_mark_at, kept_mark, with_kept, with_mark}
use Rattle.hub_tree.specs.declared.contents.Mark.{Mark}
use Rattle.hub_tree.specs.declared.contents.Mark.TheVariants as mark
use Rattle.hub_tree.specs.laws.Order.{path_total, path_antisymmetric, same_path}
use Rattle.hub_tree.specs.laws.Ascending.{get_changed}
use Rattle.hub_tree.specs.laws.Children.{path_eq-cmp, one_item}

pub get-with_kept : (a : Archive) (p : Path) (w : Option Mark) (q : Path)
    → fin.get (with_kept a p w) q ≡ cond (eq_by_cmp path_cmp q p) w (fin.get a q)
get-with_kept a p (Some m) q = fin.get-insert path_total a p m q
get-with_kept a p None q = fin.get-remove path_total a p q

-- entries that were changed at one path
pub changed_marks : (es fs : List (Path × Mark)) (a : Archive) (p : Path) (w : Option Mark)
    → fin.from_entries es ≡ a → ((q : Path)
    → find path_cmp q fs ≡ cond (eq_by_cmp path_cmp p q) w (find path_cmp q es))
    → fin.from_entries fs ≡ with_kept a p w
changed_marks es fs a p w v h =
    fin.same_map path_total path_antisymmetric _ _
    (λ q. get_changed path_total es fs p w h q
    ∙ ap (λ a. cond (eq_by_cmp path_cmp q p) w (fin.get a q)) v ∙ sym (get-with_kept a p w q))

kept_present : (m : Mark) → kept_mark m ≡ Some mark.Absent → ⊥
kept_present (mark.File digest) e = cc
kept_present mark.Directory e = cc
kept_present mark.Absent e = cc

-- A map with a path at each key keeps it where a path is set.
pub path_here : {X : Type 0} (a : fin.FinMap path_cmp X) (p q : Path) (w : Option X) (b : Bool)
    → is_path p ≡ true → HasPaths a → eq_by_cmp path_cmp q p ≡ b
    → is_some (cond b w (fin.get a q)) ≡ true → is_path q ≡ true
path_here a p q w true here paths e s = ap is_path (same_path q p e) ∙ here
path_here a p q w false here paths e s = paths q s

none_from : (o : Option Mark) → (is_some o ≡ true → is_path [] ≡ true) → o ≡ None
none_from None f = refl
none_from (Some m) f = absurd (false≢true (f refl))

-- No path is empty.
no_top : (a : Archive) → HasPaths a → fin.get a [] ≡ None
no_top a h = none_from (fin.get a []) (λ e. h [] e)

pub HasPaths-set : (a : Archive) (p : Path) (m : Mark) → HasPaths a → is_path p ≡ true
    → HasPaths (with_mark a p m)
HasPaths-set a p m h here =
    λ q e. path_here a p q (kept_mark m) (eq_by_cmp path_cmp q p) here h refl
    (sym (ap is_some (get-with_kept a p (kept_mark m) q)) ∙ e)

present-set : (a : Archive) (p : Path) (m : Mark) → IsArchive a → (q : Path)
    → fin.get (with_mark a p m) q ≡ Some mark.Absent → ⊥
present-set a p m h = λ q e.
    cond_both (eq_by_cmp path_cmp q p) (kept_mark m) (fin.get a q) (λ r. r ≡ Some mark.Absent → ⊥)
    (λ b. kept_present m) (λ b. h.present q) (sym (get-with_kept a p (kept_mark m) q) ∙ e)

-- Digests of files.
kept_file : (m : Mark) (d : List ℕ) → kept_mark m ≡ Some (mark.File d) → m ≡ mark.File d
kept_file (mark.File x) d e = ap (λ o. unwrap_or o mark.Absent) e
kept_file mark.Directory d e = cc
kept_file mark.Absent d e = cc

HasDigests-set : (a : Archive) (p : Path) (m : Mark) → HasDigests a
    → ((d : List ℕ) → m ≡ mark.File d → IsDigest d) → HasDigests (with_mark a p m)
HasDigests-set a p m h here = λ q d e.
    cond_both (eq_by_cmp path_cmp q p) (kept_mark m) (fin.get a q)
    (λ r. r ≡ Some (mark.File d) → IsDigest d) (λ b k. here d (kept_file m d k)) (λ b. h q d)
    (sym (get-with_kept a p (kept_mark m) q) ∙ e)

pub IsArchive-set : (a : Archive) (p : Path) (m : Mark) → IsArchive a × HasPaths a × HasDigests a
    → is_path p ≡ true
    → ((d : List ℕ) → m ≡ mark.File d → IsDigest d)
    → IsArchive (with_mark a p m) × HasPaths (with_mark a p m) × HasDigests (with_mark a p m)
IsArchive-set a p m h here digest =
    let paths = HasPaths-set a p m h.1 here in (
      record { present = present-set a p m h.0; no_top = no_top (with_mark a p m) paths },
      paths,
      HasDigests-set a p m h.2 digest,
    )

-- As laws.
top_stays : (a : Archive) (p : Path) (w : Option Mark) → 0 < length p → fin.get a [] ≡ None
    → fin.get (with_kept a p w) [] ≡ None
top_stays a [] w l e = absurd (omega arith)
top_stays a (n ∷ p) w l e = get-with_kept a (n ∷ p) w [] ∙ e

pub IsArchive-after : (a : Archive) (p : Path) (m : Mark) → 0 < length p → IsArchive a
    → IsArchive (with_mark a p m)
IsArchive-after a p m l h =
    record { present = present-set a p m h; no_top = top_stays a p (kept_mark m) l h.no_top }

kept_or : (m : Mark) → unwrap_or (kept_mark m) mark.Absent ≡ m
kept_or (mark.File d) = refl
kept_or mark.Directory = refl
kept_or mark.Absent = refl

mark_or : (b : Bool) (m : Mark) (o : Option Mark)
    → unwrap_or (cond b (kept_mark m) o) mark.Absent ≡ cond b m (unwrap_or o mark.Absent)
mark_or true m o = kept_or m
mark_or false m o = refl

pub old_mark-after : (a : Archive) (p q : Path) (m : Mark)
    → old_mark_at (with_mark a p m) q ≡ cond (path_eq q p) m (old_mark_at a q)
old_mark-after a p q m =
    ap (λ o. unwrap_or o mark.Absent) (get-with_kept a p (kept_mark m) q)
    ∙ mark_or (eq_by_cmp path_cmp q p) m (fin.get a q)
    ∙ ap (λ b. cond b m (old_mark_at a q)) (sym (path_eq-cmp q p))

pub IsArchive-empty : IsArchive fin.empty × HasPaths {T = Mark} fin.empty × HasDigests fin.empty
IsArchive-empty = (
  record {
    present = λ p e. let n : None ≡ Some mark.Absent = sym (fin.get-empty path_cmp p) ∙ e in cc;
    no_top = fin.get-empty path_cmp [];
  },
  λ p e. let n : false ≡ true = sym (ap is_some (fin.get-empty {X = Mark} path_cmp p)) ∙ e in cc,
  λ p d e. let n : None ≡ Some (mark.File d) = sym (fin.get-empty path_cmp p) ∙ e in cc,
)

pub is_path-names : (p : Path) → 0 < length p → is_place p ≡ true → is_path p ≡ true
is_path-names [] l h = absurd (omega arith)
is_path-names (n ∷ p) l h = rw (one_item n p) h
