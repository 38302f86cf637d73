-- The next archive is made of the old marks at the paths that aren't reached, and of the new marks of all rows.
use Rattle.std.proofs.Common.{◌≡◌, ◌<◌, Bool, true, false, cond, not, ◌&&◌, ◌||◌, List, [], ◌∷◌, ◌++◌, length, map, Option, Some, None, refl, ap, sym, ◌∙◌, arith}
use Rattle.std.specs.Prelude.{filter, fold}
use Rattle.std.specs.FinMap as fin
use Rattle.std.specs.FinMap.Entries.{find}
use Rattle.std.specs.List.{AllByRecursion, flat_map}
use Rattle.std.specs.List.Sorted.{IsStrictlySortedBy}
use Rattle.std.specs.Option.{is_some, unwrap_or}
use Rattle.std.specs.Ordering.{eq_by_cmp}
use Rattle.std.specs.declared.cmp.Ordering.TheVariants.{Less}
use Rattle.std.proofs.lemmas.Bool.{false≢true, and_parts, and_from, or_left, or_right, not-true, false_from_ne_true, or_parts}
use Rattle.std.proofs.lemmas.List.Concat.{flat_map-append}
use Rattle.std.proofs.lemmas.List.Folds.{list_any-append}
use Rattle.std.proofs.lemmas.Map.Keys.{sorted_head, sorted_tail}
use Rattle.hub_tree.specs.laws.MarkMaps.{get-with_kept}
use Rattle.hub_path.specs.laws.General.{path_cmp-total, path_cmp-exact}
use Rattle.hub_path.specs.Path.{Path, path_cmp, ascending}
use Rattle.hub_path.specs.declared.side.Side.{Side}
use Rattle.hub_path.specs.declared.side.Side.TheVariants.{Left, Right}
use Rattle.hub_profile.specs.Parts.{Parts}
use Rattle.hub_reach.specs.Reach.{reach}
use Rattle.hub_tree.specs.Marked.{kept_entries, marked_entries, with_entries}
use Rattle.hub_tree.specs.Tree.{Archive, IsArchive, kept_mark, old_mark_at, with_mark}
use Rattle.hub_tree.specs.declared.contents.Mark.{Mark}
use Rattle.hub_tree.specs.declared.contents.Mark.TheVariants as mark
use Rattle.hub_tree.specs.laws.Between.{among, among_filter, not_both}
use Rattle.hub_tree.specs.laws.Children.{sorted_keys}
use Rattle.hub_tree.specs.laws.Order.{path_itself, same_path}
use Rattle.hub_reconcile.specs.forms.Groups.{AreGroups, IsPartition, group_marks, group_paths, kept_marks, row_told, HaveMarkNames}
use Rattle.hub_reconcile.specs.Merge.{paths_in, is_other}
use Rattle.hub_reconcile.specs.Picture.{view_by}
use Rattle.hub_reconcile.specs.Rows.{AreRows, paths_of}
use Rattle.hub_reconcile.specs.Sight.{Sight}
use Rattle.hub_reconcile.specs.Sync.{fate_over, next_archive, synced_mark}
use Rattle.hub_reconcile.specs.View.{View, is_present}
use Rattle.hub_reconcile.specs.declared.group.Group.{Group}
use Rattle.hub_reconcile.specs.declared.item.Fate.{Fate}
use Rattle.hub_reconcile.specs.declared.row.Row.{Row}
use Rattle.hub_reconcile.specs.laws.Ascend.{among_ascending}
use Rattle.hub_reconcile.specs.laws.Each.{Each, Each-append, each-filter, each-weaker}
use Rattle.hub_reconcile.specs.laws.Looked.{old_among}
use Rattle.hub_reconcile.proofs.Partitions.{fate_at, fold-append, map-append, row_mark}
use Rattle.hub_reconcile.proofs.ShownFacts.{all_paths, does_count, seen_at}

-- Look-ups after marks were set.
either : (b c : Bool) (x y z : Option Mark) → (c ≡ true → x ≡ y) → cond b x (cond c y z) ≡ cond (c || b) x z
either true true x y z e = refl
either true false x y z e = refl
either false true x y z e = sym (e refl)
either false false x y z e = refl

kept_after : (f : Path → Mark) (ps : List Path) (a : Archive) (q : Path) → fin.get (fold (λ a p. with_mark a p (f p)) a ps) q ≡ cond (among q ps) (kept_mark (f q)) (fin.get a q)
kept_after f [] a q = refl
kept_after f (p ∷ ps) a q =
    kept_after f ps (with_mark a p (f p)) q
    ∙ (ap (cond (among q ps) (kept_mark (f q))) (get-with_kept a p (kept_mark (f p)) q)
    ∙ either (among q ps) (eq_by_cmp path_cmp q p) (kept_mark (f q)) (kept_mark (f p)) (fin.get a q) (λ e. ap (λ z. kept_mark (f z)) (same_path q p e)))

-- Look-ups after marks were put in.
entry_get : (a : Archive) (p : Path) (k : Option Mark) (q : Path) → fin.get (with_entries a (kept_entries p k)) q ≡ cond (is_some k && eq_by_cmp path_cmp q p) k (fin.get a q)
entry_get a p (Some m) q = fin.get-insert path_cmp-total a p m q
entry_get a p None q = refl

joined : (k g : Option Mark) (b c : Bool) → (b ≡ true → k ≡ g) → cond (is_some k && b) k (cond c g None) ≡ cond (b || c) g None
joined None g true true h = refl
joined None g true false h = h refl
joined None g false c h = refl
joined (Some m) g true c h = h refl
joined (Some m) g false c h = refl

swap_or : (a b c : Bool) → ((b || a) || c) ≡ (a || (b || c))
swap_or true true c = refl
swap_or true false c = refl
swap_or false true c = refl
swap_or false false c = refl

or_none : (a : Bool) → a ≡ (a || false)
or_none true = refl
or_none false = refl

shut : (b : Bool) (k : Option Mark) → (b ≡ false → k ≡ None) → cond b k None ≡ k
shut true k h = refl
shut false k h = sym (h refl)

gets : (g : Path → Option Mark) (es : List (Path × Mark)) (a : Archive) (c : Path → Bool) → ((q : Path) → fin.get a q ≡ cond (c q) (g q) None) → Each (λ (e : Path × Mark). kept_mark e.1 ≡ g e.0) es
    → (q : Path) → fin.get (with_entries a (kept_marks es)) q ≡ cond (c q || among q (paths_in es)) (g q) None
gets g [] a c h right q = h q ∙ ap (λ b. cond b (g q) None) (or_none (c q))
gets g (e ∷ es) a c h right q =
    ap (λ (b : Archive). fin.get b q) (fold-append (λ (b : Archive) (x : Path × Mark). fin.insert b x.0 x.1) a (marked_entries e.0 e.1) (kept_marks es))
    ∙ (gets g es (with_entries a (marked_entries e.0 e.1)) (λ r. eq_by_cmp path_cmp r e.0 || c r)
    (λ r. entry_get a e.0 (kept_mark e.1) r
    ∙ (ap (cond (is_some (kept_mark e.1) && eq_by_cmp path_cmp r e.0) (kept_mark e.1)) (h r)
    ∙ joined (kept_mark e.1) (g r) (eq_by_cmp path_cmp r e.0) (c r) (λ k. right.0 ∙ ap g (sym (same_path r e.0 k)))))
    right.1 q
    ∙ ap (λ b. cond b (g q) None) (swap_or (c q) (eq_by_cmp path_cmp q e.0) (among q (paths_in es))))

-- An archive whose marks are all pushed, and no others.
made_of : (n : Archive) (es : List (Path × Mark)) → Each (λ (e : Path × Mark). kept_mark e.1 ≡ fin.get n e.0) es → ((q : Path) → among q (paths_in es) ≡ false → fin.get n q ≡ None)
    → with_entries fin.empty (kept_marks es) ≡ n
made_of n es right full =
    fin.same_map path_cmp-total path_cmp-exact (with_entries fin.empty (kept_marks es)) n
    (λ q. gets (fin.get n) es fin.empty (λ _. false) (λ r. fin.get-empty path_cmp r) right q ∙ shut (among q (paths_in es)) (fin.get n q) (full q))

-- Each entry of an archive is found at its path.
found_later : (x : Path × Mark) (xs es : List (Path × Mark)) → Each (λ (e : Path × Mark). path_cmp x.0 e.0 ≡ Less) es → Each (λ (e : Path × Mark). find path_cmp e.0 xs ≡ Some e.1) es
    → Each (λ (e : Path × Mark). find path_cmp e.0 (x ∷ xs) ≡ Some e.1) es
found_later x xs [] less found = tt
found_later x xs (e ∷ es) less found =
    let apart : eq_by_cmp path_cmp e.0 x.0 ≡ false = false_from_ne_true _ (λ k.
    let w : path_cmp x.0 x.0 ≡ Less = ap (path_cmp x.0) (sym (same_path e.0 x.0 k)) ∙ less.0 in not_both x.0 x.0 w w) in
    (ap (λ b. cond b (Some x.1) (find path_cmp e.0 xs)) apart ∙ found.0, found_later x xs es less.1 found.1)

heads : (p : Path) (es : List (Path × Mark)) → AllByRecursion (λ y. path_cmp p y ≡ Less) (paths_in es) → Each (λ (e : Path × Mark). path_cmp p e.0 ≡ Less) es
heads p [] h = tt
heads p (e ∷ es) h = (h.0, heads p es h.1)

all_found : (es : List (Path × Mark)) → IsStrictlySortedBy path_cmp (paths_in es) → Each (λ (e : Path × Mark). find path_cmp e.0 es ≡ Some e.1) es
all_found [] s = tt
all_found (x ∷ xs) s = (
  ap (λ b. cond b (Some x.1) (find path_cmp x.0 xs)) (path_itself x.0),
  found_later x xs xs (heads x.0 xs (sorted_head path_cmp x.0 (paths_in xs) s)) (all_found xs (sorted_tail path_cmp x.0 (paths_in xs) s)),
)

kept_present : (m : Mark) → is_present m ≡ true → kept_mark m ≡ Some m
kept_present (mark.File d) e = refl
kept_present mark.Directory e = refl
kept_present mark.Absent e = absurd (false≢true e)

not_absent : (m : Mark) → (m ≡ mark.Absent → ⊥) → is_present m ≡ true
not_absent (mark.File d) h = refl
not_absent mark.Directory h = refl
not_absent mark.Absent h = absurd (h refl)

-- The paths of rows and of groups.
paths_told : (f : Option Fate) (rs : List Row) → paths_in (map (row_told f) rs) ≡ paths_of rs
paths_told f [] = refl
paths_told f (r ∷ rs) = ap (λ ps. r.path.now ∷ ps) (paths_told f rs)

paths_groups : (bs : List Group) → paths_in (flat_map group_marks bs) ≡ flat_map group_paths bs
paths_groups [] = refl
paths_groups (b ∷ bs) =
    map-append (λ (e : Path × Mark). e.0) (group_marks b) (flat_map group_marks bs) ∙ (λ i. paths_told b.fate (b.first.now ∷ b.below.now) i ++ paths_groups bs i)

named_marks : (es : List (Path × Mark)) → Each (λ (e : Path × Mark). 0 < length e.0) es → HaveMarkNames es
named_marks [] h = tt
named_marks (e ∷ es) h = (h.0, named_marks es h.1)

other_there : (f : Path → Bool) (q : Path) (m : Mark) (es : List (Path × Mark)) → find path_cmp q es ≡ Some m → is_other f (q, m) ≡ true → among q (paths_in (filter (is_other f) es)) ≡ true
other_there f q m [] e h = cc
other_there f q m (x ∷ es) e h =
    elim (eq_by_cmp path_cmp q x.0) as (λ b. eq_by_cmp path_cmp q x.0 ≡ b → cond b (Some x.1) (find path_cmp q es) ≡ Some m → among q (paths_in (filter (is_other f) (x ∷ es))) ≡ true) [
      | true ↦ λ k g.
          let same : is_other f x ≡ true = (λ i. not (f (sym (same_path q x.0 k) i)) && is_present (unwrap_or (g i) mark.Absent)) ∙ h in
          ap (λ b. among q (paths_in (cond b (x ∷ filter (is_other f) es) (filter (is_other f) es)))) same ∙ or_left _ _ k
      | false ↦ λ k g.
          let rest : among q (paths_in (filter (is_other f) es)) ≡ true = other_there f q m es g h in
          elim (is_other f x) as (λ b. among q (paths_in (cond b (x ∷ filter (is_other f) es) (filter (is_other f) es))) ≡ true) [
            | true ↦ or_right (eq_by_cmp path_cmp q x.0) _ rest
            | false ↦ rest
          ]
    ] refl e

module _ (P : Parts) (O : Archive) (seen : Side → List (Path × Sight)) (is : IsArchive O) where
  abbrev V : View
  V = view_by P O seen

  abbrev others : List (Path × Mark)
  others = filter (is_other (reach P)) (fin.entries O)

  next_get : (q : Path) → fin.get (next_archive V O) q ≡ cond (among q V.paths) (kept_mark (synced_mark V q)) (fin.get O q)
  unfolding next_archive
  next_get q = kept_after (synced_mark V) V.paths O q

  abbrev IsRight : Path × Mark → Type 0
  IsRight e = kept_mark e.1 ≡ fin.get (next_archive V O) e.0

  not_in : (q : Path) → reach P q ≡ false → among q V.paths ≡ false
  not_in q h =
      false_from_ne_true (among q V.paths) (λ e.
      let counted = (and_parts (does_count P O seen q) (among q (ascending (all_paths P O seen))) (sym (among_filter q (does_count P O seen) (ascending (all_paths P O seen))) ∙ e)).0 in
      false≢true (sym h ∙ (and_parts (reach P q) _ counted).0))

  in_paths : (q : Path) → reach P q ≡ true → is_present (old_mark_at O q) ≡ true → among q V.paths ≡ true
  in_paths q h there =
      among_filter q (does_count P O seen) (ascending (all_paths P O seen))
      ∙ and_from (does_count P O seen q) _ (and_from (reach P q) _ h (or_right (is_present (V.mark Left q) || is_present (V.mark Right q)) _ there))
      (among_ascending q (all_paths P O seen)
      ∙ (list_any-append (eq_by_cmp path_cmp q) (seen_at P O seen Left ++ seen_at P O seen Right) (fin.keys O)
      ∙ or_right (among q (seen_at P O seen Left ++ seen_at P O seen Right)) _ (old_among O q (fin.get O q) refl there)))

  -- The old marks that are kept.
  abbrev IsKept : Path × Mark → Type 0
  IsKept e = (is_other (reach P) e ≡ true) × (find path_cmp e.0 (fin.entries O) ≡ Some e.1)

  others_kept : Each IsKept others
  others_kept =
      each-filter (λ (e : Path × Mark). find path_cmp e.0 (fin.entries O) ≡ Some e.1) (is_other (reach P)) (fin.entries O)
      (all_found (fin.entries O) (sorted_keys path_cmp (fin.entries O) (fin.entries_sorted O)))

  kept_right : (e : Path × Mark) → IsKept e → IsRight e
  kept_right e w =
      let two = and_parts (not (reach P e.0)) (is_present e.1) w.0 in
      kept_present e.1 two.1
      ∙ sym (next_get e.0 ∙ (ap (λ b. cond b (kept_mark (synced_mark V e.0)) (fin.get O e.0)) (not_in e.0 (not-true (reach P e.0) two.0)) ∙ (fin.get-entries O e.0 ∙ w.1)))

  has_name : (p : Path) (m : Mark) → fin.get O p ≡ Some m → 0 < length p
  has_name [] m e = let w : None ≡ Some m = sym is.no_top ∙ e in cc
  has_name (n ∷ p) m e = omega arith

  pub others_named : HaveMarkNames others
  others_named =
      named_marks others (each-weaker IsKept (λ (e : Path × Mark). 0 < length e.0) others (λ e w. has_name e.0 e.1 (fin.get-entries O e.0 ∙ w.1)) others_kept)

  -- The new marks.
  rows_right : (f : Option Fate) (rs : List Row) → AreRows V rs → ((q : Path) → among q (paths_of rs) ≡ true → fate_over V q ≡ f)
      → ((q : Path) → among q (paths_of rs) ≡ true → among q V.paths ≡ true) → Each IsRight (map (row_told f) rs)
  rows_right f [] are fates into = tt
  rows_right f (r ∷ rs) are fates into =
      let p : Path = r.path.now in
      let here : among p (p ∷ paths_of rs) ≡ true = or_left _ (among p (paths_of rs)) (path_itself p) in (
        ap kept_mark (row_mark V r f are.0 (fates p here)) ∙ sym (next_get p ∙ ap (λ b. cond b (kept_mark (synced_mark V p)) (fin.get O p)) (into p here)),
        rows_right f rs are.1 (λ q e. fates q (or_right (eq_by_cmp path_cmp q p) _ e)) (λ q e. into q (or_right (eq_by_cmp path_cmp q p) _ e)),
      )

  groups_right : (bs : List Group) → AreGroups V bs → ((q : Path) → among q (flat_map group_paths bs) ≡ true → among q V.paths ≡ true) → Each IsRight (flat_map group_marks bs)
  groups_right [] are into = tt
  groups_right (b ∷ bs) are into =
      Each-append IsRight (group_marks b) (flat_map group_marks bs)
      (rows_right b.fate (b.first.now ∷ b.below.now) are.0.rows (fate_at V b.first.now.path.now (paths_of b.below.now) b.fate are.0.fated)
      (λ q e. into q (list_any-append (eq_by_cmp path_cmp q) (group_paths b) (flat_map group_paths bs) ∙ or_left _ _ e)))
      (groups_right bs are.1 (λ q e. into q (list_any-append (eq_by_cmp path_cmp q) (group_paths b) (flat_map group_paths bs) ∙ or_right (among q (group_paths b)) _ e)))

  module _ (bs : List Group) (w : IsPartition V bs) where
    abbrev all_marks : List (Path × Mark)
    all_marks = others ++ flat_map group_marks bs

    all_right : Each IsRight all_marks
    all_right =
        Each-append IsRight others (flat_map group_marks bs) (each-weaker IsKept IsRight others kept_right others_kept)
        (groups_right bs w.groups (λ q e. sym (ap (among q) w.paths) ∙ e))

    is_there : (q : Path) (m : Mark) (b : Bool) → fin.get O q ≡ Some m → reach P q ≡ b → (among q (paths_in others) ≡ true → ⊥) → (among q V.paths ≡ true → ⊥) → ⊥
    is_there q m true e h not_kept not_new =
        let present = not_absent m (λ k. is.present q (e ∙ ap (λ x. Some x) k)) in
        not_new (in_paths q h (ap (λ k. is_present (unwrap_or k mark.Absent)) e ∙ present))
    is_there q m false e h not_kept not_new =
        let present = not_absent m (λ k. is.present q (e ∙ ap (λ x. Some x) k)) in
        not_kept (other_there (reach P) q m (fin.entries O) (sym (fin.get-entries O q) ∙ e) (and_from (not (reach P q)) (is_present m) (ap not h) present))

    none_there : (q : Path) (k : Option Mark) → fin.get O q ≡ k → among q (paths_in others) ≡ false → among q V.paths ≡ false → fin.get O q ≡ None
    none_there q None e a b = e
    none_there q (Some m) e a b = absurd (is_there q m (reach P q) e refl (λ h. false≢true (sym a ∙ h)) (λ h. false≢true (sym b ∙ h)))

    all_full : (q : Path) → among q (paths_in all_marks) ≡ false → fin.get (next_archive V O) q ≡ None
    all_full q e =
        let two = or_parts (among q (paths_in others)) (among q V.paths)
        (sym (ap (among q) (map-append (λ (e : Path × Mark). e.0) others (flat_map group_marks bs))
        ∙ (list_any-append (eq_by_cmp path_cmp q) (paths_in others) (paths_in (flat_map group_marks bs))
        ∙ ap (λ ps. among q (paths_in others) || among q ps) (paths_groups bs ∙ w.paths))) ∙ e) in
        next_get q ∙ (ap (λ b. cond b (kept_mark (synced_mark V q)) (fin.get O q)) two.1 ∙ none_there q (fin.get O q) refl two.0 two.1)

    pub renewed : with_entries fin.empty (kept_marks others ++ kept_marks (flat_map group_marks bs)) ≡ next_archive V O
    renewed =
        ap (with_entries fin.empty) (sym (flat_map-append (λ (e : Path × Mark). marked_entries e.0 e.1) others (flat_map group_marks bs)))
        ∙ made_of (next_archive V O) all_marks all_right all_full
