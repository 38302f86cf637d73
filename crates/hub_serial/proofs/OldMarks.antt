-- What a job does depends on its archive only at the paths that it reaches.
use Rattle.std.proofs.Common.{◌≡◌, Bool, true, false, cond, not, ◌&&◌, ◌||◌, List, [], ◌∷◌, ◌++◌, map, Option, Some, None, refl, ap, sym, ◌∙◌}
use Rattle.std.specs.Prelude.{IsTrue, filter, option_map, slice_get, fold, is_some, unwrap_or}
use Rattle.std.specs.List.{list_all, list_any, flat_map}
use Rattle.std.specs.FinMap as fin
use Rattle.std.specs.List.Sorted.{IsStrictlySortedBy}
use Rattle.std.specs.Ordering.{eq_by_cmp}
use Rattle.std.proofs.lemmas.Bool.{false≢true, and_parts, and_from, false_from_ne_true}
use Rattle.std.proofs.lemmas.List.Folds.{list_any-append}
use Rattle.std.proofs.lemmas.List.Kept.{IsStrictlySortedBy-filter}
use Rattle.hub_path.specs.Path.{Path, path_cmp, is_over, ascending}
use Rattle.hub_path.specs.declared.side.Side.{Side}
use Rattle.hub_path.specs.declared.side.Side.TheVariants.{Left, Right}
use Rattle.hub_profile.specs.Parts.{Parts}
use Rattle.hub_reach.specs.Reach.{reach}
use Rattle.hub_tree.specs.Tree.{Archive, old_mark_at, with_mark, kept_mark}
use Rattle.hub_tree.specs.declared.contents.Mark.{Mark}
use Rattle.hub_tree.specs.declared.contents.Mark.TheVariants as mark
use Rattle.hub_tree.specs.laws.Order.{path_total, path_antisymmetric, same_path}
use Rattle.hub_tree.specs.laws.Between.{among, among_filter}
use Rattle.hub_reconcile.specs.Picture.{view_by}
use Rattle.hub_reconcile.specs.Sight.{Sight}
use Rattle.hub_reconcile.specs.View.{View, counts, is_present, mark_eq}
use Rattle.hub_reconcile.specs.Items.{is_updated, differs, item_over, is_item, at_and_below, source, fate, fate_from, items, plan, changes_by}
use Rattle.hub_reconcile.specs.Sync.{fate_over, mark_under, synced_mark, next_archive}
use Rattle.hub_reconcile.specs.declared.item.Fate.{Fate}
use Rattle.hub_reconcile.specs.declared.item.Fate.TheVariants.{To, Skip}
use Rattle.hub_reconcile.specs.declared.item.Item.{Item}
use Rattle.hub_reconcile.specs.laws.Ascend.{ascending_sorted, among_ascending, same_list}
use Rattle.hub_reconcile.specs.laws.Over.{least}
use Rattle.hub_job.specs.declared.log.Logged.{Logged}
use Rattle.hub_job.specs.Job.{next, steps_for, steps_made, view_in, missing, look_or, ask, fetched_last, is_refused, sights}
use Rattle.hub_job.specs.declared.op.Next.TheVariants.{Stopped}
use Rattle.hub_job.specs.Ends.{archive_after}

-- Both archives keep the same at each path that the profile reaches.
abbrev pub SameReached : Parts → Archive → Archive → Type 0
SameReached P O N = (q : Path) → IsTrue (reach P q) → fin.get O q ≡ fin.get N q

-- A view without the old marks of the paths that aren't reached.
abbrev cleared : (Path → Bool) → (Path → Mark) → Path → Mark
cleared reached old p = cond (reached p) (old p) mark.Absent

abbrev clear : View → View
clear V = record V { old = cleared V.reached V.old }

kept_where : (b : Bool) (m : Mark) → b ≡ true → cond b m mark.Absent ≡ m
kept_where true m e = refl
kept_where false m e = absurd (false≢true e)

any_alike : (t f g : Path → Bool) (ps : List Path) → list_all t ps ≡ true → ((q : Path) → t q ≡ true → f q ≡ g q) → list_any f ps ≡ list_any g ps
any_alike t f g [] all e = refl
any_alike t f g (p ∷ ps) all e =
    let two = and_parts (t p) (list_all t ps) all in
    (λ i. e p two.0 i || any_alike t f g ps two.1 e i)

map_alike : {X : Type 0} (t : Path → Bool) (f g : Path → X) (ps : List Path) → list_all t ps ≡ true → ((q : Path) → t q ≡ true → f q ≡ g q) → map f ps ≡ map g ps
map_alike t f g [] all e = refl
map_alike t f g (p ∷ ps) all e =
    let two = and_parts (t p) (list_all t ps) all in
    (λ i. e p two.0 i ∷ map_alike t f g ps two.1 e i)

all_kept : (t f : Path → Bool) (ps : List Path) → list_all t ps ≡ true → list_all t (filter f ps) ≡ true
all_kept t f [] all = refl
all_kept t f (p ∷ ps) all =
    let two = and_parts (t p) (list_all t ps) all in
    elim (f p) as (λ b. list_all t (cond b (p ∷ filter f ps) (filter f ps)) ≡ true) [
      | true ↦ and_from (t p) _ two.0 (all_kept t f ps two.1)
      | false ↦ all_kept t f ps two.1
    ]

kept_all : (t f : Path → Bool) (ps : List Path) → ((q : Path) → f q ≡ true → t q ≡ true) → list_all t (filter f ps) ≡ true
kept_all t f [] h = refl
kept_all t f (p ∷ ps) h =
    elim (f p) as (λ b. f p ≡ b → list_all t (cond b (p ∷ filter f ps) (filter f ps)) ≡ true) [
      | true ↦ λ e. and_from (t p) _ (h p e) (kept_all t f ps h)
      | false ↦ λ e. kept_all t f ps h
    ] refl

-- Items, plan and marks are those of the cleared view.
module _ (V : View) (own : list_all V.reached V.paths ≡ true) where
  old_same : (q : Path) → V.reached q ≡ true → V.old q ≡ (clear V).old q
  old_same q h = sym (kept_where (V.reached q) (V.old q) h)

  updated_same : (k : Side) (q : Path) → V.reached q ≡ true → is_updated V k q ≡ is_updated (clear V) k q
  updated_same k q h = ap (λ m. not (mark_eq (V.mark k q) m)) (old_same q h)

  below_same : (k : Side) (p : Path) → list_any (is_updated V k) (at_and_below V p) ≡ list_any (is_updated (clear V) k) (at_and_below (clear V) p)
  below_same k p = any_alike V.reached (is_updated V k) (is_updated (clear V) k) (at_and_below V p) (all_kept V.reached (is_over p) V.paths own) (λ q h. updated_same k q h)

  source_same : (p : Path) → V.reached p ≡ true → source V p ≡ source (clear V) p
  source_same p h =
      let l = updated_same Left p h in
      let r = updated_same Right p h in
      let bl = below_same Left p in
      let br = below_same Right p in
      λ i. cond (is_some V.force) V.force
      (cond ((l i && br i) || (r i && bl i)) V.prefer (cond (l i) (Some Left) (Some Right)))

  fate_same : (p : Path) → V.reached p ≡ true → fate V p ≡ fate (clear V) p
  fate_same p h = ap (fate_from V p) (source_same p h)

  items_same : items V ≡ items (clear V)
  unfolding items
  items_same =
      map_alike {X = Item} V.reached (λ p. record { path = p; fate = fate V p }) (λ p. record { path = p; fate = fate (clear V) p })
      (filter (is_item V) V.paths) (all_kept V.reached (is_item V) V.paths own)
      (λ p h i. record { path = p; fate = fate_same p h i })

  plan_same : plan V ≡ plan (clear V)
  unfolding plan
  plan_same = ap (flat_map (λ (i : Item). changes_by V i.path i.fate)) items_same

  over_same : (q : Path) (o : Option Path) → item_over V q ≡ o → option_map (fate V) o ≡ option_map (fate (clear V)) o
  over_same q None e = refl
  over_same q (Some x) e =
      ap (λ f. Some f) (fate_same x (and_parts (V.reached x) (not (mark_eq (V.mark Left x) (V.mark Right x))) (least (differs V) q x e).passes).0)

  under_same : (q : Path) (o : Option Fate) → V.reached q ≡ true → mark_under V q o ≡ mark_under (clear V) q o
  under_same q None h = refl
  under_same q (Some (To k)) h = refl
  under_same q (Some (Skip why)) h = old_same q h

  mark_same : (q : Path) → V.reached q ≡ true → synced_mark V q ≡ synced_mark (clear V) q
  mark_same q h =
      ap (λ b. cond b (mark_under V q (fate_over V q)) (V.old q)) h
      ∙ (under_same q (fate_over V q) h
      ∙ (ap (mark_under (clear V) q) (over_same q (item_over V q) refl)
      ∙ sym (ap (λ b. cond b (mark_under (clear V) q (fate_over (clear V) q)) ((clear V).old q)) h)))

among_found : (ps : List Path) (O : Archive) (q : Path) → among q (ps ++ fin.keys O) ≡ (among q ps || among q (fin.keys O))
among_found ps O q = list_any-append (eq_by_cmp path_cmp q) ps (fin.keys O)

where_alike : (b : Bool) (m n : Mark) → (b ≡ true → m ≡ n) → cond b m mark.Absent ≡ cond b n mark.Absent
where_alike true m n e = e refl
where_alike false m n e = refl

-- The view that a log gives, with two archives that keep the same where the profile reaches.
module _ (P : Parts) (O N : Archive) (same : SameReached P O N) (seen : Side → List (Path × Sight)) where
  abbrev V : View
  V = view_by P O seen

  abbrev U : View
  U = view_by P N seen

  abbrev looked : List Path
  looked = map (λ (s : Path × Sight). s.0) (seen Left) ++ map (λ (s : Path × Sight). s.0) (seen Right)

  old_alike : (q : Path) → reach P q ≡ true → old_mark_at O q ≡ old_mark_at N q
  old_alike q h = ap (λ o. unwrap_or o mark.Absent) (same q h)

  key_alike : (q : Path) → reach P q ≡ true → among q (fin.keys O) ≡ among q (fin.keys N)
  key_alike q h = sym (fin.contains_key-keys O q) ∙ (ap is_some (same q h) ∙ fin.contains_key-keys N q)

  counts_alike : (q : Path) → reach P q ≡ true → counts (reach P) V.mark V.old q ≡ counts (reach P) U.mark U.old q
  counts_alike q h = ap (λ m. reach P q && (is_present (V.mark Left q) || is_present (V.mark Right q) || is_present m)) (old_alike q h)

  there : (q : Path) → among q V.paths ≡ true → among q U.paths ≡ true
  there q e =
      let two = and_parts (counts (reach P) V.mark V.old q) _ (sym (among_filter q (counts (reach P) V.mark V.old) (ascending (looked ++ fin.keys O))) ∙ e) in
      let h = (and_parts (reach P q) _ two.0).0 in
      let c = sym (counts_alike q h) ∙ two.0 in
      among_filter q (counts (reach P) U.mark U.old) (ascending (looked ++ fin.keys N))
      ∙ and_from (counts (reach P) U.mark U.old q) _ c
      (among_ascending q (looked ++ fin.keys N) ∙ (among_found looked N q
      ∙ (ap (λ b. among q looked || b) (sym (key_alike q h))
      ∙ (sym (among_found looked O q) ∙ (sym (among_ascending q (looked ++ fin.keys O)) ∙ two.1)))))

turned_same : (P : Parts) (O N : Archive) → SameReached P O N → SameReached P N O
turned_same P O N same q h = sym (same q h)

module _ (P : Parts) (O N : Archive) (same : SameReached P O N) (seen : Side → List (Path × Sight)) where
  abbrev one : View
  one = view_by P O seen

  abbrev other_one : View
  other_one = view_by P N seen

  paths_own : (M : Archive) → list_all (reach P) (view_by P M seen).paths ≡ true
  paths_own M = kept_all (reach P) (counts (reach P) (view_by P M seen).mark (view_by P M seen).old)
      (ascending (looked P M M (λ q h. refl) seen ++ fin.keys M))
      (λ q e. (and_parts (reach P q) _ e).0)

  paths_sorted : (M : Archive) → IsStrictlySortedBy path_cmp (view_by P M seen).paths
  paths_sorted M = IsStrictlySortedBy-filter path_cmp (counts (reach P) (view_by P M seen).mark (view_by P M seen).old)
      (ascending (looked P M M (λ q h. refl) seen ++ fin.keys M)) (ascending_sorted (looked P M M (λ q h. refl) seen ++ fin.keys M))

  paths_alike : one.paths ≡ other_one.paths
  paths_alike = same_list one.paths other_one.paths (paths_sorted O) (paths_sorted N) (there P O N same seen) (there P N O (turned_same P O N same) seen)

  cleared_alike : (p : Path) → cleared (reach P) (old_mark_at O) p ≡ cleared (reach P) (old_mark_at N) p
  cleared_alike p = where_alike (reach P p) (old_mark_at O p) (old_mark_at N p) (old_alike P O N same seen p)

  clear_alike : clear one ≡ clear other_one
  clear_alike i = record {
    reached = reach P;
    force = P.force;
    prefer = P.prefer;
    allowed = one.allowed;
    mark = one.mark;
    others = one.others;
    old = λ p. cleared_alike p i;
    paths = paths_alike i;
  }

  pub items_alike : items one ≡ items other_one
  items_alike = items_same one (paths_own O) ∙ (ap items clear_alike ∙ sym (items_same other_one (paths_own N)))

  pub plan_alike : plan one ≡ plan other_one
  plan_alike = plan_same one (paths_own O) ∙ (ap plan clear_alike ∙ sym (plan_same other_one (paths_own N)))

  pub mark_alike : (q : Path) → reach P q ≡ true → synced_mark one q ≡ synced_mark other_one q
  mark_alike q h = mark_same one (paths_own O) q h ∙ (ap (λ V. synced_mark V q) clear_alike ∙ sym (mark_same other_one (paths_own N) q h))

-- What a job does next.
pub next_alike : (P : Parts) (O N : Archive) → SameReached P O N → (log : List Logged) → next P O log ≡ next P N log
unfolding next
next_alike P O N same log =
    ap (λ cs. cond (list_any (λ (e : Logged). is_refused e.step.answer) log) Stopped
    (look_or Left (look_or Right (ask (fetched_last [] log) (slice_get (flat_map steps_for cs) (steps_made log))) (missing P log Right)) (missing P log Left)))
    (plan_alike P O N same (sights log))

-- The archive after a job.
get-with_mark : (a : Archive) (p q : Path) (m : Mark) → fin.get (with_mark a p m) q ≡ cond (eq_by_cmp path_cmp q p) (kept_mark m) (fin.get a q)
get-with_mark a p q (mark.File d) = fin.get-insert path_total a p (mark.File d) q
get-with_mark a p q mark.Directory = fin.get-insert path_total a p mark.Directory q
get-with_mark a p q mark.Absent = fin.get-remove path_total a p q

either : {X : Type 0} (b c : Bool) (x y z : X) → (c ≡ true → x ≡ y) → cond b x (cond c y z) ≡ cond (c || b) x z
either true true x y z e = refl
either true false x y z e = refl
either false true x y z e = sym (e refl)
either false false x y z e = refl

get-marked : (f : Path → Mark) (ps : List Path) (a : Archive) (q : Path)
    → fin.get (fold (λ a p. with_mark a p (f p)) a ps) q ≡ cond (among q ps) (kept_mark (f q)) (fin.get a q)
get-marked f [] a q = refl
get-marked f (p ∷ ps) a q =
    get-marked f ps (with_mark a p (f p)) q
    ∙ (ap (cond (among q ps) (kept_mark (f q))) (get-with_mark a p q (f p))
    ∙ either (among q ps) (eq_by_cmp path_cmp q p) (kept_mark (f q)) (kept_mark (f p)) (fin.get a q) (λ e. ap (λ x. kept_mark (f x)) (same_path q p e)))

get-after : (P : Parts) (O : Archive) (log : List Logged) (q : Path)
    → fin.get (archive_after P O log) q ≡ cond (among q (view_in P O log).paths) (kept_mark (synced_mark (view_in P O log) q)) (fin.get O q)
unfolding next_archive
get-after P O log q = get-marked (synced_mark (view_in P O log)) (view_in P O log).paths O q

reached_of : (P : Parts) (ps : List Path) (q : Path) → list_all (reach P) ps ≡ true → among q ps ≡ true → reach P q ≡ true
reached_of P [] q all e = absurd (false≢true e)
reached_of P (p ∷ ps) q all e =
    let two = and_parts (reach P p) (list_all (reach P) ps) all in
    elim (eq_by_cmp path_cmp q p) as (λ b. eq_by_cmp path_cmp q p ≡ b → (b || among q ps) ≡ true → reach P q ≡ true) [
      | true ↦ λ g h. ap (reach P) (same_path q p g) ∙ two.0
      | false ↦ λ g h. reached_of P ps q two.1 h
    ] refl e

-- It is as before at the paths that the profile doesn't reach.
pub after_elsewhere : (P : Parts) (O : Archive) (log : List Logged) (q : Path) → reach P q ≡ false → fin.get (archive_after P O log) q ≡ fin.get O q
after_elsewhere P O log q h =
    get-after P O log q
    ∙ ap (λ b. cond b (kept_mark (synced_mark (view_in P O log) q)) (fin.get O q))
    (false_from_ne_true (among q (view_in P O log).paths) (λ e. false≢true (sym h ∙ reached_of P (view_in P O log).paths q (paths_own P O O (λ q h. refl) (sights log) O) e)))

-- At those that it reaches, it depends on what was kept there.
pub after_alike : (P : Parts) (O N : Archive) → SameReached P O N → (log : List Logged) → SameReached P (archive_after P O log) (archive_after P N log)
after_alike P O N same log q h =
    let ps = paths_alike P O N same (sights log) in
    let m = mark_alike P O N same (sights log) q h in
    get-after P O log q ∙ ((λ i. cond (among q (ps i)) (kept_mark (m i)) (same q h i)) ∙ sym (get-after P N log q))

-- Jobs that reach no path in common can end in either order.
module _ (P Q : Parts) (apart : (p : Path) → IsTrue (reach P p) → IsTrue (reach Q p) → ⊥) where
  pub kept_by_other : (O : Archive) (log : List Logged) → SameReached P (archive_after Q O log) O
  kept_by_other O log q h = after_elsewhere Q O log q (false_from_ne_true (reach Q q) (λ g. apart q h g))

either_end_by : (P Q : Parts) → ((p : Path) → IsTrue (reach P p) → IsTrue (reach Q p) → ⊥) → (O : Archive) (l m : List Logged) (q : Path) (b c : Bool) → reach P q ≡ b → reach Q q ≡ c
    → fin.get (archive_after P (archive_after Q O m) l) q ≡ fin.get (archive_after Q (archive_after P O l) m) q
either_end_by P Q apart O l m q true c h g =
    after_alike P (archive_after Q O m) O (kept_by_other P Q apart O m) l q h
    ∙ sym (after_elsewhere Q (archive_after P O l) m q (false_from_ne_true (reach Q q) (λ k. apart q h k)))
either_end_by P Q apart O l m q false true h g =
    after_elsewhere P (archive_after Q O m) l q h
    ∙ sym (after_alike Q (archive_after P O l) O (kept_by_other Q P (λ p a b. apart p b a) O l) m q g)
either_end_by P Q apart O l m q false false h g =
    after_elsewhere P (archive_after Q O m) l q h ∙ (after_elsewhere Q O m q g
    ∙ sym (after_elsewhere Q (archive_after P O l) m q g ∙ after_elsewhere P O l q h))

pub ends_commute : (P Q : Parts) → ((p : Path) → IsTrue (reach P p) → IsTrue (reach Q p) → ⊥) → (O : Archive) (l m : List Logged)
    → archive_after P (archive_after Q O m) l ≡ archive_after Q (archive_after P O l) m
ends_commute P Q apart O l m =
    fin.same_map path_total path_antisymmetric (archive_after P (archive_after Q O m) l) (archive_after Q (archive_after P O l) m)
    (λ q. either_end_by P Q apart O l m q (reach P q) (reach Q q) refl refl)
