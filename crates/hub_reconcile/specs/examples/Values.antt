-- Worked examples.
use Rattle.std.specs.Prelude.{⊤, ◌≡◌, ℕ, Bool, true, false, not, ◌==◌, length, filter, List, [], ◌∷◌, ◌++◌, unwrap_or, map, None, Some, codes, refl}
use Rattle.std.specs.List.{list_any}
use Rattle.std.specs.FinMap as fin
use Rattle.hub_path.specs.Path.{Path, path_cmp, path_eq, path_of, ascending}
use Rattle.hub_path.specs.declared.side.Side.{Side}
use Rattle.hub_path.specs.declared.side.Side.TheVariants.{Left, Right}
use Rattle.hub_glob.specs.Glob.{matches}
use Rattle.hub_glob.specs.Specification.{Specification}
use Rattle.hub_glob.specs.declared.path_spec.Kind.TheVariants as kind
use Rattle.hub_glob.specs.declared.piece.Part.TheVariants.{One}
use Rattle.hub_glob.specs.declared.piece.Piece.TheVariants.{Lit, Run}
use Rattle.hub_profile.specs.Parts.{Parts}
use Rattle.hub_profile.specs.examples.Profiles.{hub, s1, between}
use Rattle.hub_profile.specs.declared.bars.Bars.{Bars}
use Rattle.hub_profile.specs.declared.verb.Verb.{Verb}
use Rattle.hub_profile.specs.declared.verb.Verb.TheVariants.{Create, Update, Delete}
use Rattle.hub_tree.specs.declared.contents.Mark.{Mark}
use Rattle.hub_tree.specs.declared.contents.Mark.TheVariants as mark
use Rattle.hub_reach.specs.Reach.{reach}
use Rattle.hub_reconcile.specs.declared.item.Reason.TheVariants as reason
use Rattle.hub_reconcile.specs.declared.item.Fate.{Fate}
use Rattle.hub_reconcile.specs.declared.item.Fate.TheVariants.{To, Skip}
use Rattle.hub_reconcile.specs.declared.item.Item.{Item}
use Rattle.hub_reconcile.specs.View.{View, view, counts}
use Rattle.hub_reconcile.specs.Items.{items, plan, change}
use Rattle.hub_reconcile.specs.Sync.{of_side, synced_mark}

-- What these examples compute.
computed : ⊤
unfolding items plan reach matches
computed = tt

-- Marks by hand: a file is told by a number.
abbrev file : ℕ → Mark
file n = mark.File (n ∷ [])

abbrev Marks : Type 0
Marks = List (List ℕ × Mark)

abbrev at : Marks → Path → Mark
at es p = unwrap_or (fin.find path_cmp p (map (λ e. (path_of e.0, e.1)) es)) mark.Absent

abbrev keys : Marks → List Path
keys es = map (λ e. path_of e.0) es

abbrev names : List (List ℕ) → Path → Bool
names ts p = list_any (λ t. path_eq (path_of t) p) ts

-- What is known where the left side, the right side and the archive have these marks. All is
-- reached and allowed.
abbrev seen : Marks → Marks → Marks → View
seen hub s1 old = record {
  reached = λ p. not (length p == 0);
  force = None;
  prefer = None;
  allowed = λ side p verb. true;
  mark = λ side p. at (of_side hub s1 side) p;
  others = λ side p. false;
  old = at old;
  paths = filter (counts (λ p. not (length p == 0)) (λ side p. at (of_side hub s1 side) p) (at old))
      (ascending (keys hub ++ keys s1 ++ keys old));
}

abbrev item : List ℕ → Fate → Item
item t f = record { path = path_of t; fate = f }

-- A file with other bytes on each side than in the archive.
abbrev both_changed : View
both_changed = seen ((codes "f", file 1) ∷ []) ((codes "f", file 2) ∷ []) ((codes "f", file 0) ∷ [])

a_file_that_both_sides_changed_is_a_conflict :
    items both_changed ≡ item (codes "f") (Skip reason.Conflict) ∷ []
unfolding computed
a_file_that_both_sides_changed_is_a_conflict = refl

a_conflict_goes_from_the_preferred_side :
    items (record both_changed { prefer = Some Right }) ≡ item (codes "f") (To Left) ∷ []
unfolding computed
a_conflict_goes_from_the_preferred_side = refl

a_skipped_item_keeps_its_old_mark : synced_mark both_changed (path_of (codes "f")) ≡ file 0
unfolding computed
a_skipped_item_keeps_its_old_mark = refl

abbrev both_alike : View
both_alike = seen ((codes "f", file 2) ∷ []) ((codes "f", file 2) ∷ []) ((codes "f", file 0) ∷ [])

what_is_the_same_on_both_sides_is_no_item : items both_alike ≡ []
unfolding computed
what_is_the_same_on_both_sides_is_no_item = refl

the_archive_takes_the_common_mark : synced_mark both_alike (path_of (codes "f")) ≡ file 2
unfolding computed
the_archive_takes_the_common_mark = refl

what_both_sides_lost_leaves_the_archive :
    synced_mark (seen [] [] ((codes "f", file 0) ∷ [])) (path_of (codes "f")) ≡ mark.Absent
unfolding computed
what_both_sides_lost_leaves_the_archive = refl

-- s1 has a directory with a file, as the archive has; hub has lost it.
abbrev lost : View
lost =
    seen [] ((codes "d", mark.Directory) ∷ (codes "d/x", file 0) ∷ [])
    ((codes "d", mark.Directory) ∷ (codes "d/x", file 0) ∷ [])

a_directory_goes_after_what_it_holds : plan lost ≡ change Right (path_of (codes "d/x")) mark.Absent
    ∷ change Right (path_of (codes "d")) mark.Absent ∷ []
unfolding computed
a_directory_goes_after_what_it_holds = refl

a_directory_that_holds_what_is_not_reached_stays :
    items (record lost { others = λ side p. of_side false (names (codes "d" ∷ []) p) side })
    ≡ item (codes "d") (Skip reason.Blocked) ∷ []
unfolding computed
a_directory_that_holds_what_is_not_reached_stays = refl

-- A file on the left, where the right side and the archive have a directory.
abbrev full : Marks
full = (codes "d", mark.Directory) ∷ (codes "d/x", file 0) ∷ (codes "d/y", file 0) ∷ []

abbrev no_deletion : Side → Path → Verb → Bool
no_deletion Left p verb = true
no_deletion Right p Create = true
no_deletion Right p Update = true
no_deletion Right p Delete = false

an_item_is_barred_by_what_goes_below_it :
    items (record (seen ((codes "d", file 1) ∷ []) full full) { allowed = no_deletion })
    ≡ item (codes "d") (Skip reason.Barred) ∷ []
unfolding computed
an_item_is_barred_by_what_goes_below_it = refl

abbrev an_empty_directory : Marks
an_empty_directory = (codes "d", mark.Directory) ∷ []

a_file_for_an_empty_directory_is_an_update :
    items (record
    (seen ((codes "d", file 1) ∷ []) an_empty_directory an_empty_directory) {
      allowed = no_deletion;
    }) ≡ item (codes "d") (To Right) ∷ []
unfolding computed
a_file_for_an_empty_directory_is_an_update = refl

-- `force` decides although the right side alone changed.
a_forced_side_deletes_what_is_new_on_the_other :
    plan (record (seen [] ((codes "x", file 0) ∷ []) []) { force = Some Left }) ≡ change Right
    (path_of (codes "x")) mark.Absent ∷ []
unfolding computed
a_forced_side_deletes_what_is_new_on_the_other = refl

-- `path = p/q`: p is seen on the left, and q in it.
abbrev apart : View
apart = record (seen ((codes "p", mark.Directory) ∷ (codes "p/q", file 0) ∷ []) [] []) {
  reached = names (codes "p/q" ∷ []);
  paths = path_of (codes "p/q") ∷ [];
}

an_item_without_a_parent_is_skipped : items apart ≡ item (codes "p/q") (Skip reason.NoParent) ∷ []
unfolding computed
an_item_without_a_parent_is_skipped = refl

-- A new directory comes before what it holds, and all of it is one item.
a_directory_comes_before_what_it_holds :
    map (λ c. c.path) (plan (seen full [] [])) ≡ path_of (codes "d") ∷ path_of (codes "d/x")
    ∷ path_of (codes "d/y") ∷ []
unfolding computed
a_directory_comes_before_what_it_holds = refl

one_new_file_is_an_item_of_its_own :
    items (seen full ((codes "d", mark.Directory) ∷ (codes "d/x", file 0) ∷ []) [])
    ≡ item (codes "d/y") (To Right) ∷ []
unfolding computed
one_new_file_is_an_item_of_its_own = refl

-- A deletion below against an update above is a conflict of the item.
a_loss_below_a_changed_path_is_a_conflict :
    items (seen ((codes "d", file 1) ∷ []) ((codes "d", mark.Directory) ∷ (codes "d/x", file 0)
    ∷ []) full) ≡ item (codes "d") (Skip reason.Conflict) ∷ []
unfolding computed
a_loss_below_a_changed_path_is_a_conflict = refl

a_path_that_is_nowhere_does_not_count :
    (seen ((codes "f", file 1) ∷ (codes "g", mark.Absent) ∷ []) [] []).paths ≡ path_of (codes "f")
    ∷ []
a_path_that_is_nowhere_does_not_count = refl

-- The same from profiles. `ignore = Name *.tmp`; the right side has d with d/x and, unreached,
-- d/y.tmp; the archive has d and d/x.
abbrev no_tmp : Parts
no_tmp = record (between (codes "p") hub s1 []) {
  ignore = record {
    kind = kind.Name;
    pattern = One Run ∷ map (λ c. One (Lit c)) (codes ".tmp");
  } ∷ [];
}

abbrev seen_by : Parts → Marks → Marks → Marks → List (List ℕ) → View
seen_by P left right old hidden =
    view P (λ side p. record {
      mark = at (of_side left right side) p;
      names = [];
      others = of_side false (names hidden p) side;
    }) (at old) (keys left ++ keys right ++ keys old)

abbrev with_tmp : Marks
with_tmp = (codes "d", mark.Directory) ∷ (codes "d/x", file 0) ∷ (codes "d/y.tmp", file 0) ∷ []

abbrev without_tmp : Marks
without_tmp = (codes "d", mark.Directory) ∷ (codes "d/x", file 0) ∷ []

an_ignored_file_blocks_its_directory :
    items (seen_by no_tmp [] with_tmp without_tmp (codes "d" ∷ [])) ≡ item (codes "d")
    (Skip reason.Blocked) ∷ []
unfolding computed
an_ignored_file_blocks_its_directory = refl

without_it_the_directory_goes :
    plan (seen_by no_tmp [] without_tmp without_tmp []) ≡ change Right (path_of (codes "d/x"))
    mark.Absent ∷ change Right (path_of (codes "d")) mark.Absent ∷ []
unfolding computed
without_it_the_directory_goes = refl

-- `path = p/q`, where p is no directory on the right.
abbrev only_pq : Parts
only_pq = record no_tmp { paths = path_of (codes "p/q") ∷ []; ignore = [] }

a_kept_value_without_a_parent_is_skipped :
    items (seen_by only_pq ((codes "p", mark.Directory) ∷ (codes "p/q", file 0) ∷ []) [] [] [])
    ≡ item (codes "p/q") (Skip reason.NoParent) ∷ []
unfolding computed
a_kept_value_without_a_parent_is_skipped = refl

-- Bars on paths of one root. The left side has a file d, where the right side and the archive have
-- a directory with d/x and d/y. So d/x and d/y would be deleted on the right, and d would be
-- updated.
abbrev named : List ℕ → Specification
named t = record { kind = kind.Name; pattern = map (λ c. One (Lit c)) t }

abbrev no_deletions : Bars
no_deletions = record { create = false; update = false; delete = true }

abbrev no_updates : Bars
no_updates = record { create = false; update = true; delete = true }

abbrev barred_on : Side → Bars → List ℕ → Parts
barred_on side bars t = record no_tmp {
  ignore = [];
  partial = record { side = side; bars = bars; spec = named t } ∷ [];
}

abbrev file_for_full : Parts → View
file_for_full P = seen_by P ((codes "d", file 1) ∷ []) full full []

a_bar_on_a_path_below_bars_the_item :
    items (file_for_full (barred_on Right no_deletions (codes "x"))) ≡ item (codes "d")
    (Skip reason.Barred) ∷ []
unfolding computed
a_bar_on_a_path_below_bars_the_item = refl

a_bar_on_the_item_bars_it :
    items (file_for_full (barred_on Right no_updates (codes "d"))) ≡ item (codes "d")
    (Skip reason.Barred) ∷ []
unfolding computed
a_bar_on_the_item_bars_it = refl

a_bar_on_the_item_says_nothing_of_what_is_below :
    items (file_for_full (barred_on Right no_deletions (codes "d"))) ≡ item (codes "d") (To Right)
    ∷ []
unfolding computed
a_bar_on_the_item_says_nothing_of_what_is_below = refl

a_bar_on_another_path_bars_nothing_here :
    items (file_for_full (barred_on Right no_deletions (codes "z"))) ≡ item (codes "d") (To Right)
    ∷ []
unfolding computed
a_bar_on_another_path_bars_nothing_here = refl

a_bar_on_the_source_bars_nothing :
    items (file_for_full (barred_on Left no_updates (codes "x"))) ≡ item (codes "d") (To Right) ∷ []
unfolding computed
a_bar_on_the_source_bars_nothing = refl

a_barred_item_leaves_the_others :
    items (seen_by (barred_on Right no_updates (codes "d"))
    ((codes "d", file 1) ∷ (codes "e", file 1) ∷ []) full full []) ≡ item (codes "d")
    (Skip reason.Barred) ∷ item (codes "e") (To Right) ∷ []
unfolding computed
a_barred_item_leaves_the_others = refl
