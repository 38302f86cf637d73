-- What Looks tell of two replicas: each is a path with what was seen there.
use Rattle.std.specs.Prelude.{Bool, true, false, List, [], ◌∷◌, ◌++◌, map, filter, length, if◌then◌else◌, nat_lt}
use Rattle.std.specs.List.{list_any, flat_map}
use Rattle.std.specs.FinMap as fin
use Rattle.std.specs.FinMap.Entries.{is_sorted}
use Rattle.std.specs.Ordering.{is_lt}
use Rattle.hub_path.specs.Path.{Path, path_cmp, path_eq, parent, ascending}
use Rattle.hub_path.specs.declared.side.Side.{Side}
use Rattle.hub_path.specs.declared.side.Side.TheVariants.{Left, Right}
use Rattle.hub_profile.specs.Parts.{Parts}
use Rattle.hub_tree.specs.Tree.{Archive, old_mark_at}
use Rattle.hub_tree.specs.declared.contents.Mark.TheVariants as mark
use Rattle.hub_reconcile.specs.Sight.{Sight, is_kept_value}
use Rattle.hub_reconcile.specs.View.{View, view}
use Rattle.hub_reconcile.specs.declared.look.Look as look

abbrev pub nothing_there : Sight
nothing_there = record { mark = mark.Absent; names = []; others = false }

abbrev pub sight_in : List (Path × Sight) → Path → Sight
sight_in [] p = nothing_there
sight_in (s ∷ ss) p = if path_eq s.0 p then s.1 else sight_in ss p

-- The view that sights of both sides give. A path without a Look is absent.
abbrev pub view_by : Parts → Archive → (Side → List (Path × Sight)) → View
view_by P O seen =
    view P (λ side p. sight_in (seen side) p) (old_mark_at O)
    (map (λ s. s.0) (seen Left) ++ map (λ s. s.0) (seen Right) ++ fin.keys O)

-- The Looks that each side needs at first: each kept value that counts, and its parent if it has at
-- least two names.
abbrev pub first_looks : Parts → List Path
first_looks P =
    flat_map (λ s. if nat_lt 1 (length s) then parent s ∷ s ∷ [] else s ∷ [])
    (filter (is_kept_value P) P.paths)

-- The Looks that a side needs: those, and one for each name that a Look on that side listed.
abbrev pub needed : Parts → List (Path × Sight) → List Path
needed P ss = ascending (first_looks P ++ flat_map (λ s. map (λ n. s.0 ++ n ∷ []) s.1.names) ss)

abbrev pub was_seen : List (Path × Sight) → Path → Bool
was_seen ss p = list_any (λ s. path_eq s.0 p) ss

-- The Looks of a picture's side, as they are told.
abbrev pub told_by : List look.Look → List (Path × Sight)
told_by ls = map (λ l. (
  l.path.now,
  record {
    mark = l.mark;
    names = l.names.now;
    others = l.others;
  },
)) ls

-- The Looks stand in the order of their paths, and no path stands twice.
abbrev pub are_rising : List (Path × Sight) → Bool
are_rising ss = is_sorted path_cmp ss

-- A path stands before that of the first Look.
abbrev pub is_before_looks : Path → List (Path × Sight) → Bool
is_before_looks p [] = true
is_before_looks p (s ∷ ss) = is_lt (path_cmp p s.0)
