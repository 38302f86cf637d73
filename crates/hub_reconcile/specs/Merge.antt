-- A merge of the Looks of both sides and the paths of an archive.
use Rattle.std.specs.Prelude.{◌≡◌, Bool, not, ◌&&◌, List, [], ◌∷◌, map, Option, None, Some, if◌then◌else◌}
use Rattle.std.specs.Map.Iter.{TakesFirst}
use Rattle.std.specs.Ordering.{is_lt}
use Rattle.hub_path.specs.Path.{Path, path_cmp, path_eq}
use Rattle.hub_tree.specs.declared.contents.Mark.{Mark}
use Rattle.hub_tree.specs.declared.contents.Mark.TheVariants as mark
use Rattle.hub_reconcile.specs.Picture.{nothing_there, told_by}
use Rattle.hub_reconcile.specs.Sight.{Sight}
use Rattle.hub_reconcile.specs.View.{is_present}
use Rattle.hub_reconcile.specs.declared.look.Look.{Look}
use Rattle.hub_reconcile.specs.declared.old_mark.OldMark.{OldMark}
use Rattle.hub_reconcile.specs.declared.row.Seen.{Seen}

abbrev pub seen_paths : List (Path × Sight) → List Path
seen_paths ss = map (λ s. s.0) ss

abbrev pub paths_in : {T : Type 0} → List (Path × T) → List Path
paths_in es = map (λ e. e.0) es

abbrev pub first_of : List Path → Option Path
first_of [] = None
first_of (p ∷ ps) = Some p

-- The lesser of two paths, if there is one.
abbrev pub lesser : Option Path → Option Path → Option Path
lesser None q = q
lesser (Some p) None = Some p
lesser (Some p) (Some q) = if is_lt (path_cmp q p) then Some q else Some p

-- The least of the first paths of three lists.
abbrev pub least_first : List Path → List Path → List Path → Option Path
least_first ls rs os = lesser (lesser (first_of ls) (first_of rs)) (first_of os)

-- A list without this path at its front.
abbrev pub without_first : Path → List Path → List Path
without_first p [] = []
without_first p (q ∷ qs) = if path_eq q p then qs else q ∷ qs

-- A list of values, each with its path, without that of this path at its front.
abbrev pub past_of : {T : Type 0} → Path → List (Path × T) → List (Path × T)
past_of p [] = []
past_of p (e ∷ es) = if path_eq e.0 p then es else e ∷ es

abbrev pub past_sight : Path → List (Path × Sight) → List (Path × Sight)
past_sight p ss = past_of p ss

-- The value at the front of a list, if it is of this path, and else d.
abbrev pub front_of : {T : Type 0} → T → Path → List (Path × T) → T
front_of d p [] = d
front_of d p (e ∷ es) = if path_eq e.0 p then e.1 else d

abbrev pub front_sight : Path → List (Path × Sight) → Sight
front_sight p ss = front_of nothing_there p ss

abbrev pub front_mark : Path → List (Path × Mark) → Mark
front_mark p es = front_of mark.Absent p es

-- An archive's mark, with its path.
abbrev pub told_mark : OldMark → Path × Mark
told_mark o = (o.path.now, o.mark)

abbrev pub told_marks : List OldMark → List (Path × Mark)
told_marks os = map told_mark os

-- The mark that was taken from an archive's marks, if there is one.
abbrev pub taken : Option OldMark → List (Path × Mark)
taken None = []
taken (Some o) = told_mark o ∷ []

-- A mark that the archive has at a path that isn't reached.
abbrev pub is_other : (Path → Bool) → Path × Mark → Bool
is_other reached e = not (reached e.0) && is_present e.1

-- A row's part for a side says what a sight does.
pub record IsSeen (s : Sight) (seen : Seen) : Type 0 where
  pub mark : seen.mark ≡ s.mark
  pub others : seen.others ≡ s.others

-- The least of the first paths of Looks at both sides, and of the mark that was taken.
abbrev pub least_path : List Look → List Look → Option OldMark → Option Path
least_path ls rs o =
    least_first (seen_paths (told_by ls)) (seen_paths (told_by rs)) (paths_in (taken o))

-- The mark that was taken, or the next one if that is of this path.
abbrev pub TakesPast : Path → Option OldMark → List (Path × Mark) → Option OldMark
    → List (Path × Mark) → Type 0
TakesPast p first left result left_now =
    (es : List (Path × Mark)) → TakesFirst told_mark es first left
    → TakesFirst told_mark (past_of p es) result left_now
