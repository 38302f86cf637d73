-- What is known of two replicas and of their archive, for one profile.
use Rattle.std.specs.Prelude.{Bool, true, false, not, ◌&&◌, ◌||◌, ◌==◌, List, length, nat_eq, filter, Option, if◌then◌else◌}
use Rattle.std.specs.Cmp.Lexicographic.{pointwise}
use Rattle.hub_path.specs.Path.{Path, ascending}
use Rattle.hub_path.specs.declared.side.Side.{Side}
use Rattle.hub_path.specs.declared.side.Side.TheVariants.{Left, Right}
use Rattle.hub_profile.specs.Parts.{Parts, some_passes, at_side}
use Rattle.hub_profile.specs.declared.verb.Verb.{Verb}
use Rattle.hub_reach.specs.Reach.{reach, may_at}
use Rattle.hub_tree.specs.declared.contents.Mark.{Mark}
use Rattle.hub_tree.specs.declared.contents.Mark.TheVariants as mark
use Rattle.hub_reconcile.specs.Sight.{Sight}

-- What a profile asks for (which paths, which side decides, which changes are allowed where), the
-- marks of both sides and of the archive, where a directory holds a child that isn't reached, and
-- in ascending order the reached paths at which any of the three has contents.
pub record View : Type 0 where
  pub reached : Path → Bool
  pub force : Option Side
  pub prefer : Option Side
  pub allowed : Side → Path → Verb → Bool
  pub mark : Side → Path → Mark
  pub others : Side → Path → Bool
  pub old : Path → Mark
  pub paths : List Path

abbrev pub mark_eq : Mark → Mark → Bool
mark_eq (mark.File a) (mark.File b) = pointwise nat_eq a b
mark_eq mark.Directory mark.Directory = true
mark_eq mark.Absent mark.Absent = true
mark_eq a b = false

abbrev pub is_present : Mark → Bool
is_present a = not (mark_eq a mark.Absent)

abbrev pub is_folder : Mark → Bool
is_folder a = mark_eq a mark.Directory

-- A path counts if it is reached and has contents on a side or in the archive.
abbrev pub counts : (Path → Bool) → (Side → Path → Mark) → (Path → Mark) → Path → Bool
counts reached marks old p =
    reached p && (is_present (marks Left p) || is_present (marks Right p) || is_present (old p))

-- Whether the profile may make the change at its own root of that side.
abbrev pub allowed_at : Parts → Side → Path → Verb → Bool
allowed_at P side p verb = some_passes (λ r. may_at P r p verb) (at_side P.roots side)

-- The whole replica is no item's, so its mark is left out.
abbrev pub mark_seen : (Side → Path → Sight) → Side → Path → Mark
mark_seen sees side p = if length p == 0 then mark.Absent else (sees side p).mark

-- The view of what is seen on each side, and of an archive; these paths hold all that may count.
abbrev pub view : Parts → (Side → Path → Sight) → (Path → Mark) → List Path → View
view P sees old candidates = record {
  reached = reach P;
  force = P.force;
  prefer = P.prefer;
  allowed = allowed_at P;
  mark = mark_seen sees;
  others = λ side p. (sees side p).others;
  old = old;
  paths = filter (counts (reach P) (mark_seen sees) old) (ascending candidates);
}
