-- Marks that are read one after the other.
use Rattle.std.specs.Prelude.{◌≡◌, List, Option, Some, None}
use Rattle.std.specs.FinMap as fin
use Rattle.std.specs.declared.cmp.Ordering.TheVariants.{Less}
use Rattle.hub_path.specs.Path.{Path, path_cmp}
use Rattle.hub_tree.specs.Tree.{Archive}
use Rattle.hub_tree.specs.Marked.{with_entries}
use Rattle.hub_tree.specs.declared.contents.Mark.{Mark}

-- The archive that was made, or that of a list of marks.
abbrev pub marks_in : List (Path × Mark) → Option Archive → Archive
marks_in listed None = with_entries fin.empty listed
marks_in listed (Some made) = made

-- No path of the list is after this one.
abbrev pub EndsWith : Path → List (Path × Mark) → Type 0
EndsWith last listed =
    (q : Path) → path_cmp last q ≡ Less → fin.get (with_entries fin.empty listed) q ≡ None
