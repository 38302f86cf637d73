-- Lists of marks, each with its path, and archives made of them.
use Rattle.std.specs.Prelude.{List, [], ◌∷◌, fold, Option, Some, None}
use Rattle.std.specs.FinMap as fin
use Rattle.hub_path.specs.Path.{Path}
use Rattle.hub_tree.specs.Tree.{Archive, kept_mark}
use Rattle.hub_tree.specs.declared.contents.Mark.{Mark}

-- What an archive keeps of a mark, with its path: nothing of one that says that nothing is there.
abbrev pub kept_entries : Path → Option Mark → List (Path × Mark)
kept_entries p None = []
kept_entries p (Some m) = (p, m) ∷ []

abbrev pub marked_entries : Path → Mark → List (Path × Mark)
marked_entries p m = kept_entries p (kept_mark m)

-- The archive with these marks, put in one after the other.
abbrev pub with_entries : Archive → List (Path × Mark) → Archive
with_entries a es = fold (λ b e. fin.insert b e.0 e.1) a es
