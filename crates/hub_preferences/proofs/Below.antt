-- The lines below one, up to the next heading.
use Rattle.std.specs.Prelude.{Bool, List, ℕ}
use Rattle.std.specs.List.{list_any}
use Rattle.hub_text.specs.Lines.{lines_of}
use Rattle.hub_path.specs.Path.{Path}
use Rattle.hub_preferences.specs.Counted.{kinds_below}
use Rattle.hub_preferences.specs.declared.kind.LineKind.{LineKind}

-- One of the lines of these bytes passes.
abbrev pub any_below : List Path → (LineKind → Bool) → List ℕ → Bool
any_below rs p s = list_any p (kinds_below rs (lines_of s))
