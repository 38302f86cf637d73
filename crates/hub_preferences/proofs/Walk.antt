-- The lines of a bundle, one at a time.
use Rattle.std.specs.Prelude.{List, ℕ}
use Rattle.hub_text.specs.Lines.{lines_of, text_of_lines}
use Rattle.hub_path.specs.Path.{Path}
use Rattle.hub_preferences.specs.Counted.{counted_lines}
use Rattle.hub_preferences.specs.declared.section.Section.{Section}

-- What counts of these bytes.
abbrev pub text_below : List Path → Section → List ℕ → List ℕ
text_below rs s bytes = text_of_lines (counted_lines rs s (lines_of bytes))
