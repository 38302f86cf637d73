-- The lines below one, up to the next heading, and all others.
use Rattle.std.specs.Prelude.{Bool, List, ℕ}
use Rattle.std.specs.List.{list_any}
use Rattle.hub_text.specs.Lines.{lines_of, text_of_lines}
use Rattle.hub_respelled.specs.Case.{cases_below}
use Rattle.hub_respelled.specs.Caseless.{caseless_lines, some_folds}
use Rattle.hub_respelled.specs.declared.case.LineCase.{LineCase}

-- One of the lines of these bytes passes.
abbrev pub any_below : (LineCase → Bool) → List ℕ → Bool
any_below test bytes = list_any test (cases_below (lines_of bytes))

-- The names of a profile fold whose heading is in these bytes.
abbrev pub folds_in_some : List ℕ → Bool
folds_in_some bytes = some_folds (lines_of bytes)

-- What is written of these bytes.
abbrev pub text_below : Bool → List ℕ → List ℕ
text_below folds bytes = text_of_lines (caseless_lines folds (lines_of bytes))
