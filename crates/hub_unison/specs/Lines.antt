-- What a line of a profile's text spells for hubsync.
use Rattle.std.specs.Prelude.{ℕ, Bool, List, [], ◌∷◌, Option, Some, None, if◌then◌else◌, codes}
use Rattle.std.specs.Result.{result_ok}
use Rattle.hub_glob.specs.Specification.{Specification}
use Rattle.hub_glob.specs.Reading.{spec_reading}
use Rattle.hub_profile.specs.Arrow.{has_arrow, spec_and_root}
use Rattle.hub_profile.specs.Lines.{is_one_of, trimmed_line, is_setting, setting}
use Rattle.hub_profile.specs.Parts.{some_passes}

-- The characters of a line as it stands in the text, without its LF: with the blanks around it, and
-- with each CR.
abbrev pub LineText : Type 0
LineText = List ℕ

-- The specification that a text spells.
abbrev pub spelled : List ℕ → Option Specification
spelled text = result_ok (spec_reading text)

-- The preferences whose values are specifications, and those whose values begin with one.
abbrev pub ignore_names : List (List ℕ)
ignore_names = codes "ignore" ∷ []

abbrev pub ignorenot_names : List (List ℕ)
ignorenot_names = codes "ignorenot" ∷ []

abbrev pub partial_names : List (List ℕ)
partial_names =
    codes "nodeletionpartial" ∷ codes "noupdatepartial" ∷ codes "nocreationpartial" ∷ []

-- The specification in a value of the preference of that name, if it spells one.
abbrev pub value_spec : List ℕ → List ℕ → Option Specification
value_spec name v =
    if is_one_of ignore_names name then spelled v
    else (if is_one_of ignorenot_names name then spelled v
    else (if is_one_of partial_names name
    then (if has_arrow v then spelled (spec_and_root v).0 else None) else None))

abbrev pub setting_spec : Option (List ℕ × List ℕ) → Option Specification
setting_spec None = None
setting_spec (Some pair) = value_spec pair.0 pair.1

-- The name and the value that a line sets, if it sets something.
abbrev pub line_setting : LineText → Option (List ℕ × List ℕ)
line_setting l = if is_setting (trimmed_line l) then result_ok (setting (trimmed_line l)) else None

-- The specification that a line spells, if it does.
abbrev pub line_spec : LineText → Option Specification
line_spec l = setting_spec (line_setting l)

-- Whether a line sets a preference with one of these names.
abbrev pub has_name : List (List ℕ) → Option (List ℕ × List ℕ) → Bool
has_name names o = some_passes (λ (pair : List ℕ × List ℕ). is_one_of names pair.0) o

abbrev pub sets : List (List ℕ) → LineText → Bool
sets names l = has_name names (line_setting l)
