-- What the lines of a profile say of how names fold.
use Rattle.std.specs.Prelude.{ℕ, Bool, true, false, not, ◌&&◌, ◌||◌, List, [], ◌∷◌, if◌then◌else◌, codes}
use Rattle.std.specs.List.{list_any}
use Rattle.std.specs.Str.{is_utf8, chars}
use Rattle.hub_text.specs.declared.line.Line.{Line}
use Rattle.hub_bundle.specs.Files.{is_heading}
use Rattle.hub_profile.specs.Lines.{trimmed_line, is_setting, has_equals, name_and_value, is_one_of}
use Rattle.hub_respelled.specs.declared.case.LineCase.{LineCase}
use Rattle.hub_respelled.specs.declared.case.LineCase.TheVariants as case

-- The preferences by which names fold, and the value that says so. `fat = true` sets `ignorecase`, too
-- (manual of Unison 2.52, "Preferences").
abbrev pub sets_case : List ℕ → Bool
sets_case n = is_one_of (codes "ignorecase" ∷ codes "fat" ∷ []) n

abbrev pub is_true : List ℕ → Bool
is_true v = is_one_of (codes "true" ∷ []) v

-- With `unicode = false` other characters fold than without it (observed with Unison 2.52.1). With
-- these values they fold as without it, if they fold at all.
abbrev pub sets_encoding : List ℕ → Bool
sets_encoding n = is_one_of (codes "unicode" ∷ []) n

abbrev pub is_unicode : List ℕ → Bool
is_unicode v = is_one_of (codes "true" ∷ codes "default" ∷ []) v

abbrev pub encoding_of : List ℕ → LineCase
encoding_of v = if is_unicode v then case.Agrees else case.Unclear

-- What a line says that sets a name to a value.
abbrev pub case_of_pair : List ℕ × List ℕ → LineCase
case_of_pair pair =
    if sets_encoding pair.0 then encoding_of pair.1
    else (if sets_case pair.0 then (if is_true pair.1 then case.Folds else case.Unclear)
    else case.Other)

-- The same by the line's text without blanks around it, and by its bytes.
abbrev pub case_of_text : List ℕ → LineCase
case_of_text t =
    if is_setting t && has_equals t then case_of_pair (name_and_value t) else case.Other

abbrev pub case_of : List ℕ → LineCase
case_of l = if is_utf8 l then case_of_text (trimmed_line (chars l)) else case.Other

abbrev pub is_folding : LineCase → Bool
is_folding case.Folds = true
is_folding _ = false

abbrev pub is_known : LineCase → Bool
is_known case.Folds = true
is_known case.Agrees = true
is_known _ = false

abbrev pub is_unclear : LineCase → Bool
is_unclear case.Unclear = true
is_unclear _ = false

-- What these lines say, up to the next heading. So they are below.
abbrev pub cases_below : List (Line (List ℕ)) → List LineCase
cases_below [] = []
cases_below (l ∷ ls) = if is_heading l.text then [] else case_of l.text ∷ cases_below ls

-- The names of a profile fold if a line of it says so, and none makes that unclear.
abbrev pub folds_below : List (Line (List ℕ)) → Bool
folds_below ls =
    list_any is_folding (cases_below ls) && not (list_any is_unclear (cases_below ls))
