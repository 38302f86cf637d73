-- Texts of names and paths, as they are tested and made.
use Rattle.std.specs.Prelude.{◌≡◌, ◌==◌, ◌&&◌, Bool, ℕ, List, [], ◌∷◌, ◌++◌, String, encode_utf8_all, length, not, string_bytes}
use Rattle.std.specs.List.{list_any}
use Rattle.hub_path.specs.Path.{Name, Path, is_dots, is_forbidden, text_of}

-- A text isn't empty, is neither `.` nor `..`, and no character of it is forbidden.
abbrev pub passes_tests : List ℕ → Bool
passes_tests cs = not (length cs == 0) && not (is_dots cs) && not (list_any is_forbidden cs)

-- This is the text of a path with one more name.
abbrev pub HasChildText : {Z : Type 0} → String Z → Path → Name → Type 0
HasChildText t p n = string_bytes t ≡ encode_utf8_all (text_of (p ++ n ∷ []))
