-- A line of a profile's or a rules text: what it says.
use Rattle.std.specs.Prelude.{◌≡◌, ℕ, Bool, true, not, ◌&&◌, ◌==◌, nat_eq, List, [], ◌∷◌, reverse, length, Result, Ok, Err, if◌then◌else◌, codes, bytes_eq, chars}
use Rattle.std.specs.List.{list_any, before_first, after_first, starts_with}
use denote.Ref.{Bor}
use Rattle.hub_text.specs.Lines.{without_last}
use Rattle.hub_text.specs.Blanks.{is_blank, skip_blanks}
use Rattle.hub_profile.specs.declared.fault.Fault.{Fault}
use Rattle.hub_profile.specs.declared.fault.Fault.TheVariants.{IncludeLeftOut, NoEquals}

-- A text without blanks around it.
abbrev pub trimmed : List ℕ → List ℕ
trimmed cs = reverse (skip_blanks (reverse (skip_blanks cs)))

-- What a line says: a CR at its end is dropped, then the blanks around it.
abbrev pub trimmed_line : List ℕ → List ℕ
trimmed_line cs = trimmed (without_last 13 cs)

-- A blank line and one that begins with `#` say nothing; each other line is a setting.
abbrev pub is_setting : List ℕ → Bool
is_setting l = not (length l == 0) && not (starts_with nat_eq l (codes "#"))

abbrev pub is_one_of : List (List ℕ) → List ℕ → Bool
is_one_of words w = list_any (bytes_eq w) words

abbrev pub include_words : List (List ℕ)
include_words = codes "include" ∷ codes "source" ∷ codes "include?" ∷ codes "source?" ∷ []

-- A line whose first word includes another file, and that sets nothing.
abbrev pub is_include : List ℕ → Bool
is_include l =
    is_one_of include_words (before_first is_blank l)
    && not (starts_with nat_eq (skip_blanks (after_first is_blank l)) (codes "="))

abbrev pub is_equals : ℕ → Bool
is_equals c = c == 61

abbrev pub has_equals : List ℕ → Bool
has_equals l = list_any is_equals l

-- The name and the value of a setting, cut at the first `=`.
abbrev pub name_and_value : List ℕ → List ℕ × List ℕ
name_and_value l = (trimmed (before_first is_equals l), trimmed (after_first is_equals l))

abbrev pub setting : List ℕ → Result (List ℕ × List ℕ) Fault
setting l =
    if is_include l then Err IncludeLeftOut
    else (if not (has_equals l) then Err NoEquals else Ok (name_and_value l))

-- The characters of two texts.
abbrev pub both_chars : Bor (List ℕ) × Bor (List ℕ) → List ℕ × List ℕ
both_chars texts = (chars texts.0.now, chars texts.1.now)

-- A line has an `=`, and these are the texts on both sides of it.
abbrev pub CutsAtEquals : List ℕ → List ℕ × List ℕ → Type 0
CutsAtEquals l pair =
    (has_equals l ≡ true) × (pair.0 ≡ (name_and_value l).0) × (pair.1 ≡ (name_and_value l).1)

-- The same of a line in UTF-8, and of borrowed texts.
abbrev pub CutsTextAtEquals : List ℕ → Bor (List ℕ) × Bor (List ℕ) → Type 0
CutsTextAtEquals l texts = CutsAtEquals (chars l) (both_chars texts)
