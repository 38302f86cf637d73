-- The lines that include files.
use Rattle.std.specs.Prelude.{ℕ, Bool, true, false, ◌==◌, ◌&&◌, not, nat_eq, List, [], ◌∷◌, length, take, drop, Option, Some, None, codes, if◌then◌else◌}
use Rattle.std.specs.Cmp.Lexicographic.{pointwise}
use Rattle.std.specs.List.{list_all}
use Rattle.std.specs.Option.{option_map}
use Rattle.std.specs.Str.{is_utf8}
use Rattle.hub_include.specs.declared.word.Asked.{Asked}

-- A line that includes a file: `include` looks for the name and then for the name with `.prf`,
-- `source` for the name alone. With a `?` the file may be missing. One blank ends the word.
abbrev pub begins_with : List ℕ → List ℕ → Bool
begins_with word line = pointwise nat_eq (take (length word) line) word

-- What a line asks for whose word ends before `names`.
abbrev pub asked : Bool → Bool → List ℕ → Option (Asked (List ℕ))
asked has_ending may_be_missing names =
    Some (record { has_ending = has_ending; may_be_missing = may_be_missing; names = names })

-- What a line asks for, if it includes a file.
abbrev pub asked_by : List ℕ → Option (Asked (List ℕ))
asked_by line =
    if begins_with (codes "include ") line then asked true false (drop 8 line)
    else (if begins_with (codes "include? ") line then asked true true (drop 9 line)
    else (if begins_with (codes "source ") line then asked false false (drop 7 line)
    else (if begins_with (codes "source? ") line then asked false true (drop 8 line)
    else None)))

-- The blanks before a name go.
abbrev pub without_blanks : List ℕ → List ℕ
without_blanks [] = []
without_blanks (b ∷ bs) = if b == 32 then without_blanks bs else b ∷ bs

abbrev pub are_blanks : List ℕ → Bool
are_blanks bs = list_all (λ b. b == 32) bs

abbrev pub onto : ℕ → Option (List ℕ) → Option (List ℕ)
onto b name = option_map (λ bs. b ∷ bs) name

-- The name that a text is, up to a blank. A backslash goes, and what follows it is part of the name.
-- There is no name if more than blanks follow. `is_taken` says that a backslash stands before.
abbrev pub word_from : Bool → List ℕ → Option (List ℕ)
word_from is_taken [] = Some []
word_from true (b ∷ bs) = onto b (word_from false bs)
word_from false (b ∷ bs) =
    if b == 32 then (if are_blanks bs then Some [] else None)
    else (if b == 92 then word_from true bs
    else onto b (word_from false bs))

-- A name that can be looked for: it isn't empty, and it is UTF-8.
abbrev pub looked_for : Option (List ℕ) → Option (List ℕ)
looked_for None = None
looked_for (Some name) = if not (length name == 0) && is_utf8 name then Some name else None

-- The one name that an include line has.
abbrev pub name_in : List ℕ → Option (List ℕ)
name_in names = looked_for (word_from false (without_blanks names))
