-- One more character of a text: the spots of the longer text from those of the text, read in their
-- order.
use Rattle.std.specs.Prelude.{ℕ, Bool, true, false, ◌&&◌, ◌||◌, ◌==◌, ◌+◌, List, [], ◌∷◌, ◌++◌, length, drop, if◌then◌else◌}
use Rattle.std.specs.List.{flat_map}
use Rattle.hub_glob.specs.declared.piece.Piece.{Piece}
use Rattle.hub_glob.specs.Taking.{takes, is_star}
use Rattle.hub_text.specs.laws.Test.{head, tail}
use Rattle.hub_automaton.specs.declared.alternatives.Alternatives.{Alternatives}
use Rattle.hub_glob.specs.declared.piece.NextCharacter.{NextCharacter}
use Rattle.hub_automaton.specs.Spots.{Unpacked, is_below_kind, spot_count}
use Rattle.hub_glob.specs.Specification.{is_name_kind}

-- The spot after a piece: what was matched up to it and after it before the character, and what
-- is matched up to it with the character. A `*` takes the character and stays, or takes nothing.
abbrev pub spot_past : NextCharacter → Piece → Bool → Bool → Bool → Bool
spot_past x p here there before =
    if is_star p then before || there && takes x p else here && takes x p

abbrev pub stepped_pieces : NextCharacter → Bool → Bool → List Piece → List Bool → List Bool
stepped_pieces x here before [] old = []
stepped_pieces x here before (p ∷ ps) old =
    let there = head old in
    let spot = spot_past x p here there before in spot ∷ stepped_pieces x there spot ps (tail old)

-- The last spot of a choice before the character: whether the choice matched the text.
abbrev pub last_spot : Bool → List Piece → List Bool → Bool
last_spot here [] old = here
last_spot here (p ∷ ps) old = last_spot (head old) ps (tail old)

abbrev pub stepped : NextCharacter → List Piece → List Bool → List Bool
stepped x c old = false ∷ stepped_pieces x (head old) false c (tail old)

abbrev pub ended_matches : List Piece → List Bool → Bool
ended_matches c old = last_spot (head old) c (tail old)

-- The spots of the empty text.
abbrev pub entered_pieces : Bool → List Piece → List Bool
entered_pieces before [] = []
entered_pieces before (p ∷ ps) = (is_star p && before) ∷ entered_pieces (is_star p && before) ps

abbrev pub entered : List Piece → List Bool
entered c = true ∷ entered_pieces true c

-- All choices one after another.
abbrev pub stepped_choices : NextCharacter → List (List Piece) → List Bool → List Bool
stepped_choices x [] old = []
stepped_choices x (c ∷ cs) old = stepped x c old ++ stepped_choices x cs (drop (length c + 1) old)

abbrev pub ended_choices : List (List Piece) → List Bool → Bool
ended_choices [] old = false
ended_choices (c ∷ cs) old = ended_matches c old || ended_choices cs (drop (length c + 1) old)

abbrev pub entered_choices : List (List Piece) → List Bool
entered_choices cs = flat_map entered cs

abbrev pub entered_all : List Alternatives → List Bool
entered_all ls = flat_map (λ a. entered_choices a.choices) ls

-- All specifications one after another. After a `/` a `Name` specification looks at the next name.
abbrev pub stepped_one : NextCharacter → Alternatives → List Bool → List Bool
stepped_one x a old =
    if is_name_kind a.kind && x.character == 47 then entered_choices a.choices
    else stepped_choices x a.choices old

abbrev pub stepped_all : NextCharacter → List Alternatives → List Bool → List Bool
stepped_all x [] old = []
stepped_all x (a ∷ ls) old =
    stepped_one x a old ++ stepped_all x ls (drop (spot_count a.choices) old)

-- Whether a path above the longer text is matched: one above the text, or the text itself.
abbrev pub goes_below : NextCharacter → Alternatives → List Bool → Bool
goes_below x a old = is_below_kind a.kind && (x.character == 47) && ended_choices a.choices old

abbrev pub below_one : NextCharacter → Alternatives → Bool → List Bool → Bool
below_one x a was old = was || goes_below x a old

abbrev pub below_all : NextCharacter → List Alternatives → List Bool → List Bool → List Bool
below_all x [] flags old = []
below_all x (a ∷ ls) flags old =
    below_one x a (head flags) old ∷ below_all x ls (tail flags) (drop (spot_count a.choices) old)

-- Which of them match the text, or a path above it.
abbrev pub matched_each : List Alternatives → List Bool → List Bool → List Bool
matched_each [] flags old = []
matched_each (a ∷ ls) flags old =
    (head flags || ended_choices a.choices old)
    ∷ matched_each ls (tail flags) (drop (spot_count a.choices) old)

-- The state after a text with one more character.
abbrev pub pushed : List Alternatives → Unpacked → ℕ → Unpacked
pushed ls s c =
    let x : NextCharacter = record { character = c; first = s.start } in
    record {
      live = stepped_all x ls s.live;
      below = below_all x ls s.below s.live;
      start =
          c == 47;
    }
