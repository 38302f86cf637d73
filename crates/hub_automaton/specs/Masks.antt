-- Masks of spots, and what is kept of a text with one more character, by masks.
use Rattle.std.specs.Prelude.{◌≡◌, ℕ, Bool, true, false, not, ◌&&◌, ◌||◌, ◌==◌, nat_lt, ◌+◌, List, [], ◌∷◌, ◌++◌, length, map, take, drop, if◌then◌else◌}
use Rattle.std.specs.List.{flat_map}
use Rattle.hub_glob.specs.declared.piece.Piece.{Piece}
use Rattle.hub_glob.specs.declared.piece.Piece.TheVariants.{Lit, Any, Run, OneOf}
use Rattle.hub_glob.specs.declared.path_spec.Kind.{Kind}
use Rattle.hub_glob.specs.Taking.{takes, is_star}
use Rattle.hub_automaton.specs.declared.alternatives.Alternatives.{Alternatives}
use Rattle.hub_automaton.specs.declared.masks.Mask.{Mask}
use Rattle.hub_automaton.specs.declared.masks.Mask.TheVariants as mask
use Rattle.hub_automaton.specs.declared.masks.SpotMasks.{SpotMasks}
use Rattle.hub_glob.specs.declared.piece.NextCharacter.{NextCharacter}
use Rattle.hub_automaton.specs.Ends.{below_ends}
use Rattle.hub_automaton.specs.Spots.{PackedState, is_below_kind, spot_count}
use Rattle.hub_automaton.specs.Words.{packed, bit, with_bit, moved_words}
use Rattle.hub_glob.specs.Specification.{is_name_kind}

-- Whether the first spot of a choice is in a mask: those of `Name` specifications are entered
-- after a `/`.
abbrev pub masks_start : Mask → Kind → Bool
masks_start mask.Entries k = is_name_kind k
masks_start mask.Stars k = false
masks_start (mask.Takers c) k = false
masks_start mask.Common k = false

-- Whether a piece is a `?`.
abbrev pub is_any : Piece → Bool
is_any (Lit c) = false
is_any Any = true
is_any Run = false
is_any (OneOf cs) = false

-- Whether the spot after a piece is. After a `/` nothing goes on in a `Name` specification.
abbrev pub masks_piece : Mask → Kind → Piece → Bool
masks_piece mask.Entries k p = false
masks_piece mask.Stars k p = is_star p
masks_piece (mask.Takers c) k p =
    not (is_name_kind k && c == 47) && (not (is_star p)
    && takes (record { character = c; first = false }) p)
masks_piece mask.Common k p = is_any p

abbrev pub mask_choice : Mask → Kind → List Piece → List Bool
mask_choice m k c = masks_start m k ∷ map (masks_piece m k) c

abbrev pub mask_choices : Mask → Kind → List (List Piece) → List Bool
mask_choices m k cs = flat_map (mask_choice m k) cs

abbrev pub mask_all : Mask → List Alternatives → List Bool
mask_all m ls = flat_map (λ a. mask_choices m a.kind a.choices) ls

-- The mask of some specifications, in words.
abbrev pub mask_words : Mask → List Alternatives → List ℕ
mask_words m ls = packed (mask_all m ls)

-- The masks of some specifications, with those of takers for each of these characters.
pub record AreMasksOf (ls : List Alternatives) (characters : List ℕ) (m : SpotMasks) : Type 0 where
  pub entered : m.entries ≡ packed (mask_all mask.Entries ls)
  pub starred : m.stars ≡ packed (mask_all mask.Stars ls)
  pub taken : m.takers.items ≡ map (λ c. packed (mask_all (mask.Takers c) ls)) characters
  pub ended : m.below_ends ≡ below_ends ls

-- Whether one of the choices whose spots begin at that place matches the text.
abbrev pub ended_at : List (List Piece) → List ℕ → ℕ → Bool
ended_at [] ws n = false
ended_at (c ∷ cs) ws n = bit ws (n + length c) || ended_at cs ws (n + (length c + 1))

-- Whether one of these specifications matches, from the one with number `from` on: the spots of the
-- first one begin at `n`, and its flag is at `i`.
abbrev pub matched_at : List Alternatives → ℕ → List ℕ → List ℕ → ℕ → ℕ → Bool
matched_at [] from live flags n i = false
matched_at (a ∷ ls) from live flags n i =
    (not (nat_lt i from) && (bit flags i || ended_at a.choices live n))
    || matched_at ls from live flags (n + spot_count a.choices) (i + 1)

-- Before a `/`: the row in which also those paths above are flagged that end there. The flags begin
-- at the word `first`.
abbrev pub marked : List Alternatives → List ℕ → ℕ → ℕ → ℕ → List ℕ → List ℕ
marked [] live n first i row = row
marked (a ∷ ls) live n first i row =
    marked ls live (n + spot_count a.choices) first (i + 1)
    (if is_below_kind a.kind && ended_at a.choices live n then with_bit first i row else row)

-- The row with its first words moved on by a character, as many as the mask of stars has.
abbrev pub moved_row : Bool → List ℕ → List ℕ → List ℕ → List ℕ → List ℕ
moved_row stays es ss ts row =
    moved_words stays es ss ts (take (length ss) row) 0 0 ++ drop (length ss) row

-- What is kept of a text with one more character.
abbrev pub moved_state : NextCharacter → List Alternatives → List ℕ → List ℕ → List ℕ
    → PackedState → PackedState
moved_state x ls entries stars takers s =
    record {
      row = moved_row (takes x Run) (if x.character == 47 then entries else []) stars takers
          (if x.character == 47 then marked ls (take (length stars) s.row) 0 (length stars) 0 s.row
          else s.row);
      start = x.character == 47;
    }

-- The state after one more character, by the masks and the mask of the pieces that take it.
abbrev pub moved_on : ℕ → List Alternatives → SpotMasks → List ℕ → PackedState → PackedState
moved_on c ls m takers s =
    moved_state (record { character = c; first = s.start }) ls m.entries m.stars takers s
