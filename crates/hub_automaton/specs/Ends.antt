-- The last positions of choices, as masks: where they are active, the choice matches.
use Rattle.std.specs.Prelude.{◌≡◌, ℕ, Bool, false, not, ◌&&◌, ◌||◌, ◌==◌, nat_lt, ◌+◌, List, [], ◌∷◌, ◌++◌, map}
use Rattle.std.specs.List.{flat_map}
use lib.Bits.{bit_and}
use Rattle.hub_glob.specs.declared.piece.Piece.{Piece}
use Rattle.hub_automaton.specs.declared.alternatives.Alternatives.{Alternatives}
use Rattle.hub_automaton.specs.Spots.{PackedState, is_below_kind, some_match, state_after}
use Rattle.hub_automaton.specs.Words.{packed}

-- Some bit is set in both of two rows of words.
abbrev pub meets : List ℕ → List ℕ → Bool
meets [] vs = false
meets (w ∷ ws) [] = false
meets (w ∷ ws) (v ∷ vs) = not (bit_and w v == 0) || meets ws vs

-- The positions of a choice: the last one is in the mask if the choice is asked for, and no other
-- one is.
abbrev pub end_choice : Bool → List Piece → List Bool
end_choice on c = map (λ p. false) c ++ on ∷ []

abbrev pub end_choices : Bool → List (List Piece) → List Bool
end_choices on cs = flat_map (end_choice on) cs

-- From one number on, up to and without another one.
abbrev pub in_range : ℕ → ℕ → ℕ → Bool
in_range from to i = not (nat_lt i from) && nat_lt i to

-- The positions of specifications, where the first one has the number `i`: those in the range are
-- asked for.
abbrev pub end_all : ℕ → ℕ → ℕ → List Alternatives → List Bool
end_all from to i [] = []
end_all from to i (a ∷ ls) =
    end_choices (in_range from to i) a.choices ++ end_all from to (i + 1) ls

-- Their flags.
abbrev pub end_flags : ℕ → ℕ → ℕ → List Alternatives → List Bool
end_flags from to i [] = []
end_flags from to i (a ∷ ls) = in_range from to i ∷ end_flags from to (i + 1) ls

-- The mask of a range of specifications, in the words of a row: the last positions of their
-- choices, and their flags.
abbrev pub ends_in : List Alternatives → ℕ → ℕ → List ℕ
ends_in ls from to = packed (end_all from to 0 ls) ++ packed (end_flags from to 0 ls)

-- The last positions of the choices of `BelowPath` specifications.
abbrev pub end_below : List Alternatives → List Bool
end_below ls = flat_map (λ a. end_choices (is_below_kind a.kind) a.choices) ls

abbrev pub below_ends : List Alternatives → List ℕ
below_ends ls = packed (end_below ls)

-- The claim holds of whether one of the specifications in the range of a mask matches the text that
-- leads to a state.
abbrev pub AtEnds : PackedState → List ℕ → (Bool → Type 0) → Type 0
AtEnds at ends C =
    (ls : List Alternatives) (t : List ℕ) (from to : ℕ) → at ≡ state_after ls t
    → ends ≡ ends_in ls from to → C (some_match ls t from to)
