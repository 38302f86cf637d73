-- Classes that lead from a state to the same state.
use Rattle.std.specs.Prelude.{◌≡◌, ◌<◌, ◌==◌, ℕ, List, [], ◌∷◌, ◌++◌, Some, false}
use Rattle.hub_automaton.specs.Alphabet.{class_count, class_of}
use Rattle.hub_automaton.specs.ClassSets.{has}
use Rattle.hub_automaton.specs.Spots.{PackedState, Tracked, state_after}

-- Both or neither is the class of `/`, and of `.`, and they lead to the same from each text of that
-- state.
abbrev pub LeadAlike : Tracked → PackedState → ℕ → ℕ → Type 0
LeadAlike s at k j =
    (x y : ℕ) → class_of s.mentioned x ≡ Some k → class_of s.mentioned y ≡ Some j
    → ((x == 47) ≡ (y == 47)) × ((x == 46) ≡ (y == 46))
    × ((t : List ℕ) → at ≡ state_after s.alternatives t
    → state_after s.alternatives (t ++ x ∷ []) ≡ state_after s.alternatives (t ++ y ∷ []))

-- Each class out of the set leads to the same state as class 0.
abbrev pub OthersLeadAlike : Tracked → PackedState → List ℕ → Type 0
OthersLeadAlike s at splits =
    (k : ℕ) → k < class_count s.mentioned → has splits k ≡ false → LeadAlike s at k 0
