-- What a walker says of texts that lead to a state, and of such a text after one more character.
use Rattle.std.specs.Prelude.{◌≡◌, ◌==◌, ◌++◌, ◌∷◌, ◌&&◌, ◌||◌, [], ℕ, Bool, List, Some, IsTrue, length}
use Rattle.hub_path.specs.Path.{Path, is_path, path_of}
use Rattle.hub_automaton.specs.declared.alternatives.Alternatives.{Alternatives}
use Rattle.hub_automaton.specs.Alphabet.{class_of}
use Rattle.hub_automaton.specs.Spots.{PackedState, state_after}
use Rattle.hub_profile.specs.Parts.{Parts}
use Rattle.hub_reach.specs.Reach.{is_ignored}
use Rattle.hub_reach.specs.Shape.{is_text_character, shape_of}
use Rattle.hub_reach.specs.Stage.{HasText, IsWalkerOf, profile_alternatives}
use Rattle.hub_reach.specs.Walk.{is_inside, is_kept}
use Rattle.hub_reach.specs.Walker.{WalkerParts}
use Rattle.hub_reach.specs.declared.shape.Shape.{Shape}
use Rattle.hub_reach.specs.declared.stage.Stage.{Stage}

-- The flag is what the test says of the walker's choices and each text that leads to the state.
abbrev pub SaysOfText : WalkerParts → PackedState → (List Alternatives → List ℕ → Bool) → Bool
    → Type 0
SaysOfText w spots test flag =
    (t : List ℕ) → spots ≡ state_after w.alternatives t → flag ≡ test w.alternatives t

-- The flag is what the test says of the profile and each path whose text leads to the state.
abbrev pub SaysOfPath : WalkerParts → PackedState → (Parts → Path → Bool) → Bool → Type 0
SaysOfPath w spots test flag =
    (P : Parts) (t : List ℕ) → IsWalkerOf P w → IsTrue (is_path (path_of t))
    → spots ≡ state_after (profile_alternatives P) t → flag ≡ test P (path_of t)

-- The flag is what the test says of the profile and each path whose text this stage has.
abbrev pub SaysOfStage : WalkerParts → Stage → (Parts → Path → Bool) → Bool → Type 0
SaysOfStage w s test flag =
    (P : Parts) (t : List ℕ) → IsWalkerOf P w → IsTrue (is_path (path_of t)) → HasText P t s
    → flag ≡ test P (path_of t)

-- Texts of the one shape have the other one after one more character of that class.
abbrev pub LeadsShape : List ℕ → Shape → ℕ → Shape → Type 0
LeadsShape ms from class to =
    (t : List ℕ) (x : ℕ) → from ≡ shape_of t → class_of ms x ≡ Some class
    → IsTrue (is_text_character x) → to ≡ shape_of (t ++ x ∷ [])

-- A kept value is above the path of a text with one more character.
abbrev pub is_inside_with : Parts → List ℕ → ℕ → Bool
is_inside_with P t x = is_inside P (path_of (t ++ x ∷ []))

-- The path of a text with one more character is cut off, where the flag says whether that of the
-- text is: the character ends a path that is ignored, at or below a kept value.
abbrev pub is_cut_with : Parts → Bool → List ℕ → ℕ → Bool
is_cut_with P before t x =
    before || ((x == 47) && (is_kept P (path_of t) && is_ignored P (path_of t)))

-- The stage's row is as long as the rows of the profile's stages.
abbrev pub HasFullRow : Parts → Stage → Type 0
HasFullRow P s = length s.spots.row ≡ length (state_after (profile_alternatives P) []).row
