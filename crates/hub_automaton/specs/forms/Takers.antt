-- The masks of takers of all classes, made in one pass over the positions.
use Rattle.std.specs.Prelude.{◌≡◌, ◌<◌, ◌==◌, ℕ, Bool, not, ◌&&◌, ◌||◌, List, [], ◌∷◌, ◌++◌, length, slice_index_or, if◌then◌else◌}
use Rattle.std.specs.List.{list_any}
use Rattle.hub_automaton.specs.Alphabet.{class_count, sample}
use Rattle.hub_automaton.specs.Masks.{masks_piece}
use Rattle.hub_automaton.specs.Words.{packed}
use Rattle.hub_glob.specs.declared.piece.Piece.{Piece}
use Rattle.hub_glob.specs.declared.path_spec.Kind.{Kind}
use Rattle.hub_automaton.specs.declared.masks.Mask.{Mask}
use Rattle.hub_automaton.specs.declared.masks.Mask.TheVariants as mask

-- What the mask of a character begins with: the positions after `?`, and for `/` its whole mask.
abbrev pub begun : ℕ → Mask
begun c = if c == 47 then mask.Takers c else mask.Common

-- Whether a character is one of these, and isn't `/`.
abbrev pub is_among : List ℕ → ℕ → Bool
is_among cs c = not (c == 47) && list_any (λ d. d == c) cs

-- In the mask of each class the bits `part`, which begin at a place, became the bits `whole`. The
-- other bits stayed.
pub record AreTaken (ms : List ℕ) (old new : List (List ℕ)) (place : ℕ)
    (part whole : ℕ → List Bool) : Type 0 where
  pub many : length new ≡ length old
  pub each : (k : ℕ) (before after : List Bool) → k < class_count ms → length before ≡ place
      → slice_index_or old k [] ≡ packed (before ++ (part (sample ms k) ++ after))
      → slice_index_or new k [] ≡ packed (before ++ (whole (sample ms k) ++ after))

-- The bits that the mask of each class has from a place on were those that it begins with, and
-- became those of its takers. The other bits stayed.
abbrev pub AreCompleted : List ℕ → List (List ℕ) → List (List ℕ) → ℕ → (Mask → List Bool) → Type 0
AreCompleted ms old new place bits =
    AreTaken ms old new place (λ c. bits (begun c)) (λ c. bits (mask.Takers c))

-- The same for the bits of a part of a specification, whatever its kind.
abbrev pub AreCompletedFor : {X : Type 0} → List ℕ → List (List ℕ) → List (List ℕ) → ℕ → X
    → (Mask → Kind → X → List Bool) → Type 0
AreCompletedFor ms old new place x bits =
    (kind : Kind) → AreTaken ms old new place (λ c. bits (begun c) kind x)
    (λ c. bits (mask.Takers c) kind x)

-- The bit of the position after a piece.
abbrev pub bit_after_piece : Mask → Kind → Piece → List Bool
bit_after_piece m kind p = masks_piece m kind p ∷ []

-- The bit at a place was set in the masks of these characters, but for `/`. The other bits stayed.
abbrev pub AreSetAt : List ℕ → List (List ℕ) → List (List ℕ) → ℕ → List ℕ → Type 0
AreSetAt ms old new place cs =
    (flag : ℕ → Bool)
    → AreTaken ms old new place (λ c. flag c ∷ []) (λ c. (flag c || is_among cs c) ∷ [])
