-- Rows and ranges of the table of folded characters.
use Rattle.std.specs.Prelude.{ℕ, List, [], ◌∷◌}

-- A character past ASCII, and what it folds to.
pub record Row : Type 0 where
  pub of : ℕ
  pub to : List ℕ

abbrev pub row : ℕ → List ℕ → Row
row c t = record { of = c; to = t }

abbrev pub to_one : ℕ → ℕ → Row
to_one c d = row c (d ∷ [])

abbrev pub to_two : ℕ → ℕ → ℕ → Row
to_two c d e = row c (d ∷ e ∷ [])

abbrev pub to_three : ℕ → ℕ → ℕ → ℕ → Row
to_three c d e f = row c (d ∷ e ∷ f ∷ [])

abbrev pub to_four : ℕ → ℕ → ℕ → ℕ → ℕ → Row
to_four c d e f g = row c (d ∷ e ∷ f ∷ g ∷ [])

-- The characters from one to another one.
pub record Range : Type 0 where
  pub first : ℕ
  pub last : ℕ

abbrev pub range : ℕ → ℕ → Range
range a b = record { first = a; last = b }
