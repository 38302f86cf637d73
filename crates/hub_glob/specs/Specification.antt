-- What a path specification says: its kind, and its pattern.
use Rattle.std.specs.Prelude.{ℕ, Bool, true, false, ◌+◌, ◌*◌, List, [], ◌∷◌, length}
use Rattle.hub_glob.specs.declared.piece.Piece.{Piece}
use Rattle.hub_glob.specs.declared.piece.Part.{Part}
use Rattle.hub_glob.specs.declared.piece.Part.TheVariants.{One, Brace}
use Rattle.hub_glob.specs.declared.path_spec.Kind.{Kind}
use Rattle.hub_glob.specs.declared.path_spec.Kind.TheVariants as kind

pub record Specification : Type 0 where
  pub kind : Kind
  pub pattern : List Part

-- How many pieces the choices of a brace have together, and how many a pattern has, its choices all
-- counted.
abbrev pub choices_size : List (List Piece) → ℕ
choices_size [] = 0
choices_size (c ∷ cs) = length c + choices_size cs

abbrev pub pattern_size : List Part → ℕ
pattern_size [] = 0
pattern_size (One p ∷ ps) = 1 + pattern_size ps
pattern_size (Brace cs ∷ ps) = choices_size cs + pattern_size ps

-- How many lists of pieces a pattern stands for.
abbrev pub choice_count : List Part → ℕ
choice_count [] = 1
choice_count (One p ∷ ps) = choice_count ps
choice_count (Brace cs ∷ ps) = length cs * choice_count ps

-- Whether the pattern is matched with the last name of a path, and not with names and slashes.
abbrev pub is_name_kind : Kind → Bool
is_name_kind kind.Name = true
is_name_kind kind.Path = false
is_name_kind kind.BelowPath = false
