-- The text of a path specification.
use Rattle.std.specs.Prelude.{◌≡◌, ℕ, ◌==◌, String, string_bytes, encode_utf8_all, List, [], ◌∷◌, ◌++◌, map, codes, if◌then◌else◌}
use Rattle.std.specs.List.{flat_map, join_with_byte}
use Rattle.hub_glob.specs.declared.piece.Piece.{Piece}
use Rattle.hub_glob.specs.declared.piece.Piece.TheVariants.{Lit, Any, Run, OneOf}
use Rattle.hub_glob.specs.declared.piece.Part.{Part}
use Rattle.hub_glob.specs.declared.piece.Part.TheVariants.{One, Brace}
use Rattle.hub_glob.specs.declared.path_spec.Kind.{Kind}
use Rattle.hub_glob.specs.declared.path_spec.Kind.TheVariants as kind
use Rattle.hub_glob.specs.Specification.{Specification}
use Rattle.hub_glob.specs.Reading.{is_special}

abbrev pub literal : ℕ → List ℕ
literal c = if is_special c then 92 ∷ c ∷ [] else c ∷ []

-- Where a `-` and a further member follow, a member is written as the range of itself alone: so the
-- `-` makes no range.
abbrev pub member_text : ℕ → ℕ → List ℕ
member_text c d = if d == 45 then literal c ++ 45 ∷ literal c else literal c

abbrev pub members_text : List ℕ → List ℕ
members_text [] = []
members_text (c ∷ []) = literal c
members_text (c ∷ d ∷ []) = literal c ++ members_text (d ∷ [])
members_text (c ∷ d ∷ e ∷ cs) = member_text c d ++ members_text (d ∷ e ∷ cs)

abbrev pub piece_text : Piece → List ℕ
piece_text (Lit c) = literal c
piece_text Any = 63 ∷ []
piece_text Run = 42 ∷ []
piece_text (OneOf cs) = 91 ∷ members_text cs ++ 93 ∷ []

abbrev pub pieces_text : List Piece → List ℕ
pieces_text ps = flat_map piece_text ps

abbrev pub choices_text : List (List Piece) → List ℕ
choices_text cs = join_with_byte 44 (map pieces_text cs)

abbrev pub pattern_part_text : Part → List ℕ
pattern_part_text (One p) = piece_text p
pattern_part_text (Brace cs) = 123 ∷ choices_text cs ++ 125 ∷ []

abbrev pub pattern_text : List Part → List ℕ
pattern_text ps = flat_map pattern_part_text ps

abbrev pub kind_word : Kind → List ℕ
kind_word kind.Name = codes "Name"
kind_word kind.Path = codes "Path"
kind_word kind.BelowPath = codes "BelowPath"

-- The kind, a space and the pattern.
abbrev pub spec_text : Specification → List ℕ
spec_text s = kind_word s.kind ++ 32 ∷ pattern_text s.pattern

-- The text of the specification of that kind that has these parts.
abbrev pub text_with_kind : Kind → List Part → List ℕ
text_with_kind k ps = kind_word k ++ 32 ∷ pattern_text ps

-- The new text is the old one, followed by these characters.
abbrev pub AppendsText : {Z : Type 0} → String Z → String Z → List ℕ → Type 0
AppendsText old new cs = string_bytes new ≡ string_bytes old ++ encode_utf8_all cs
