-- What holds of every specification that is read: it can be written, and what is written is read as
-- it again.
use Rattle.std.specs.Prelude.{◌≡◌, ◌≤◌, ℕ, Bool, true, false, not, ◌&&◌, ◌||◌, ◌==◌, nat_lt, List, [], ◌∷◌, length, Ok}
use Rattle.std.specs.List.{AllByRecursion}
use lib.Utf8.{scalar}
use Rattle.hub_glob.specs.declared.piece.Piece.{Piece}
use Rattle.hub_glob.specs.declared.piece.Piece.TheVariants.{Lit, Any, Run, OneOf}
use Rattle.hub_glob.specs.declared.piece.Part.{Part}
use Rattle.hub_glob.specs.declared.piece.Part.TheVariants.{One, Brace}
use Rattle.hub_glob.specs.declared.piece.TheConstants.{PATTERN_CHARACTERS, PATTERN_CHOICES}
use Rattle.hub_glob.specs.Specification.{Specification, pattern_size, choice_count, is_name_kind}
use Rattle.hub_glob.specs.Reading.{spec_reading}
use Rattle.hub_glob.specs.Writing.{pattern_text}
use Rattle.hub_text.specs.Blanks.{is_blank}

-- A member that is followed by a `-` and a further member is ASCII, since it is written as a range
-- (`members_text`).
abbrev pub IsAsciiBeforeDash : ℕ → List ℕ → Type 0
IsAsciiBeforeDash c [] = Unit {0}
IsAsciiBeforeDash c (d ∷ []) = Unit {0}
IsAsciiBeforeDash c (d ∷ e ∷ cs) = (d == 45) ≡ true → nat_lt 127 c ≡ false

-- The members of a set are characters (Unicode scalar values), and none is `/`.
abbrev pub AreReadableMembers : List ℕ → Type 0
AreReadableMembers [] = Unit {0}
AreReadableMembers (c ∷ cs) =
    ((c == 47) ≡ false) × (scalar c ≡ true) × IsAsciiBeforeDash c cs × AreReadableMembers cs

-- A set has a member, and the first one is neither `^` nor `!`.
abbrev pub IsReadableSet : List ℕ → Type 0
IsReadableSet [] = ⊥
IsReadableSet (c ∷ cs) = ((c == 94) ≡ false) × ((c == 33) ≡ false) × AreReadableMembers (c ∷ cs)

-- A literal is a character, and in a `Name` pattern it is not `/`.
abbrev pub IsReadablePiece : Bool → Piece → Type 0
IsReadablePiece in_name (Lit c) = ((c == 47 && in_name) ≡ false) × (scalar c ≡ true)
IsReadablePiece in_name Any = Unit {0}
IsReadablePiece in_name Run = Unit {0}
IsReadablePiece in_name (OneOf cs) = IsReadableSet cs

-- A brace has a choice.
abbrev pub IsReadablePart : Bool → Part → Type 0
IsReadablePart in_name (One p) = IsReadablePiece in_name p
IsReadablePart in_name (Brace []) = ⊥
IsReadablePart in_name (Brace (c ∷ cs)) =
    AllByRecursion (AllByRecursion (IsReadablePiece in_name)) (c ∷ cs)

-- A pattern is not empty, and does not begin with a literal that passes the test.
abbrev pub PieceAvoids : (ℕ → Bool) → Piece → Type 0
PieceAvoids test (Lit c) = test c ≡ false
PieceAvoids test Any = Unit {0}
PieceAvoids test Run = Unit {0}
PieceAvoids test (OneOf cs) = Unit {0}

abbrev pub StartAvoids : (ℕ → Bool) → List Part → Type 0
StartAvoids test [] = ⊥
StartAvoids test (One p ∷ ps) = PieceAvoids test p
StartAvoids test (Brace cs ∷ ps) = Unit {0}

-- What a pattern does not begin with: a blank, and in a `Path` or `BelowPath` pattern a `/`.
abbrev pub is_barred_start : Bool → ℕ → Bool
is_barred_start in_name c = is_blank c || (not in_name && c == 47)

pub record IsReadable (s : Specification) : Type 0 where
  pub parts : AllByRecursion (IsReadablePart (is_name_kind s.kind)) s.pattern
  pub start : StartAvoids (is_barred_start (is_name_kind s.kind)) s.pattern
  pub few_choices : choice_count s.pattern ≤ PATTERN_CHOICES
  pub few_pieces : pattern_size s.pattern ≤ PATTERN_CHARACTERS

-- A text is read as this specification, if the pattern that is written for it isn't too long.
abbrev pub ReadsBack : Specification → List ℕ → Type 0
ReadsBack s t = length (pattern_text s.pattern) ≤ PATTERN_CHARACTERS → spec_reading t ≡ Ok s
