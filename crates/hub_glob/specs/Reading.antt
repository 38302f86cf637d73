-- Which texts are path specifications, and the first fault of each other text.
use Rattle.std.specs.Prelude.{◌≡◌, ◌⊎◌, ℕ, Bool, true, false, not, ◌&&◌, ◌||◌, ◌==◌, ◌+◌, ◌-◌, nat_lt, nat_le, List, [], ◌∷◌, ◌++◌, length, Option, Some, None, Result, Ok, Err, if◌then◌else◌, codes, bytes_eq}
use Rattle.std.specs.List.{list_any, range_with_len, before_first, after_first}
use Rattle.hub_glob.specs.declared.piece.Piece.{Piece}
use Rattle.hub_glob.specs.declared.piece.Piece.TheVariants.{Lit, Any, Run, OneOf}
use Rattle.hub_glob.specs.declared.piece.Part.{Part}
use Rattle.hub_glob.specs.declared.piece.Part.TheVariants.{One, Brace}
use Rattle.hub_glob.specs.declared.piece.TheConstants.{PATTERN_CHARACTERS, PATTERN_CHOICES}
use Rattle.hub_glob.specs.declared.reading.Parser.{Parser}
use Rattle.hub_glob.specs.declared.reading.Token.{Token}
use Rattle.hub_glob.specs.declared.reading.Token.TheVariants.{Plain, Escaped, Stray}
use Rattle.hub_glob.specs.declared.reading.Sign.{Sign}
use Rattle.hub_glob.specs.declared.reading.Sign.TheVariants.{Means, Open, Comma, Close}
use Rattle.hub_glob.specs.declared.path_spec.Kind.{Kind}
use Rattle.hub_glob.specs.declared.path_spec.Kind.TheVariants as kind
use Rattle.hub_glob.specs.Specification.{Specification, choice_count, is_name_kind}
use Rattle.hub_text.specs.Blanks.{is_blank, skip_blanks}
use Rattle.hub_path.specs.Reading.{begins_with_slash}
use Rattle.hub_glob.specs.declared.fault.GlobFault.{GlobFault}
use Rattle.hub_glob.specs.declared.fault.GlobFault.TheVariants as fault

infixl 10 ◌>>=◌
abbrev pub ◌>>=◌ : {A B : Type 0} → Result A GlobFault → (A → Result B GlobFault)
    → Result B GlobFault
(Ok x) >>= f = f x
(Err e) >>= f = Err e

-- The characters that a `\` makes literal.
abbrev pub is_special : ℕ → Bool
is_special c = list_any (λ d. d == c) (codes "*?[]{},\\")

-- A pattern's characters as they are meant, where the first argument says whether a `\` stands
-- before them. After a `\` that makes nothing literal nothing is read.
abbrev pub tokens : Bool → List ℕ → List Token
tokens false [] = []
tokens true [] = Stray ∷ []
tokens false (c ∷ cs) = if c == 92 then tokens true cs else Plain c ∷ tokens false cs
tokens true (c ∷ cs) = if is_special c then Escaped c ∷ tokens false cs else Stray ∷ []

abbrev pub is_plain : ℕ → Token → Bool
is_plain c (Plain d) = d == c
is_plain c (Escaped d) = false
is_plain c Stray = false

abbrev pub token_character : Token → Result ℕ GlobFault
token_character (Plain c) = Ok c
token_character (Escaped c) = Ok c
token_character Stray = Err fault.BadEscape

-- The characters of a set. A range goes from its low to its high end, both ASCII, and holds no `/`.
abbrev pub range_characters : ℕ → ℕ → Result (List ℕ) GlobFault
range_characters low high =
    if nat_lt 127 low || nat_lt 127 high || nat_lt high low then Err fault.BadRange
    else (if nat_le low 47 && nat_le 47 high then Err fault.SlashInSet
    else Ok (range_with_len low (high + 1 - low)))

abbrev pub one_character : ℕ → Result (List ℕ) GlobFault
one_character c = if c == 47 then Err fault.SlashInSet else Ok (c ∷ [])

abbrev pub member : Token → Result (List ℕ) GlobFault
member t = token_character t >>= one_character

abbrev pub range_member : Token → Token → Result (List ℕ) GlobFault
range_member low high =
    token_character low >>= λ a. token_character high >>= λ b. range_characters a b

abbrev pub then_members : Result (List ℕ) GlobFault → Result (List ℕ) GlobFault
    → Result (List ℕ) GlobFault
then_members first rest = first >>= λ xs. rest >>= λ ys. Ok (xs ++ ys)

-- A `-` with a token before and after it makes a range of the two.
abbrev pub set_members : List Token → Result (List ℕ) GlobFault
set_members [] = Ok []
set_members (a ∷ []) = then_members (member a) (set_members [])
set_members (a ∷ b ∷ []) = then_members (member a) (set_members (b ∷ []))
set_members (a ∷ b ∷ c ∷ ts) =
    if is_plain 45 b then then_members (range_member a c) (set_members ts)
    else then_members (member a) (set_members (b ∷ c ∷ ts))

abbrev pub is_negated : List Token → Bool
is_negated [] = false
is_negated (t ∷ ts) = is_plain 94 t || is_plain 33 t

-- A set, by what stands between its `[` and the next `]`, or the end of the pattern.
abbrev pub set_of : Bool → List ℕ → Result Piece GlobFault
set_of closed cs =
    if not closed then Err fault.OpenBracket
    else (if length cs == 0 then Err fault.BadRange else Ok (OneOf cs))

abbrev pub set_piece : List Token → Bool → Result Piece GlobFault
set_piece ts closed =
    if is_negated ts then Err fault.NegatedSet else set_members ts >>= set_of closed

abbrev pub set_sign : List Token → Bool → Result Sign GlobFault
set_sign ts closed = set_piece ts closed >>= λ p. Ok (Means p)

-- These characters are added to the list.
abbrev pub Adds : Result (List ℕ) GlobFault → List ℕ → List ℕ → Type 0
Adds (Ok xs) old new = new ≡ old ++ xs
Adds (Err e) old new = ⊥

-- A character outside brackets.
abbrev pub character_sign : ℕ → Sign
character_sign c =
    if c == 42 then Means Run
    else (if c == 63 then Means Any
    else (if c == 123 then Open
    else (if c == 125 then Close
    else (if c == 44 then Comma else Means (Lit c)))))

-- The signs of a pattern: each a piece, or a `{`, `,` or `}`, or a fault; a `/` outside brackets is
-- one in a `Name` pattern. Inside brackets, with the tokens since the `[`.
abbrev pub signs : Bool → Option (List Token) → List Token → List (Result Sign GlobFault)
signs in_name None [] = []
signs in_name (Some set) [] = set_sign set false ∷ []
signs in_name None (Stray ∷ ts) = Err fault.BadEscape ∷ []
signs in_name None (Escaped c ∷ ts) = Ok (Means (Lit c)) ∷ signs in_name None ts
signs in_name None (Plain c ∷ ts) =
    if c == 91 then signs in_name (Some []) ts
    else (if c == 47 && in_name then Err fault.SlashInName ∷ []
    else Ok (character_sign c) ∷ signs in_name None ts)
signs in_name (Some set) (t ∷ ts) =
    if is_plain 93 t then set_sign set true ∷ signs in_name None ts
    else signs in_name (Some (set ++ t ∷ [])) ts

-- The signs of the tokens that a parser has left, outside brackets or from after a `[`.
abbrev pub signs_of : Parser → List (Result Sign GlobFault)
signs_of p = signs p.in_name None p.tokens.now

abbrev pub set_signs_of : Parser → List (Result Sign GlobFault)
set_signs_of p = signs p.in_name (Some []) p.tokens.now

-- The first sign that a parser had left is this one, and the others are left.
abbrev pub TakesSign : Parser → Parser → Sign → Type 0
TakesSign old new s = signs_of old ≡ Ok s ∷ signs_of new

-- The same from after a `[`, for the set there.
abbrev pub TakesSet : Parser → Parser → Piece → Type 0
TakesSet old new p = set_signs_of old ≡ Ok (Means p) ∷ signs_of new

-- From after a `[`, no `]` closes the set; or the tokens are a set, a `]` and the rest.
abbrev pub IsUnclosed : Bool → List Token → Type 0
IsUnclosed in_name ts = signs in_name (Some []) ts ≡ set_sign ts false ∷ []

abbrev pub IsSplit : Bool → List Token → List Token → List Token → Type 0
IsSplit in_name ts set rest =
    signs in_name (Some []) ts ≡ set_sign set true ∷ signs in_name None rest

-- The first sign is that fault.
abbrev pub BeginsWithFault : GlobFault → List (Result Sign GlobFault) → Type 0
BeginsWithFault e ss = (rest : List (Result Sign GlobFault)) × (ss ≡ Err e ∷ rest)

-- The fault is the first of the signs, or out of memory.
abbrev pub FailsAtFirst : List (Result Sign GlobFault) → GlobFault → Type 0
FailsAtFirst ss e = (e ≡ fault.OutOfMemory) ⊎ BeginsWithFault e ss

abbrev pub then_part : Part → Result (List Part) GlobFault → Result (List Part) GlobFault
then_part p rest = rest >>= λ ps. Ok (p ∷ ps)

abbrev pub brace : List (List Piece) → Part
brace cs = Brace cs

-- The parts of a pattern; inside a brace, with the choices that are done and the one that is read.
-- A `,` or a `}` that separates or closes nothing is literal.
abbrev pub parts : Option (List (List Piece) × List Piece) → List (Result Sign GlobFault)
    → Result (List Part) GlobFault
parts None [] = Ok []
parts (Some b) [] = Err fault.OpenBrace
parts o (Err f ∷ ss) = Err f
parts None (Ok (Means p) ∷ ss) = then_part (One p) (parts None ss)
parts None (Ok Open ∷ ss) = parts (Some ([], [])) ss
parts None (Ok Comma ∷ ss) = then_part (One (Lit 44)) (parts None ss)
parts None (Ok Close ∷ ss) = then_part (One (Lit 125)) (parts None ss)
parts (Some (done, current)) (Ok (Means p) ∷ ss) = parts (Some (done, current ++ p ∷ [])) ss
parts (Some (done, current)) (Ok Open ∷ ss) = Err fault.NestedBraces
parts (Some (done, current)) (Ok Comma ∷ ss) = parts (Some (done ++ current ∷ [], [])) ss
parts (Some (done, current)) (Ok Close ∷ ss) =
    then_part (Brace (done ++ current ∷ [])) (parts None ss)

-- The parts from after a `{`.
abbrev pub brace_parts : List (Result Sign GlobFault) → Result (List Part) GlobFault
brace_parts ss = parts (Some ([], [])) ss

-- From after a `{`, the signs are those of a brace with these choices, and of what comes after it.
abbrev pub AreBrace : List (Result Sign GlobFault) → List (Result Sign GlobFault)
    → List (List Piece) → Type 0
AreBrace before after cs = parts (Some ([], [])) before ≡ then_part (brace cs) (parts None after)

abbrev pub few_choices : List Part → Result (List Part) GlobFault
few_choices ps =
    if nat_lt PATTERN_CHOICES (choice_count ps) then Err fault.TooManyChoices else Ok ps

abbrev pub pattern_parts : Bool → List ℕ → Result (List Part) GlobFault
pattern_parts in_name cs = parts None (signs in_name None (tokens false cs))

-- A pattern isn't empty, isn't too long and doesn't stand for too many choices. One for a path or
-- for all below it doesn't begin with `/`.
abbrev pub pattern_reading : Kind → List ℕ → Result (List Part) GlobFault
pattern_reading k cs =
    if length cs == 0 then Err fault.EmptyPattern
    else (if nat_lt PATTERN_CHARACTERS (length cs) then Err fault.TooLong
    else (if not (is_name_kind k) && begins_with_slash cs then Err fault.LeadingSlash
    else pattern_parts (is_name_kind k) cs >>= few_choices))

abbrev pub kind_reading : List ℕ → Result Kind GlobFault
kind_reading w =
    if bytes_eq w (codes "Name") then Ok kind.Name
    else (if bytes_eq w (codes "Path") then Ok kind.Path
    else (if bytes_eq w (codes "BelowPath") then Ok kind.BelowPath
    else (if bytes_eq w (codes "Regex") then Err fault.RegexLeftOut else Err fault.NoKind)))

-- A specification is a kind, blanks, and a pattern.
abbrev pub spec_reading : List ℕ → Result Specification GlobFault
spec_reading cs =
    kind_reading (before_first is_blank cs) >>= λ k. pattern_reading k
    (skip_blanks (after_first is_blank cs))
    >>= λ ps. Ok (record { kind = k; pattern = ps })
