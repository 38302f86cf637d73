-- Classes of characters: each mentioned character is a class of its own, and all others that a path
-- may hold are one.
use Rattle.std.specs.Prelude.{◌≡◌, ◌⊎◌, ◌<◌, ◌≤◌, ◌+◌, ℕ, suc, zero, Bool, true, not, ◌&&◌, ◌||◌, ◌==◌, nat_lt, List, [], ◌∷◌, length, find, Option, Some, None, unwrap_or, slice_index, if◌then◌else◌, IsTrue}
use Rattle.std.specs.List.{list_any, list_all, flat_map, range_with_len, position_from}
use Rattle.std.specs.Str.{all_scalars}
use Rattle.hub_path.specs.Path.{Path}
use Rattle.hub_glob.specs.declared.piece.Piece.{Piece}
use Rattle.hub_glob.specs.declared.piece.Piece.TheVariants.{Lit, Any, Run, OneOf}
use Rattle.hub_glob.specs.declared.piece.Part.{Part}
use Rattle.hub_glob.specs.declared.piece.Part.TheVariants.{One, Brace}
use Rattle.hub_glob.specs.Specification.{Specification}
use Rattle.hub_automaton.specs.declared.alphabet.TheConstants.{MENTIONED_CHARACTERS}
use Rattle.hub_automaton.specs.declared.fault.AutomatonFault.{AutomatonFault}
use Rattle.hub_automaton.specs.declared.fault.AutomatonFault.TheVariants.{TooManyCharacters, OutOfMemory}

-- NUL, LF and CR: no path has them, and they are never mentioned.
abbrev pub is_never_mentioned : ℕ → Bool
is_never_mentioned c = c == 0 || c == 10 || c == 13

-- A character that may stand in a path: a Unicode scalar value, and none of those.
abbrev pub is_path_character : ℕ → Bool
is_path_character c = all_scalars (c ∷ []) && not (is_never_mentioned c)

abbrev pub is_mentioned : List ℕ → ℕ → Bool
is_mentioned ms c = list_any (λ m. m == c) ms

-- The class of a character: of the mentioned characters, in ascending order, the first has number
-- 1. All others are of class 0.
abbrev pub class_of : List ℕ → ℕ → Option ℕ
class_of ms c =
    if is_never_mentioned c then None else Some (unwrap_or (position_from (λ m. m == c) 1 ms) 0)

abbrev pub class_count : List ℕ → ℕ
class_count ms = length ms + 1

-- The first character from `a` on that isn't mentioned. No more numbers are tried than make sure of
-- one.
abbrev pub first_unmentioned : List ℕ → ℕ
first_unmentioned ms =
    unwrap_or (find (λ c. not (is_mentioned ms c)) (range_with_len 97 (length ms + 1))) 97

-- A character of each class.
abbrev pub sample : List ℕ → ℕ → ℕ
sample ms zero = first_unmentioned ms
sample ms (suc i) = slice_index ms i

-- The numbers ascend, each once.
abbrev pub ascends : List ℕ → Bool
ascends [] = true
ascends (m ∷ ms) = list_all (λ n. nat_lt m n) ms && ascends ms

-- `.` and `/`.
abbrev pub plain : List ℕ
plain = 46 ∷ 47 ∷ []

-- What holds of the mentioned characters: they ascend, `.` and `/` are among them, NUL, LF and CR
-- aren't, all are Unicode scalar values, and there are at most as many as an alphabet may have.
pub record IsAlphabet (ms : List ℕ) : Type 0 where
  pub ascends : IsTrue (ascends ms)
  pub dot : IsTrue (is_mentioned ms 46)
  pub slash : IsTrue (is_mentioned ms 47)
  pub allowed : IsTrue (list_all (λ m. not (is_never_mentioned m)) ms)
  pub scalars : IsTrue (all_scalars ms)
  pub few : length ms ≤ MENTIONED_CHARACTERS

-- A number put in its place among others that ascend.
abbrev pub inserted : List ℕ → ℕ → List ℕ
inserted [] c = c ∷ []
inserted (m ∷ ms) c = if nat_lt c m then c ∷ m ∷ ms else m ∷ inserted ms c

-- The mentioned characters and one more, and with all of these.
abbrev pub with_character : List ℕ → ℕ → List ℕ
with_character ms c = if is_never_mentioned c || is_mentioned ms c then ms else inserted ms c

abbrev pub with_characters : List ℕ → List ℕ → List ℕ
with_characters ms [] = ms
with_characters ms (c ∷ cs) = with_characters (with_character ms c) cs

-- Why they aren't added: they are too many, or there was no memory.
abbrev pub RefusesCharacters : List ℕ → List ℕ → AutomatonFault → Type 0
RefusesCharacters ms cs e =
    (e ≡ OutOfMemory) ⊎ ((e ≡ TooManyCharacters)
    × (MENTIONED_CHARACTERS < length (with_characters ms cs)))

-- The characters of a path's names, and those that a specification mentions: its literals, and the
-- members of its sets.
abbrev pub path_characters : Path → List ℕ
path_characters p = flat_map (λ n. n) p

abbrev pub piece_characters : Piece → List ℕ
piece_characters (Lit c) = c ∷ []
piece_characters Any = []
piece_characters Run = []
piece_characters (OneOf cs) = cs

abbrev pub pieces_characters : List Piece → List ℕ
pieces_characters ps = flat_map piece_characters ps

abbrev pub part_characters : Part → List ℕ
part_characters (One p) = piece_characters p
part_characters (Brace cs) = flat_map pieces_characters cs

abbrev pub spec_characters : Specification → List ℕ
spec_characters s = flat_map part_characters s.pattern

-- All these characters are mentioned, but for those that never are.
abbrev pub mentions : List ℕ → List ℕ → Bool
mentions ms cs = list_all (λ c. is_never_mentioned c || is_mentioned ms c) cs

-- The characters of each of these specifications are mentioned.
abbrev pub MentionsEach : List ℕ → List Specification → Type 0
MentionsEach ms specs = IsTrue (list_all (λ s. mentions ms (spec_characters s)) specs)

-- A character was mentioned, or it is added and isn't NUL, LF or CR.
abbrev pub is_mentioned_or_added : List ℕ → List ℕ → ℕ → Bool
is_mentioned_or_added ms cs x =
    is_mentioned ms x || (not (is_never_mentioned x) && is_mentioned cs x)

-- If two characters are of this class, the claim holds.
abbrev pub IfOfOneClass : List ℕ → ℕ → ℕ → ℕ → Type 0 → Type 0
IfOfOneClass ms k x y C = class_of ms x ≡ Some k → class_of ms y ≡ Some k → C

-- Where a character is mentioned, or never is, both or neither of two characters equal it.
abbrev pub CompareAlike : List ℕ → ℕ → ℕ → ℕ → Type 0
CompareAlike ms c x y = (is_never_mentioned c || is_mentioned ms c) ≡ true → (x == c) ≡ (y == c)

-- The new list has what the old one has, and these characters, each in its place.
abbrev pub Adds : List ℕ → List ℕ → List ℕ → Type 0
Adds old new cs = new ≡ with_characters old cs
