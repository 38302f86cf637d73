-- The state after a text for some specifications: which numbers of pieces of their choices match
-- it, and which of the specifications match a path above it.
use Rattle.std.specs.Prelude.{◌||◌, ◌≡◌, ◌⊎◌, ◌<◌, ◌≤◌, ◌-◌, Some, IsTrue, drop, ℕ, Bool, true, false, ◌&&◌, ◌==◌, ◌+◌, List, [], ◌∷◌, ◌++◌, map, length, take, if◌then◌else◌}
use Rattle.std.specs.List.{list_any, list_all, flat_map, range_with_len}
use Rattle.hub_glob.specs.declared.piece.Piece.{Piece}
use Rattle.hub_glob.specs.declared.piece.Piece.TheVariants.{Lit}
use Rattle.hub_glob.specs.declared.path_spec.Kind.{Kind}
use Rattle.hub_glob.specs.declared.path_spec.Kind.TheVariants as kind
use Rattle.hub_glob.specs.Specification.{Specification}
use Rattle.hub_glob.specs.Glob.{pieces, no_more, choices}
use Rattle.hub_path.specs.Path.{Path, is_path, text_of}
use Rattle.hub_automaton.specs.Alphabet.{class_of, mentions, pieces_characters, first_unmentioned, IsAlphabet}
use Rattle.hub_automaton.specs.Words.{packed}
use Rattle.hub_automaton.specs.declared.fault.AutomatonFault.{AutomatonFault}
use Rattle.hub_automaton.specs.declared.fault.AutomatonFault.TheVariants.{TooManySpots, OutOfMemory}
use Rattle.hub_automaton.specs.declared.alternatives.TheConstants.{SPOTS}
use Rattle.hub_automaton.specs.declared.alternatives.Alternatives.{Alternatives}

-- For each number up to how many pieces there are, whether that many pieces match the text.
abbrev pub spots : List Piece → List ℕ → List Bool
spots ps t = map (λ i. pieces (take i ps) no_more true t) (range_with_len 0 (length ps + 1))

-- What follows the last `/` of a text, or these characters and the text where it has none.
abbrev pub since_slash : List ℕ → List ℕ → List ℕ
since_slash name [] = name
since_slash name (c ∷ t) = if c == 47 then since_slash [] t else since_slash (name ++ c ∷ []) t

-- The part of a text that a kind of specification looks at.
abbrev pub looked_at : Kind → List ℕ → List ℕ
looked_at kind.Name t = since_slash [] t
looked_at kind.Path t = t
looked_at kind.BelowPath t = t

-- The prefixes of a text that end before a `/`.
abbrev pub folders : List ℕ → List (List ℕ)
folders [] = []
folders (c ∷ t) =
    if c == 47 then [] ∷ map (λ u. c ∷ u) (folders t) else map (λ u. c ∷ u) (folders t)

-- A text ends where a component starts, where the first argument says whether it begins at such a
-- place.
abbrev pub starts : Bool → List ℕ → Bool
starts first [] = first
starts first (c ∷ t) = starts (c == 47) t

-- One of the choices matches a text.
abbrev pub fits : List (List Piece) → List ℕ → Bool
fits cs t = list_any (λ c. pieces c no_more true t) cs

abbrev pub is_below_kind : Kind → Bool
is_below_kind kind.Name = false
is_below_kind kind.Path = false
is_below_kind kind.BelowPath = true

-- What a specification means by its choices.
abbrev pub alternatives_of : Specification → Alternatives
alternatives_of s = record { kind = s.kind; choices = choices s.pattern }

-- A path's text as a choice, which matches that text alone.
abbrev pub path_alternatives : List ℕ → Alternatives
path_alternatives s = record { kind = kind.Path; choices = map Lit s ∷ [] }

abbrev pub spots_of : Alternatives → List ℕ → List Bool
spots_of a t = flat_map (λ c. spots c (looked_at a.kind t)) a.choices

-- For `BelowPath`, whether a prefix that ends before a `/` is matched.
abbrev pub is_matched_above : Alternatives → List ℕ → Bool
is_matched_above a t = is_below_kind a.kind && list_any (fits a.choices) (folders t)

-- One of its choices matches the text, or a path above it.
abbrev pub is_matched : Alternatives → List ℕ → Bool
is_matched a t = is_matched_above a t || fits a.choices (looked_at a.kind t)

-- The state after a text for one specification: for each of its choices the spots, and whether a
-- path above is matched.
pub record SpecState : Type 0 where
  pub sets : List (List Bool)
  pub below : Bool

abbrev pub spec_state : List ℕ → Alternatives → SpecState
spec_state t a =
    record {
      sets = map (λ c. spots c (looked_at a.kind t)) a.choices;
      below = is_matched_above a t;
    }

-- The state after a text: the spots of all choices, one specification after another, whether a path
-- above is matched, for each of them, and whether the text ends where a component starts.
pub record Unpacked : Type 0 where
  pub live : List Bool
  pub below : List Bool
  pub start : Bool

abbrev pub unpacked : List Alternatives → List ℕ → Unpacked
unpacked ls t =
    record {
      live = flat_map (λ a. spots_of a t) ls;
      below = map (λ a. is_matched_above a t) ls;
      start =
          starts true t;
    }

-- The state after a text, as it is kept: one row of words, and whether the text ends where a
-- component starts. The row has the spots of all choices, as words of bits, and then, in further
-- words, for each specification whether a path above is matched. The first bit of a word is the
-- lowest.
pub record PackedState : Type 0 where
  pub row : List ℕ
  pub start : Bool

abbrev pub packed_state : Unpacked → PackedState
packed_state u = record { row = packed u.live ++ packed u.below; start = u.start }

abbrev pub state_after : List Alternatives → List ℕ → PackedState
state_after ls t = packed_state (unpacked ls t)

-- How many spots the choices have.
abbrev pub spot_count : List (List Piece) → ℕ
spot_count [] = 0
spot_count (c ∷ cs) = length c + 1 + spot_count cs

abbrev pub spots_count : List Alternatives → ℕ
spots_count [] = 0
spots_count (a ∷ ls) = spot_count a.choices + spots_count ls

-- Why choices aren't collected: they have too many spots, or there was no memory.
abbrev pub RefusesSpots : List Alternatives → AutomatonFault → Type 0
RefusesSpots ls e = (e ≡ OutOfMemory) ⊎ ((e ≡ TooManySpots) × (SPOTS < spots_count ls))

-- The mentioned characters are enough to tell all characters that the choices tell apart.
abbrev pub is_covered : List ℕ → Alternatives → Bool
is_covered ms a = list_all (λ c. mentions ms (pieces_characters c)) a.choices

abbrev pub AreCovered : List ℕ → List Alternatives → Type 0
AreCovered ms ls = IsTrue (list_all (is_covered ms) ls)

-- What is followed through a text: choices, and the mentioned characters of the alphabet.
pub record Tracked : Type 0 where
  pub mentioned : List ℕ
  pub alternatives : List Alternatives

-- There is a sample of each class, no character matters that isn't mentioned, and there are few
-- spots.
pub record IsTracked (characters : List ℕ) (ls : List Alternatives) (count : ℕ) : Type 0 where
  pub samples : characters ≡ first_unmentioned (drop 1 characters) ∷ drop 1 characters
  pub alphabet : IsAlphabet (drop 1 characters)
  pub covered : IsTrue (list_all (is_covered (drop 1 characters)) ls)
  pub counted : count ≡ spots_count ls
  pub few : count ≤ SPOTS

-- One of these specifications matches the text.
abbrev pub any_matched : List Alternatives → List ℕ → Bool
any_matched ls t = list_any (λ a. is_matched a t) ls

-- One of the choices from one number on, up to and without another one, matches the text.
abbrev pub some_match : List Alternatives → List ℕ → ℕ → ℕ → Bool
some_match ls t from to = list_any (λ a. is_matched a t) (take (to - from) (drop from ls))

-- For each of these specifications, whether it matches the text.
abbrev pub each_matched : List Alternatives → List ℕ → List Bool
each_matched ls t = map (λ a. is_matched a t) ls

-- The claim holds of the state after one more character of that class.
abbrev pub AfterCharacter : Tracked → PackedState → ℕ → (PackedState → Type 0) → Type 0
AfterCharacter s at class C =
    (t : List ℕ) (x : ℕ) → at ≡ state_after s.alternatives t → class_of s.mentioned x ≡ Some class
    → C (state_after s.alternatives (t ++ x ∷ []))

-- The claim holds of the choices that are followed, and of a text that leads to the state.
abbrev pub AtText : Tracked → PackedState → (List Alternatives → List ℕ → Type 0) → Type 0
AtText s at C = (t : List ℕ) → at ≡ state_after s.alternatives t → C s.alternatives t

-- The claim holds of the specifications whose choices are followed, and of a path that leads to the
-- state.
abbrev pub AtPath : Tracked → PackedState → (List Specification → Path → Type 0) → Type 0
AtPath s at C =
    (specs : List Specification) (p : Path) → s.alternatives ≡ map alternatives_of specs
    → IsTrue (is_path p) → at ≡ state_after s.alternatives (text_of p) → C specs p

-- Two characters lead from a text to the same state.
abbrev pub LeadToOneState : List Alternatives → List ℕ → ℕ → ℕ → Type 0
LeadToOneState ls t x y = state_after ls (t ++ x ∷ []) ≡ state_after ls (t ++ y ∷ [])

-- The texts of two paths lead to the same state of these specifications.
abbrev pub HaveOneState : List Specification → Path → Path → Type 0
HaveOneState specs p q =
    state_after (map alternatives_of specs) (text_of p)
    ≡ state_after (map alternatives_of specs) (text_of q)

-- Two texts lead to the same state.
abbrev pub LeadToSame : List Alternatives → List ℕ → List ℕ → Type 0
LeadToSame ls t u = state_after ls t ≡ state_after ls u

-- They do after this character is appended to both.
abbrev pub LeadToSameWith : List Alternatives → List ℕ → List ℕ → ℕ → Type 0
LeadToSameWith ls t u x = state_after ls (t ++ x ∷ []) ≡ state_after ls (u ++ x ∷ [])

-- For each specification the same numbers of pieces match both texts, and a path above both or
-- neither. And both or neither end where a component starts.
abbrev pub MatchInParts : List Alternatives → List ℕ → List ℕ → Type 0
MatchInParts ls t u =
    (map (spec_state t) ls ≡ map (spec_state u) ls) × (starts true t ≡ starts true u)

-- How many words the state after a text has.
abbrev pub row_length : List Alternatives → List ℕ → ℕ
row_length ls t = length (state_after ls t).row

-- The characters that the choices of these specifications mention are mentioned.
abbrev pub ChoicesAreCovered : List ℕ → List Specification → Type 0
ChoicesAreCovered ms specs = AreCovered ms (map alternatives_of specs)
