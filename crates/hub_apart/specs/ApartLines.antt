-- The lines of profiles of which each is searched alone, and each two together if no roots of them
-- are nested.
use Rattle.std.specs.Prelude.{◌≡◌, ◌⊎◌, ◌<◌, ℕ, zero, suc, true, false, List, [], ◌∷◌, length, map, slice_get, Some, Contains, ◌++◌}
use Rattle.hub_automaton.specs.declared.alphabet.TheConstants.{MENTIONED_CHARACTERS}
use Rattle.hub_automaton.specs.declared.fault.AutomatonFault.TheVariants as automaton
use Rattle.hub_profile.specs.Parts.{Parts}
use Rattle.hub_profile.specs.declared.rule.Rule.{Rule}
use Rattle.hub_cert.specs.Refused.{IsRefused}
use Rattle.hub_cert.specs.Set.{Members, alphabet_of}
use Rattle.hub_cert.specs.declared.fault.CheckFault.{CheckFault}
use Rattle.hub_cert.specs.declared.fault.CheckFault.TheVariants as fault
use Rattle.hub_cert.specs.declared.goal.Goal.{Goal}
use Rattle.hub_cert.specs.declared.goal.Goal.TheVariants.{Clash, Breach}
use Rattle.hub_cert.specs.declared.goal.Place.TheVariants.{Archive}
use Rattle.hub_search.specs.Faults.{AreFaults}
use Rattle.hub_apart.specs.Apart.{are_put_apart, have_nested}
use Rattle.hub_apart.specs.declared.lines.Numbers.{Numbers}

-- The set of two profiles, without rules; and that of one, with rules.
abbrev pub set_of_two : Parts → Parts → Members
set_of_two P Q = record { profiles = P ∷ Q ∷ []; rules = [] }

abbrev pub set_of_one : Parts → List Rule → Members
set_of_one P Rs = record { profiles = P ∷ []; rules = Rs }

-- The number, among all profiles, of the first and of the second of two.
abbrev pub number_of : ℕ → ℕ → ℕ → ℕ
number_of i j zero = i
number_of i j (suc n) = j

-- A goal and a line of a set of these two, with those numbers.
abbrev pub goal_among : ℕ → ℕ → Goal → Goal
goal_among i j (Clash w o place) = Clash (number_of i j w) (number_of i j o) place
goal_among i j (Breach p r) = Breach (number_of i j p) r

abbrev pub line_among : ℕ → ℕ → CheckFault → CheckFault
line_among i j (fault.Overlap w o place held path) =
    fault.Overlap (number_of i j w) (number_of i j o) place held path
line_among i j (fault.Breach p r path) = fault.Breach (number_of i j p) r path
line_among i j (fault.TooLarge g) = fault.TooLarge (goal_among i j g)
line_among i j e = e

-- The line of two profiles with nested roots: nothing rules out that they clash.
abbrev pub nested_line : ℕ → ℕ → CheckFault
nested_line i j = fault.Missing (Clash i j Archive)

-- Lines with those of pairs that may not run at the same time for another reason than their paths.
abbrev pub pair_line : ℕ × ℕ → CheckFault
pair_line p = nested_line p.0 p.1

abbrev pub with_pairs : List (ℕ × ℕ) → List CheckFault → List CheckFault
with_pairs ps es = es ++ map pair_line ps

-- The lines of a set of one or two profiles, with these numbers.
abbrev pub AreLinesOf : Members → ℕ → ℕ → List CheckFault → Type 0
AreLinesOf S i j es =
    (found : List CheckFault) × AreFaults S found × (es ≡ map (line_among i j) found)

-- The lines of two profiles with these numbers: of nested ones that line alone, else those of the
-- set of both.
abbrev pub AreLinesOfTwo : Parts → Parts → ℕ → ℕ → List CheckFault → Type 0
AreLinesOfTwo P Q i j es =
    ((have_nested P Q ≡ true) × (es ≡ nested_line i j ∷ []))
    ⊎ ((have_nested P Q ≡ false) × AreLinesOf (set_of_two P Q) i j es)

-- The lines of a profile alone, with the rules.
abbrev pub AreLinesOfOne : Parts → List Rule → ℕ → List CheckFault → Type 0
AreLinesOfOne P Rs i es = AreLinesOf (set_of_one P Rs) i i es

-- The set of these profiles and rules.
abbrev pub set_of : List Parts → List Rule → Members
set_of Ps Rs = record { profiles = Ps; rules = Rs }

-- Lines of this kind are appended.
abbrev pub Adds : (List CheckFault → Type 0) → List CheckFault → List CheckFault → Type 0
Adds Are old new = (own : List CheckFault) × Are own × (new ≡ old ++ own)

-- All of the first lines are among the second ones.
abbrev pub AreAmong : List CheckFault → List CheckFault → Type 0
AreAmong xs es = (e : CheckFault) → Contains xs e → Contains es e

-- Lines of a profile, and of an earlier and a later one.
pub record HasLinesOfOne (S : Members) (i : ℕ) (own : List CheckFault) : Type 0 where
  pub profile : Parts
  pub at : slice_get S.profiles i ≡ Some profile
  pub lines : AreLinesOfOne profile S.rules i own

pub record HasLinesOfTwo (Ps : List Parts) (i j : ℕ) (own : List CheckFault) : Type 0 where
  pub first : Parts
  pub second : Parts
  pub before : i < j
  pub at_first : slice_get Ps i ≡ Some first
  pub at_second : slice_get Ps j ≡ Some second
  pub lines : AreLinesOfTwo first second i j own

-- The lines of profiles and rules: those of each profile and of each two, and no others.
pub record AreLinesApart (S : Members) (es : List CheckFault) : Type 0 where
  pub of_one : (i : ℕ) → i < length S.profiles
      → (own : List CheckFault) × HasLinesOfOne S i own × AreAmong own es
  pub of_two : (i j : ℕ) → i < j → j < length S.profiles
      → (own : List CheckFault) × HasLinesOfTwo S.profiles i j own × AreAmong own es
  pub each : (e : CheckFault) → Contains es e
      → (own : List CheckFault) × Contains own e
      × (((i : ℕ) × HasLinesOfOne S i own) ⊎ ((i : ℕ) × (j : ℕ) × HasLinesOfTwo S.profiles i j own))

-- The lines of a set: those of all of its goals. Those of profiles that are put apart are found of
-- one and two at a time.
abbrev pub AreLines : Members → List CheckFault → Type 0
AreLines S es = AreFaults S es ⊎ ((are_put_apart S ≡ true) × AreLinesApart S es)

-- A profile with the rules, and two profiles with no nested roots.
abbrev pub IsSetOfOne : Members → Members → Type 0
IsSetOfOne S T =
    (i : ℕ) × (P : Parts) × (slice_get S.profiles i ≡ Some P) × (T ≡ set_of_one P S.rules)

abbrev pub IsSetOfTwo : Members → Members → Type 0
IsSetOfTwo S T =
    (i : ℕ) × (j : ℕ) × (P : Parts) × (Q : Parts) × (i < j) × (slice_get S.profiles i ≡ Some P)
    × (slice_get S.profiles j ≡ Some Q) × (have_nested P Q ≡ false) × (T ≡ set_of_two P Q)

-- The lines of a profile of number j with each of these: those of each two, and no others.
pub record AreLinesWithEach (Ps : List Parts) (Q : Parts) (j : ℕ) (es : List CheckFault)
    : Type 0 where
  pub of_each : (i : ℕ) (P : Parts) → slice_get Ps i ≡ Some P
      → (own : List CheckFault) × AreLinesOfTwo P Q i j own × AreAmong own es
  pub each : (e : CheckFault) → Contains es e → (own : List CheckFault) × Contains own e
      × ((i : ℕ) × (P : Parts) × (slice_get Ps i ≡ Some P) × AreLinesOfTwo P Q i j own)

-- Memory is out, or two profiles without nested roots make no set; or a profile and one of these.
abbrev pub IsRefusedTwo : Parts → Parts → CheckFault → Type 0
IsRefusedTwo P Q e =
    (e ≡ fault.OutOfMemory) ⊎ ((have_nested P Q ≡ false) × IsRefused (set_of_two P Q) e)

abbrev pub IsRefusedWithEach : List Parts → Parts → CheckFault → Type 0
IsRefusedWithEach Ps Q e =
    (e ≡ fault.OutOfMemory)
    ⊎ ((i : ℕ) × (P : Parts) × (slice_get Ps i ≡ Some P) × IsRefusedTwo P Q e)

-- Why there are no such lines: memory is out, all profiles and rules mention too many characters,
-- or one or two of them make no set.
abbrev pub IsRefusedApart : Members → CheckFault → Type 0
IsRefusedApart S e =
    (e ≡ fault.OutOfMemory)
    ⊎ ((e ≡ fault.AlphabetFault automaton.TooManyCharacters)
    × (MENTIONED_CHARACTERS < length (alphabet_of S)))
    ⊎ ((T : Members) × (IsSetOfOne S T ⊎ IsSetOfTwo S T) × IsRefused T e)

-- The lines of a set of one or two profiles with these numbers are appended; those of a profile
-- alone; those of two; and those of a profile with each of these.
abbrev pub AddsLinesOf : Members → Numbers → List CheckFault → List CheckFault → Type 0
AddsLinesOf S n old new = Adds (AreLinesOf S n.first n.second) old new

abbrev pub AddsLinesOfOne : Parts → List Rule → ℕ → List CheckFault → List CheckFault → Type 0
AddsLinesOfOne P Rs i old new = Adds (AreLinesOfOne P Rs i) old new

abbrev pub AddsLinesOfTwo : Parts → Parts → Numbers → List CheckFault → List CheckFault → Type 0
AddsLinesOfTwo P Q n old new = Adds (AreLinesOfTwo P Q n.first n.second) old new

abbrev pub AddsLinesWithEach : List Parts → Parts → List CheckFault → List CheckFault → Type 0
AddsLinesWithEach Ps Q old new = Adds (AreLinesWithEach Ps Q (length Ps)) old new

-- The lines of a set of these profiles are appended, with the numbers that they have among all.
abbrev pub AddsAmong : Numbers → List CheckFault → List CheckFault → List CheckFault → Type 0
AddsAmong n found old new = new ≡ old ++ map (line_among n.first n.second) found
