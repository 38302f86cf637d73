-- When profiles and rules make no set.
use Rattle.std.specs.Prelude.{◌≡◌, ◌⊎◌, ◌<◌, ◌≤◌, ℕ, Bool, true, not, ◌&&◌, ◌||◌, List, length, slice_get, Some}
use Rattle.hub_path.specs.Path.{Name, Path, path_eq, is_over}
use Rattle.hub_automaton.specs.declared.alphabet.TheConstants.{MENTIONED_CHARACTERS}
use Rattle.hub_automaton.specs.declared.alternatives.TheConstants.{SPOTS}
use Rattle.hub_automaton.specs.declared.fault.AutomatonFault.{AutomatonFault}
use Rattle.hub_automaton.specs.declared.fault.AutomatonFault.TheVariants as automaton
use Rattle.hub_profile.specs.Parts.{Parts}
use Rattle.hub_reach.specs.Stage.{spot_count_of}
use Rattle.hub_cert.specs.Set.{Members, AreApart, HaveOwnNames, alphabet_of, roots_in, rule_spots}
use Rattle.hub_profile.specs.declared.rule.Rule.{Rule}
use Rattle.hub_cert.specs.declared.fault.CheckFault.{CheckFault}
use Rattle.hub_cert.specs.declared.fault.CheckFault.TheVariants as fault
use Rattle.hub_cert.specs.declared.set.TheConstants.{PROFILES}

-- Two profiles, by their numbers, that have the same name.
pub record HaveSameName (Ps : List Parts) (i j : ℕ) : Type 0 where
  pub first : Parts
  pub second : Parts
  pub at_first : slice_get Ps i ≡ Some first
  pub at_second : slice_get Ps j ≡ Some second
  pub same : first.name ≡ second.name

-- A profile before that one has its name.
abbrev pub HasNamesakeBefore : List Parts → ℕ → Type 0
HasNamesakeBefore Ps later = (i : ℕ) × (i < later) × HaveSameName Ps i later

-- No two profiles have the same name; or that one is the first that has the name of an earlier one.
abbrev pub NoNamesakes : List Parts → Type 0
NoNamesakes Ps = (i j : ℕ) → i < j → HaveSameName Ps i j → ⊥

abbrev pub IsFirstNamesake : List Parts → ℕ → Type 0
IsFirstNamesake Ps later =
    HasNamesakeBefore Ps later
    × ((i j : ℕ) → i < j → j < later → HaveSameName Ps i j → ⊥)

-- The name of the first profile that has the name of an earlier one.
pub record IsFirstRepeated (Ps : List Parts) (name : Name) : Type 0 where
  pub earlier : ℕ
  pub later : ℕ
  pub before : earlier < later
  pub repeated : HaveSameName Ps earlier later
  pub shown : name ≡ repeated.second.name
  pub none_before : (i j : ℕ) → i < j → j < later → HaveSameName Ps i j → ⊥

-- Two different roots, one of which lies within the other.
abbrev pub is_nested : Path → Path → Bool
is_nested r s = not (path_eq r s) && (is_over r s || is_over s r)

-- Two roots, by their numbers, that are nested.
pub record AreNested (rs : List Path) (i j : ℕ) : Type 0 where
  pub first : Path
  pub second : Path
  pub at_first : slice_get rs i ≡ Some first
  pub at_second : slice_get rs j ≡ Some second
  pub nested : is_nested first second ≡ true

-- No two of the roots are nested.
abbrev pub NoneNested : List Path → Type 0
NoneNested rs = (m n : ℕ) → m < n → AreNested rs m n → ⊥

-- The first pair of nested roots, by its earlier root and then by its later one.
pub record AreFirstNested (rs : List Path) (i j : ℕ) : Type 0 where
  pub before : i < j
  pub nested : AreNested rs i j
  pub none_before : (m n : ℕ) → m < n → (m < i) ⊎ ((m ≡ i) × (n < j)) → AreNested rs m n → ⊥

-- The numbers of the roots that equal no earlier one, in ascending order.
pub record AreDistinctRoots (rs : List Path) (ns : List ℕ) : Type 0 where
  pub ascending : (k l m n : ℕ) → k < l → slice_get ns k ≡ Some m → slice_get ns l ≡ Some n → m < n
  pub within : (k n : ℕ) → slice_get ns k ≡ Some n → n < length rs
  pub each : (i : ℕ) (r : Path) → slice_get rs i ≡ Some r
      → (k n : ℕ) × (slice_get ns k ≡ Some n) × (n ≤ i) × (slice_get rs n ≡ Some r)

-- Two of the roots with these numbers, by their places among them, that are nested.
abbrev pub AreNestedAt : List Path → List ℕ → ℕ → ℕ → Type 0
AreNestedAt rs ns k l =
    (m n : ℕ) × (slice_get ns k ≡ Some m) × (slice_get ns l ≡ Some n) × AreNested rs m n

-- None of them after that one is nested with it; or the other one is the first that is.
abbrev pub NoneNestedAfter : List Path → List ℕ → ℕ → Type 0
NoneNestedAfter rs ns k = (l : ℕ) → k < l → AreNestedAt rs ns k l → ⊥

abbrev pub IsFirstNestedAfter : List Path → List ℕ → ℕ → ℕ → Type 0
IsFirstNestedAfter rs ns k l =
    (k < l) × AreNestedAt rs ns k l × ((o : ℕ) → k < o → o < l → AreNestedAt rs ns k o → ⊥)

-- The first two nested roots, as they are shown.
pub record AreShownNested (rs : List Path) (r s : Path) : Type 0 where
  pub earlier : ℕ
  pub later : ℕ
  pub are : AreFirstNested rs earlier later
  pub first : r ≡ are.nested.first
  pub second : s ≡ are.nested.second

-- One of the profiles has too many spots, or one of the rules; or one of either does in a set.
abbrev pub SomeProfileHasManySpots : List Parts → Type 0
SomeProfileHasManySpots Ps =
    (i : ℕ) × (P : Parts) × (slice_get Ps i ≡ Some P) × (SPOTS < spot_count_of P)

abbrev pub SomeRuleHasManySpots : List Rule → Type 0
SomeRuleHasManySpots Rs =
    (k : ℕ) × (R : Rule) × (slice_get Rs k ≡ Some R) × (SPOTS < rule_spots R)

abbrev pub HasManySpots : Members → Type 0
HasManySpots S = SomeProfileHasManySpots S.profiles ⊎ SomeRuleHasManySpots S.rules

-- Memory has run out, or the spots are too many: those of a profile, or those of a rule.
abbrev pub RefusesProfiles : List Parts → AutomatonFault → Type 0
RefusesProfiles Ps e =
    (e ≡ automaton.OutOfMemory) ⊎ ((e ≡ automaton.TooManySpots) × SomeProfileHasManySpots Ps)

abbrev pub RefusesRules : List Rule → AutomatonFault → Type 0
RefusesRules Rs e =
    (e ≡ automaton.OutOfMemory) ⊎ ((e ≡ automaton.TooManySpots) × SomeRuleHasManySpots Rs)

-- The mentioned characters are too many, or else the spots are.
abbrev pub IsTooMuch : Members → AutomatonFault → Type 0
IsTooMuch S automaton.TooManyCharacters = MENTIONED_CHARACTERS < length (alphabet_of S)
IsTooMuch S automaton.TooManySpots =
    (length (alphabet_of S) ≤ MENTIONED_CHARACTERS) × HasManySpots S
IsTooMuch S automaton.OutOfMemory = Unit {0}

abbrev pub fault_of : AutomatonFault → CheckFault
fault_of automaton.TooManyCharacters = fault.AlphabetFault automaton.TooManyCharacters
fault_of automaton.TooManySpots = fault.AlphabetFault automaton.TooManySpots
fault_of automaton.OutOfMemory = fault.OutOfMemory

-- What is tested before roots are, and before characters and spots are.
abbrev pub FewNamed : Members → Type 0
FewNamed S = (length S.profiles ≤ PROFILES) × HaveOwnNames S

-- Each fault comes when all that is tested before it holds.
abbrev pub IsRefused : Members → CheckFault → Type 0
IsRefused S fault.TooManyProfiles = PROFILES < length S.profiles
IsRefused S (fault.SameName name) = (length S.profiles ≤ PROFILES) × IsFirstRepeated S.profiles name
IsRefused S (fault.NestedRoots r s) = FewNamed S × AreShownNested (roots_in S) r s
IsRefused S (fault.AlphabetFault automaton.TooManyCharacters) =
    FewNamed S × AreApart S × (MENTIONED_CHARACTERS < length (alphabet_of S))
IsRefused S (fault.AlphabetFault automaton.TooManySpots) =
    FewNamed S × AreApart S × (length (alphabet_of S) ≤ MENTIONED_CHARACTERS) × HasManySpots S
IsRefused S fault.OutOfMemory = Unit {0}
IsRefused S other = ⊥
