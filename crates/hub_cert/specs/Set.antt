-- A set of profiles and rules, as contracts see it.
use Rattle.std.specs.Prelude.{◌≡◌, ◌≢◌, ◌≤◌, ℕ, List, [], ◌∷◌, ◌++◌, map, length, slice_get, Some, IsTrue}
use Rattle.std.specs.List.{flat_map}
use Rattle.hub_path.specs.Path.{Path, is_over}
use Rattle.hub_glob.specs.Glob.{matches}
use Rattle.hub_automaton.specs.Alphabet.{IsAlphabet, mentions, plain, with_characters, spec_characters}
use Rattle.hub_automaton.specs.Spots.{alternatives_of, spots_count}
use Rattle.hub_automaton.specs.declared.alternatives.TheConstants.{SPOTS}
use Rattle.hub_profile.specs.Parts.{Parts, IsProfile}
use Rattle.hub_reach.specs.Mention.{Mentions, mentioned_by}
use Rattle.hub_reach.specs.Stage.{spot_count_of}
use Rattle.hub_reach.specs.Safe as safe
use Rattle.hub_profile.specs.declared.rule.Rule.{Rule}
use Rattle.hub_profile.specs.declared.rules.TheConstants.{RULES}
use Rattle.hub_cert.specs.declared.set.TheConstants.{PROFILES}

pub record Members : Type 0 where
  pub profiles : List Parts
  pub rules : List Rule

-- What a rule forbids.
abbrev pub forbidden_by : Rule → safe.Rule
forbidden_by R = record { root = R.root; verb = R.verb; matches = matches R.spec }

-- The set is safe.
abbrev pub IsSafeSet : Members → Type 0
IsSafeSet S = safe.IsSafe S.profiles (map forbidden_by S.rules)

-- All characters that the profiles and then the rules mention, and the alphabet of them.
abbrev pub mentioned_in : Members → List ℕ
mentioned_in S = flat_map mentioned_by S.profiles ++ flat_map (λ R. spec_characters R.spec) S.rules

abbrev pub alphabet_of : Members → List ℕ
alphabet_of S = with_characters plain (mentioned_in S)

-- All profiles are valid.
abbrev pub HasValidProfiles : Members → Type 0
HasValidProfiles S = (i : ℕ) (P : Parts) → slice_get S.profiles i ≡ Some P → IsProfile P

-- The roots of profiles, and then of rules; no two different ones are nested.
abbrev pub roots_in : Members → List Path
roots_in S = safe.all_roots S.profiles (map forbidden_by S.rules)

abbrev pub AreApart : Members → Type 0
AreApart S =
    (i j : ℕ) (r s : Path) → slice_get (roots_in S) i ≡ Some r → slice_get (roots_in S) j ≡ Some s
    → IsTrue (is_over r s) → r ≡ s

-- No two profiles have one name.
abbrev pub HaveOwnNames : Members → Type 0
HaveOwnNames S =
    (i j : ℕ) (P Q : Parts) → slice_get S.profiles i ≡ Some P → slice_get S.profiles j ≡ Some Q
    → i ≢ j → P.name ≢ Q.name

-- An alphabet mentions all that each rule mentions; and all that a set's profiles and rules do.
abbrev pub MentionsRules : List ℕ → List Rule → Type 0
MentionsRules ms Rs =
    (k : ℕ) (R : Rule) → slice_get Rs k ≡ Some R → IsTrue (mentions ms (spec_characters R.spec))

pub record Mentioned (S : Members) (ms : List ℕ) : Type 0 where
  pub alphabet : IsAlphabet ms
  pub profiles : (i : ℕ) (P : Parts) → slice_get S.profiles i ≡ Some P → Mentions ms P
  pub rules : MentionsRules ms S.rules

-- The spots of a rule.
abbrev pub rule_spots : Rule → ℕ
rule_spots R = spots_count (alternatives_of R.spec ∷ [])

-- Each of the profiles, or of the rules, has few enough spots for an automaton.
abbrev pub ProfilesHaveFewSpots : List Parts → Type 0
ProfilesHaveFewSpots Ps = (i : ℕ) (P : Parts) → slice_get Ps i ≡ Some P → spot_count_of P ≤ SPOTS

abbrev pub RulesHaveFewSpots : List Rule → Type 0
RulesHaveFewSpots Rs = (k : ℕ) (R : Rule) → slice_get Rs k ≡ Some R → rule_spots R ≤ SPOTS

pub record HasFewSpots (S : Members) : Type 0 where
  pub profiles : ProfilesHaveFewSpots S.profiles
  pub rules : RulesHaveFewSpots S.rules

-- What holds of each set, and of its alphabet.
pub record IsSet (S : Members) (ms : List ℕ) : Type 0 where
  pub few : length S.profiles ≤ PROFILES
  pub few_rules : length S.rules ≤ RULES
  pub names : HaveOwnNames S
  pub apart : AreApart S
  pub profiles : HasValidProfiles S
  pub alphabet : ms ≡ alphabet_of S
  pub mentioned : Mentioned S ms
  pub spots : HasFewSpots S

-- The claim holds of each set that has these profiles; or these profiles and rules.
abbrev pub OfProfiles : List Parts → (Members → Type 0) → Type 0
OfProfiles Ps C = (S : Members) → S.profiles ≡ Ps → C S

abbrev pub OfMembers : List Parts → List Rule → (Members → Type 0) → Type 0
OfMembers Ps Rs C = (S : Members) → S.profiles ≡ Ps → S.rules ≡ Rs → C S

-- The claim holds of the profile and of the rule that have these numbers in the set.
abbrev pub OfProfileAndRule : Members → ℕ → ℕ → (Parts → Rule → Type 0) → Type 0
OfProfileAndRule S i k C =
    (P : Parts) (R : Rule) → slice_get S.profiles i ≡ Some P → slice_get S.rules k ≡ Some R
    → C P R
