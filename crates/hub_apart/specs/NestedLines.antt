-- The lines of two profiles whose roots are nested, and of a profile and rules whose roots are: these
-- are searched counted from the upper of two roots.
use Rattle.std.specs.Prelude.{◌≡◌, ◌⊎◌, ◌<◌, ℕ, Bool, true, false, List, [], ◌∷◌, ◌++◌, length, map, drop, slice_get, Some, Contains}
use Rattle.std.specs.List.{list_any}
use Rattle.hub_path.specs.declared.side.Side.{Side}
use Rattle.hub_path.specs.declared.side.Side.TheVariants.{Left, Right}
use Rattle.hub_profile.specs.Parts.{Parts}
use Rattle.hub_profile.specs.declared.rule.Rule.{Rule}
use Rattle.hub_cert.specs.Refused.{IsRefused}
use Rattle.hub_cert.specs.Set.{AreApart, HasValidProfiles, Members}
use Rattle.hub_cert.specs.declared.fault.CheckFault.{CheckFault}
use Rattle.hub_cert.specs.declared.fault.CheckFault.TheVariants as fault
use Rattle.hub_cert.specs.declared.goal.Goal.TheVariants.{Breach}
use Rattle.hub_nested.specs.Meeting.{meeting, rule_meeting}
use Rattle.hub_nested.specs.declared.meeting.Meeting.{Meeting}
use Rattle.hub_nested.specs.declared.meeting.Meeting.TheVariants as meets
use Rattle.hub_nested.specs.declared.meeting.Together.{Together}
use Rattle.hub_nested.specs.declared.rule_meeting.RuleMeeting.{RuleMeeting}
use Rattle.hub_nested.specs.declared.rule_meeting.RuleMeeting.TheVariants as meets_rule
use Rattle.hub_nested.specs.declared.rule_meeting.Under.{Under}
use Rattle.hub_search.specs.Faults.{AreFaults}
use Rattle.hub_apart.specs.Apart.{have_nested, nests_rule}
use Rattle.hub_apart.specs.ApartLines.{AreAmong, AreLinesOf, AreLinesOfOne, line_among, nested_line, number_of, set_of_one, set_of_two}

-- Of a set, in which no different roots are nested, these faults were found.
pub record AreFound (S : Members) (es : List CheckFault) : Type 0 where
  pub valid : HasValidProfiles S
  pub apart : AreApart S
  pub faults : AreFaults S es

-- Both profiles at the upper root.
abbrev pub together : Together → Members
together t = set_of_two t.first t.second

-- The line of two profiles with the numbers i and j, whose roots lie m and n names below the line's:
-- its paths are counted from the root of the one that writes.
abbrev pub counted_line : ℕ → ℕ → ℕ → ℕ → CheckFault → CheckFault
counted_line m n i j (fault.Overlap w o place held path) =
    fault.Overlap (number_of i j w) (number_of i j o) place (drop (number_of m n w) held)
    (drop (number_of m n w) path)
counted_line m n i j e = line_among i j e

abbrev pub line_from : Together → ℕ → ℕ → CheckFault → CheckFault
line_from t i j e = counted_line t.first_names t.second_names i j e

-- The lines of two profiles at a root of each.
abbrev pub AreLinesAt : Meeting → ℕ → ℕ → List CheckFault → Type 0
AreLinesAt meets.Apart i j es = es ≡ []
AreLinesAt meets.Unsaid i j es = es ≡ nested_line i j ∷ []
AreLinesAt (meets.Counted t) i j es =
    (found : List CheckFault) × AreFound (together t) found × (es ≡ map (line_from t i j) found)

-- The lines of two profiles with nested roots: those at each two of their roots.
pub record AreLinesOfNested (P Q : Parts) (i j : ℕ) (es : List CheckFault) : Type 0 where
  pub at : Side → Side → List CheckFault
  pub are : (a b : Side) → AreLinesAt (meeting P a Q b) i j (at a b)
  pub all : es ≡ ((at Left Left ++ at Left Right) ++ at Right Left) ++ at Right Right

-- The lines of two near profiles: if none of their roots are nested, those of the set of both.
abbrev pub AreLinesOfNear : Parts → Parts → ℕ → ℕ → List CheckFault → Type 0
AreLinesOfNear P Q i j es =
    ((have_nested P Q ≡ true) × AreLinesOfNested P Q i j es)
    ⊎ ((have_nested P Q ≡ false) × AreLinesOf (set_of_two P Q) i j es)

-- Of an earlier and a later profile.
pub record HasLinesOfNear (Ps : List Parts) (i j : ℕ) (own : List CheckFault) : Type 0 where
  pub first : Parts
  pub second : Parts
  pub before : i < j
  pub at_first : slice_get Ps i ≡ Some first
  pub at_second : slice_get Ps j ≡ Some second
  pub lines : AreLinesOfNear first second i j own

-- A profile and a rule at the upper root.
abbrev pub under : Under → Members
under u = set_of_one u.profile (u.rule ∷ [])

-- The line of a profile and a rule with the numbers i and k, whose root lies m names below the line's:
-- its path is counted from there.
abbrev pub large_breach : ℕ → ℕ → CheckFault
large_breach i k = fault.TooLarge (Breach i k)

abbrev pub counted_breach : ℕ → ℕ → ℕ → CheckFault → CheckFault
counted_breach m i k (fault.Breach p r path) = fault.Breach i k (drop m path)
counted_breach m i k (fault.TooLarge g) = large_breach i k
counted_breach m i k e = e

abbrev pub breach_from : Under → ℕ → ℕ → CheckFault → CheckFault
breach_from u i k e = counted_breach u.names i k e

-- The lines of a profile at a root and a rule. If both can't be said from the upper root, it is as if
-- their set were too large.
abbrev pub AreLinesUnder : RuleMeeting → ℕ → ℕ → List CheckFault → Type 0
AreLinesUnder meets_rule.Apart i k es = es ≡ []
AreLinesUnder meets_rule.Unsaid i k es = es ≡ large_breach i k ∷ []
AreLinesUnder (meets_rule.Counted u) i k es =
    (found : List CheckFault) × AreFound (under u) found × (es ≡ map (breach_from u i k) found)

-- The lines of a profile and a rule: those at each root of the profile.
pub record AreLinesOfRule (P : Parts) (R : Rule) (i k : ℕ) (own : List CheckFault) : Type 0 where
  pub at : Side → List CheckFault
  pub are : (a : Side) → AreLinesUnder (rule_meeting P a R) i k (at a)
  pub all : own ≡ at Left ++ at Right

-- Of the rule with a number.
pub record HasLinesOfRule (P : Parts) (Rs : List Rule) (i k : ℕ) (own : List CheckFault)
    : Type 0 where
  pub rule : Rule
  pub at : slice_get Rs k ≡ Some rule
  pub lines : AreLinesOfRule P rule i k own

-- The lines of a profile and the first of these rules, so many of them; and of all, one at a time.
pub record AreLinesOfFirstRules (P : Parts) (Rs : List Rule) (i many : ℕ) (es : List CheckFault)
    : Type 0 where
  pub of_rule : (k : ℕ) → k < many
      → (own : List CheckFault) × HasLinesOfRule P Rs i k own × AreAmong own es
  pub each : (e : CheckFault) → Contains es e → (own : List CheckFault) × Contains own e
      × ((k : ℕ) × HasLinesOfRule P Rs i k own)

abbrev pub AreLinesOfRules : Parts → List Rule → ℕ → List CheckFault → Type 0
AreLinesOfRules P Rs i es = AreLinesOfFirstRules P Rs i (length Rs) es

-- The root of a rule is nested with one of the profile or of another rule.
abbrev pub nests_rules : Parts → List Rule → Bool
nests_rules P Rs = list_any (λ R. nests_rule (P ∷ []) Rs R) Rs

-- The lines of a profile beside rules: if none of their roots are nested, those of the set of all.
abbrev pub AreLinesBeside : Parts → List Rule → ℕ → List CheckFault → Type 0
AreLinesBeside P Rs i es =
    ((nests_rules P Rs ≡ true) × AreLinesOfRules P Rs i es)
    ⊎ ((nests_rules P Rs ≡ false) × AreLinesOfOne P Rs i es)

pub record HasLinesBeside (Ps : List Parts) (Rs : List Rule) (i : ℕ) (own : List CheckFault)
    : Type 0 where
  pub profile : Parts
  pub at : slice_get Ps i ≡ Some profile
  pub lines : AreLinesBeside profile Rs i own

-- Two profiles counted from an upper root, and a profile with a rule.
pub record IsMeetingOfTwo (Ps : List Parts) (T : Members) : Type 0 where
  pub i : ℕ
  pub j : ℕ
  pub first : Parts
  pub second : Parts
  pub before : i < j
  pub at_first : slice_get Ps i ≡ Some first
  pub at_second : slice_get Ps j ≡ Some second
  pub a : Side
  pub b : Side
  pub both : Together
  pub meets : meeting first a second b ≡ meets.Counted both
  pub is : T ≡ together both

pub record IsMeetingOfRule (Ps : List Parts) (Rs : List Rule) (T : Members) : Type 0 where
  pub i : ℕ
  pub k : ℕ
  pub profile : Parts
  pub rule : Rule
  pub at : slice_get Ps i ≡ Some profile
  pub at_rule : slice_get Rs k ≡ Some rule
  pub a : Side
  pub both : Under
  pub meets : rule_meeting profile a rule ≡ meets_rule.Counted both
  pub is : T ≡ under both

-- Memory is out, or two near profiles make no set, or one and a rule.
abbrev pub IsRefusedAt : Parts → Parts → CheckFault → Type 0
IsRefusedAt P Q e =
    (e ≡ fault.OutOfMemory)
    ⊎ ((a : Side) × (b : Side) × (t : Together) × (meeting P a Q b ≡ meets.Counted t)
    × IsRefused (together t) e)

abbrev pub IsRefusedNear : Parts → Parts → CheckFault → Type 0
IsRefusedNear P Q e =
    IsRefusedAt P Q e ⊎ ((have_nested P Q ≡ false) × IsRefused (set_of_two P Q) e)

abbrev pub IsRefusedUnder : Parts → Rule → CheckFault → Type 0
IsRefusedUnder P R e =
    (e ≡ fault.OutOfMemory)
    ⊎ ((a : Side) × (u : Under) × (rule_meeting P a R ≡ meets_rule.Counted u)
    × IsRefused (under u) e)

abbrev pub IsRefusedRules : Parts → List Rule → CheckFault → Type 0
IsRefusedRules P Rs e =
    (e ≡ fault.OutOfMemory)
    ⊎ ((k : ℕ) × (R : Rule) × (slice_get Rs k ≡ Some R) × IsRefusedUnder P R e)

abbrev pub IsRefusedBeside : Parts → List Rule → CheckFault → Type 0
IsRefusedBeside P Rs e =
    IsRefusedRules P Rs e ⊎ ((nests_rules P Rs ≡ false) × IsRefused (set_of_one P Rs) e)
