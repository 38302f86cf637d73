-- What lines say of which profiles. A line is a fault of the check.
use Rattle.std.specs.Prelude.{◌≡◌, ◌==◌, ◌&&◌, ◌||◌, ℕ, Bool, true, false, if◌then◌else◌, List, Option, None, Some, Contains, ◌⊎◌, ◌∷◌, IsTrue}
use Rattle.std.specs.List.{find}
use Rattle.hub_cert.specs.declared.fault.CheckFault.{CheckFault}
use Rattle.hub_cert.specs.declared.fault.CheckFault.TheVariants as fault
use Rattle.hub_cert.specs.declared.goal.Goal.{Goal}
use Rattle.hub_cert.specs.declared.goal.Goal.TheVariants as goal
use Rattle.hub_rounds.specs.declared.placing.Obstacle.{Obstacle}
use Rattle.hub_rounds.specs.declared.placing.Obstacle.TheVariants.{Breach, TooLarge}
use Rattle.hub_rounds.specs.declared.subject.Subject.{Subject}
use Rattle.hub_rounds.specs.declared.subject.Subject.TheVariants.{Pair, Alone, Nothing}
use Rattle.hub_cert.specs.Goals.{is_goal}
use Rattle.hub_cert.specs.Set.{Members}
use Rattle.hub_search.specs.Faults.{HasInductiveTexts, HasLine}
use Rattle.hub_search.specs.Search.{IsFirstFault}

-- A goal that is too large: both profiles of a clash count as clashing, and the profile of a breach
-- as breaking the rule.
abbrev pub subject_of_goal : Goal → Subject
subject_of_goal (goal.Clash w o place) = Pair w o
subject_of_goal (goal.Breach p r) = Alone p (TooLarge r)

-- A clash that nothing rules out, since both are never searched together: their roots are nested.
abbrev pub subject_of_missing : Goal → Subject
subject_of_missing (goal.Clash w o place) = Pair w o
subject_of_missing (goal.Breach p r) = Nothing

-- What a line says of which profiles.
abbrev pub subject_of : CheckFault → Subject
subject_of (fault.Overlap w o place held path) = Pair w o
subject_of (fault.Breach p r path) = Alone p (Breach r)
subject_of (fault.TooLarge g) = subject_of_goal g
subject_of (fault.Missing g) = subject_of_missing g
subject_of _ = Nothing

-- It is about these two profiles, either way round.
abbrev pub names_pair : Subject → ℕ → ℕ → Bool
names_pair (Pair w o) i j = (w == i && o == j) || (w == j && o == i)
names_pair (Alone p why) i j = false
names_pair Nothing i j = false

-- One of the lines is about these two profiles: they clash, or whether they do was not decided.
abbrev pub HasPair : List CheckFault → ℕ → ℕ → Type 0
HasPair es i j = (e : CheckFault) × Contains es e × (names_pair (subject_of e) i j ≡ true)

-- One of the lines is about this profile alone, and says why it is in no round.
abbrev pub HasOwnLine : List CheckFault → ℕ → Obstacle → Type 0
HasOwnLine es i why = (e : CheckFault) × Contains es e × (subject_of e ≡ Alone i why)

-- Why this profile is in no round, if it is about this profile alone.
abbrev pub reason_in : ℕ → Subject → Option Obstacle
reason_in i (Alone p why) = if p == i then Some why else None
reason_in i (Pair w o) = None
reason_in i Nothing = None

-- It is about this profile alone.
abbrev pub names_alone : ℕ → Subject → Bool
names_alone i (Alone p why) = p == i
names_alone i (Pair w o) = false
names_alone i Nothing = false

-- None of the lines is about this profile alone.
abbrev pub HasNoOwnLine : List CheckFault → ℕ → Type 0
HasNoOwnLine es i = (why : Obstacle) → HasOwnLine es i why → ⊥

-- It is about this profile alone, which may break a rule.
abbrev pub tells_breach : ℕ → Subject → Bool
tells_breach i (Alone p (Breach r)) = p == i
tells_breach i (Alone p (TooLarge r)) = false
tells_breach i (Pair w o) = false
tells_breach i Nothing = false

-- The first line that says of this profile that it may break a rule;
abbrev pub first_breach : List CheckFault → ℕ → Option CheckFault
first_breach es i = find (λ e. tells_breach i (subject_of e)) es

-- and why it is in no round: by that line, if there is one.
abbrev pub IsFirstReason : List CheckFault → ℕ → Obstacle → Type 0
IsFirstReason es i (Breach r) =
    (e : CheckFault) × (first_breach es i ≡ Some e) × (subject_of e ≡ Alone i (Breach r))
IsFirstReason es i (TooLarge r) = first_breach es i ≡ None

-- Each goal of the set is ruled out, or has one of the lines.
abbrev pub DecideEachGoal : Members → List CheckFault → Type 0
DecideEachGoal S es = (g : Goal) → IsTrue (is_goal S g) → HasInductiveTexts S g ⊎ HasLine S es g

-- The first line, if there is one, is a fault by which the check may refuse the set.
abbrev pub BeginWithFirstFault : Members → List CheckFault → Type 0
BeginWithFirstFault S es =
    (e : CheckFault) (rest : List CheckFault) → es ≡ e ∷ rest → IsFirstFault S e
