-- What is written of what clashes in a set, and of its rounds.
use Rattle.std.specs.Prelude.{◌≡◌, ◌≢◌, ◌⊎◌, ◌↔◌, ◌==◌, ◌&&◌, ◌∷◌, ◌++◌, ⊤, ℕ, Bool, true, false, not, List, [], length, Contains, IfErr, IfOk, IsTrue, Result, codes, string_bytes}
use Rattle.std.specs.List.{list_any}
use Rattle.hub_cert.specs.Goals.{is_goal}
use Rattle.hub_cert.specs.Set.{IsSafeSet, Members, OfMembers}
use Rattle.hub_cert.specs.declared.fault.CheckFault.{CheckFault}
use Rattle.hub_cert.specs.declared.fault.CheckFault.TheVariants as fault
use Rattle.hub_cert.specs.declared.goal.Goal.{Goal}
use Rattle.hub_search.specs.Faults.{AreFaults, HasLine, HasInductiveTexts}
use Rattle.hub_search.specs.Search.{Disproves, IsFirstFault}
use Rattle.hub_apart.specs.ApartLines.{AreLines, with_pairs}
use Rattle.hub_apart.specs.declared.searched.Apart.{Apart}
use Rattle.hub_rounds.specs.Rounds.{AreRounds}
use Rattle.hub_rounds.specs.Unverified.{HasRefusedRound}
use Rattle.hub_rounds.specs.declared.fault.RoundsFault.{RoundsFault}
use Rattle.hub_rounds.specs.declared.fault.RoundsFault.TheVariants.{NotVerified, OutOfMemory}
use Rattle.hub_rounds.specs.declared.rounds.Rounds.{Rounds}
use Rattle.hub_report.specs.Graph.{graph_text}
use Rattle.hub_report.specs.declared.rounds.Cut.{Cut}
use Rattle.hub_report.specs.Rounds.{lines_of_all, rounds_text}
use Rattle.hub_cli.specs.declared.words.Reading.{Reading}
use Rattle.hub_serve.specs.Unison.{archives_as}

-- A text has a line for each goal of a set that isn't ruled out, in the order of the goals, and then
-- one for each two profiles that share an archive if they are read so. There is a line. Each line of
-- a goal shows that the set isn't safe, unless it says that its goal is too large. The first of these
-- is one by which the set may be refused.
pub record ListsClashes (reading : Reading) (S : Members) (text : List ℕ) : Type 0 where
  pub lines : List CheckFault
  pub some : lines ≡ [] → archives_as reading S.profiles ≢ []
  pub all : AreFaults S lines
  pub disproved : (e : CheckFault) → Contains lines e → Disproves S e
  pub rest : (g : Goal) → IsTrue (is_goal S g) → HasInductiveTexts S g ⊎ HasLine S lines g
  pub first : (e : CheckFault) (others : List CheckFault) → lines ≡ e ∷ others → IsFirstFault S e
  pub text_is : text ≡ lines_of_all S lines (archives_as reading S.profiles)

-- A text draws a set and all that clashes in it: a line for each goal that isn't ruled out, and which
-- two profiles share an archive if they are read so. Each line shows that the set isn't safe, unless
-- it says that its goal is too large. The set is called safe exactly if there is no line and no
-- archive is shared, and then it is.
pub record DrawsClashes (reading : Reading) (S : Members) (text : List ℕ)
    (safe : Bool) : Type 0 where
  pub lines : List CheckFault
  pub all : AreFaults S lines
  pub disproved : (e : CheckFault) → Contains lines e → Disproves S e
  pub rest : (g : Goal) → IsTrue (is_goal S g) → HasInductiveTexts S g ⊎ HasLine S lines g
  pub text_is : text ≡ graph_text S.profiles lines (archives_as reading S.profiles)
  pub safe_is : safe ≡ true ↔ (lines ≡ []) × (archives_as reading S.profiles ≡ [])
  pub sure : safe ≡ true → IsSafeSet S

-- A fault says that a goal is too large.
abbrev pub is_too_large : CheckFault → Bool
is_too_large (fault.TooLarge g) = true
is_too_large other = false

-- Each profile is in a round, and no goal was too large.
abbrev pub is_decided : List CheckFault → Rounds → Bool
is_decided es r = length r.left == 0 && not (list_any is_too_large es)

-- The lines by which profiles are cut into rounds: those of what clashes, and then one for each two
-- that share an archive if they are read so, as if they clashed.
pub record AreLinesAs (reading : Reading) (S : Members) (lines : List CheckFault) : Type 0 where
  pub found : List CheckFault
  pub all : AreLines S found
  pub with_archives : lines ≡ with_pairs (archives_as reading S.profiles) found

-- A text is that of rounds of a set, which rest on what clashes in it. They may also be rounds of
-- profiles that are put apart: two with nested roots have a line, as if they clashed.
pub record WritesRounds (reading : Reading) (S : Members) (text : List ℕ)
    (decided : Bool) : Type 0 where
  pub lines : List CheckFault
  pub all : AreLinesAs reading S lines
  pub rounds : Rounds
  pub cut : AreRounds S lines rounds
  pub text_is : text ≡ rounds_text rounds
  pub decided_is : decided ≡ is_decided lines rounds

-- The same of what is answered.
abbrev pub IsCut : Reading → Members → Cut → Type 0
IsCut reading S c = WritesRounds reading S (string_bytes c.text) c.decided

-- A set is cut into rounds by what clashes in it, and the check refuses one of them.
pub record HasUnverifiedRound (reading : Reading) (S : Members) : Type 0 where
  pub lines : List CheckFault
  pub all : AreLinesAs reading S lines
  pub round : ℕ
  pub refused : HasRefusedRound S lines (NotVerified round)

-- What holds of a set that isn't cut into rounds.
abbrev pub IsUncut : Reading → Members → RoundsFault → Type 0
IsUncut reading S (NotVerified k) = HasUnverifiedRound reading S
IsUncut reading S OutOfMemory = ⊤

-- The claim holds of a set whose profiles are read so, where this came of cutting it.
abbrev pub OfCut : Result Cut RoundsFault → (Reading → Members → Type 0) → Type 0
OfCut made C =
    (reading : Reading) (S : Members) → IfOk made (IsCut reading S)
    → IfErr made (IsUncut reading S) → C reading S

-- The claim holds of these profiles and rules, which are put apart, where these are their lines.
abbrev pub OfApart : Apart → (Members → Type 0) → Type 0
OfApart found C = OfMembers found.profiles found.rules (λ S. AreLines S found.lines → C S)

-- The claim holds of these profiles and rules, where these are all of their lines.
abbrev pub OfLines : Apart → (Reading → Members → Type 0) → Type 0
OfLines found C =
    (reading : Reading)
    → OfMembers found.profiles found.rules (λ S. AreLinesAs reading S found.lines → C reading S)

-- A text begins as the line of an overlap, of a breach, of a goal that is too large, of an archive that
-- is shared, or of nested roots.
abbrev pub BeginsAsClash : List ℕ → Type 0
BeginsAsClash text =
    (rest : List ℕ)
    × ((text ≡ codes "overlap: " ++ rest) ⊎ (text ≡ codes "breach: " ++ rest)
    ⊎ (text ≡ codes "too large: " ++ rest) ⊎ (text ≡ codes "same archive: " ++ rest)
    ⊎ (text ≡ codes "nested roots: " ++ rest))
