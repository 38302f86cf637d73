-- The lines about each profile, by their numbers.
use Rattle.std.specs.Prelude.{◌≡◌, ◌<◌, ◌==◌, ◌||◌, ℕ, Bool, true, false, List, length, slice_get, Some, Contains}
use Rattle.hub_profile.specs.Parts.{some_passes}
use Rattle.hub_cert.specs.declared.fault.CheckFault.{CheckFault}
use Rattle.hub_rounds.specs.Lines.{names_alone, names_pair, subject_of}
use Rattle.hub_rounds.specs.declared.subject.Subject.{Subject}
use Rattle.hub_rounds.specs.declared.subject.Subject.TheVariants.{Pair, Alone, Nothing}

-- It is about this profile, alone or with another one.
abbrev pub is_about : ℕ → Subject → Bool
is_about i (Pair w o) = w == i || o == i
is_about i (Alone p why) = p == i
is_about i Nothing = false

-- These are the numbers of all lines about this profile, and maybe of others.
abbrev pub AreLinesOf : List CheckFault → List ℕ → ℕ → Type 0
AreLinesOf es ms i =
    (m : ℕ) (e : CheckFault) → slice_get es m ≡ Some e → is_about i (subject_of e) ≡ true
    → Contains ms m

-- The list of this profile has that line.
abbrev pub HasNote : List (List ℕ) → ℕ → ℕ → Type 0
HasNote ls i m = (ms : List ℕ) × (slice_get ls i ≡ Some ms) × Contains ms m

-- The lists of profiles have all lines about them.
abbrev pub AreNoted : List CheckFault → List (List ℕ) → Type 0
AreNoted es ls =
    (m i : ℕ) (e : CheckFault) → slice_get es m ≡ Some e → i < length ls
    → is_about i (subject_of e) ≡ true → HasNote ls i m

-- The line is added to the list of this profile, and no list loses one.
pub record AddsNote (old new : List (List ℕ)) (i m : ℕ) : Type 0 where
  pub long : length new ≡ length old
  pub kept : (j k : ℕ) → HasNote old j k → HasNote new j k
  pub added : i < length old → HasNote new i m

-- It is added to the list of each profile that it is about.
pub record AddsNotes (old new : List (List ℕ)) (s : Subject) (m : ℕ) : Type 0 where
  pub long : length new ≡ length old
  pub kept : (j k : ℕ) → HasNote old j k → HasNote new j k
  pub added : (i : ℕ) → i < length old → is_about i s ≡ true → HasNote new i m

-- The line of that number is about these two profiles; or about this one alone.
abbrev pub pair_at : List CheckFault → ℕ → ℕ → ℕ → Bool
pair_at es i j m = some_passes (λ e. names_pair (subject_of e) i j) (slice_get es m)

abbrev pub alone_at : List CheckFault → ℕ → ℕ → Bool
alone_at es i m = some_passes (λ e. names_alone i (subject_of e)) (slice_get es m)
