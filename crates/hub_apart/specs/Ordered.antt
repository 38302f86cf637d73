-- Lines in the order of a set's: clashes by who writes, then what is about one profile alone.
use Rattle.std.specs.Prelude.{◌≡◌, ◌==◌, ◌-◌, ◌^◌, ℕ, List, filter}
use Rattle.std.specs.List.Sorted.{IsNonDecreasingBy}
use Rattle.hub_cert.specs.declared.fault.CheckFault.{CheckFault}
use Rattle.hub_rounds.specs.Lines.{subject_of}
use Rattle.hub_rounds.specs.declared.subject.Subject.{Subject}
use Rattle.hub_rounds.specs.declared.subject.Subject.TheVariants.{Pair, Alone, Nothing}

-- The highest number. No profile has it, since a list has no more items than that.
abbrev pub last_number : ℕ
last_number = 2 ^ 64 - 1

-- The number of the profile that writes. A line that is about no two profiles has the last number.
abbrev pub writer_in : Subject → ℕ
writer_in (Pair w o) = w
writer_in (Alone p why) = last_number
writer_in Nothing = last_number

abbrev pub writer_of : CheckFault → ℕ
writer_of e = writer_in (subject_of e)

-- That number never falls along the lines.
abbrev pub AreByWriter : List CheckFault → Type 0
AreByWriter es = IsNonDecreasingBy writer_of es

-- The lines of one writer are the same in both lists, in their order. So are those that are about
-- no two profiles.
abbrev pub KeepTheirOrder : List CheckFault → List CheckFault → Type 0
KeepTheirOrder old new =
    (n : ℕ) → filter (λ e. writer_of e == n) new ≡ filter (λ e. writer_of e == n) old
