-- What is answered where rounds are asked for beside which profiles run alone.
use Rattle.std.specs.Prelude.{◌≡◌, ◌⊎◌, ◌++◌, ◌&&◌, ⊤, ℕ, List, Some, None, length, string_bytes}
use Rattle.hub_apart.specs.ApartLines.{with_pairs}
use Rattle.hub_apart.specs.UnisonLines.{IsRefusedInUnison}
use Rattle.hub_apart.specs.declared.searched.Apart.{Apart}
use Rattle.hub_cert.specs.declared.fault.CheckFault.{CheckFault}
use Rattle.hub_cert.specs.declared.fault.CheckFault.TheVariants as fault
use Rattle.hub_path.specs.Path.{Name}
use Rattle.hub_profile.specs.Parts.{Parts}
use Rattle.hub_profile.specs.declared.rule.Rule.{Rule}
use Rattle.hub_report.specs.Alone.{alone_lines, are_known}
use Rattle.hub_report.specs.Rounds.{numbers_text}
use Rattle.hub_report.specs.declared.plan.Roster.{Roster}
use Rattle.hub_report.specs.declared.plan_answer.PlanAnswer.TheVariants.{Cut}
use Rattle.hub_report.specs.declared.report.Report.{Report}
use Rattle.hub_report.specs.declared.report.Report.TheVariants as answer
use Rattle.hub_report.specs.declared.rounds.Cut.{Cut as Rounds}
use Rattle.hub_rounds.specs.Numbered.{AreRoundsOfLines}
use Rattle.hub_rounds.specs.declared.numbered.NumberedRounds.{NumberedRounds}
use Rattle.hub_serve.specs.InUnison.{are_decided}
use Rattle.hub_serve.specs.Plans.{twice}
use Rattle.hub_serve.specs.forms.InUnison.{IsSearchedOf}

-- Two of these names are this one, or memory is out.
abbrev pub IsTwice : List Name → CheckFault → Type 0
IsTwice names e =
    (e ≡ fault.OutOfMemory) ⊎ ((n : Name) × (twice names ≡ Some n) × (e ≡ fault.SameName n))

-- These are the readings of the profiles that are read, the rules, and their lines. No two of all have
-- one name.
pub record AreFoundBeside (r : Roster) (Ps : List Parts) (Rs : List Rule) (found : Apart) :
    Type 0 where
  pub names : twice r.names ≡ None
  pub searched : IsSearchedOf Ps Rs found

-- Or this is why there are none.
abbrev pub IsRefusedBeside : Roster → List Parts → List Rule → CheckFault → Type 0
IsRefusedBeside r Ps Rs e = IsTwice r.names e ⊎ IsRefusedInUnison Ps Rs e

-- These are rounds of the profiles that are read, with the lines of the others below.
pub record IsCutBeside (r : Roster) (archives : List (ℕ × ℕ)) (found : Apart) (c : Rounds) :
    Type 0 where
  pub rounds : NumberedRounds
  pub cut : AreRoundsOfLines (length found.profiles) (with_pairs archives found.lines) rounds
  pub text_is : string_bytes c.text
      ≡ numbers_text found.profiles rounds ++ alone_lines r found.rules
  pub decided_is : c.decided
      ≡ (are_decided (with_pairs archives found.lines) rounds && are_known r found.rules)

-- They are told.
abbrev pub TellsCut : Roster → List (ℕ × ℕ) → Apart → Report → Type 0
TellsCut r archives found (answer.Planned (Cut c)) = IsCutBeside r archives found c
TellsCut r archives found answer.OutOfMemory = ⊤
TellsCut r archives found _ = ⊥
