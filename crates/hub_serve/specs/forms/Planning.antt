-- What is answered where a faulty profile keeps no other from being read.
use Rattle.std.specs.Prelude.{◌≡◌, ⊤, ℕ, List, Err, string_bytes}
use Rattle.hub_apart.specs.declared.searched.Apart.{Apart}
use Rattle.hub_bundle.specs.Bundle.{bundle_reading}
use Rattle.hub_cert.specs.Set.{Members}
use Rattle.hub_cert.specs.declared.fault.CheckFault.{CheckFault}
use Rattle.hub_preferences.specs.Counted.{counted_bundle}
use Rattle.hub_report.specs.Refusal.{refusal_line}
use Rattle.hub_report.specs.declared.faulty_input.FaultyInput.TheVariants.{BadBundle}
use Rattle.hub_report.specs.declared.plan.Roster.{Roster}
use Rattle.hub_report.specs.declared.plan_answer.PlanAnswer.TheVariants.{Made, Refused, BadRules}
use Rattle.hub_report.specs.declared.report.Report.{Report}
use Rattle.hub_report.specs.declared.report.Report.TheVariants as answer
use Rattle.hub_profile.specs.Parts.{Parts}
use Rattle.hub_profile.specs.declared.rule.Rule.{Rule}
use Rattle.hub_unison.specs.Shared.{shared_pairs}
use Rattle.hub_serve.specs.Plans.{HasBadRules, IsWrittenOf, Takes, plan_request}
use Rattle.hub_serve.specs.Told.{Holds}
use Rattle.hub_serve.specs.declared.plan_question.PlanQuestion.{PlanQuestion}
use Rattle.hub_serve.specs.declared.taken.Taken.{Taken}

-- What holds of the lines that count where nothing is taken of them.
abbrev pub IsUntaken : List ℕ → Report → Type 0
IsUntaken counted (answer.Faulty (BadBundle f)) = bundle_reading counted ≡ Err f
IsUntaken counted (answer.Planned (BadRules f)) = HasBadRules counted f
IsUntaken counted answer.OutOfMemory = ⊤
IsUntaken counted _ = ⊥

-- The answer to what is asked holds of each input of which this is taken.
abbrev pub OfTaken : PlanQuestion → Taken → Report → Type 0
OfTaken q t r =
    (bytes : List ℕ) → Takes (counted_bundle bytes) t → Holds (plan_request q) bytes r

-- And of each input whose lines that count are these.
abbrev pub OfCounted : PlanQuestion → List ℕ → Report → Type 0
OfCounted q counted r =
    (bytes : List ℕ) → counted ≡ counted_bundle bytes → Holds (plan_request q) bytes r

-- The answer holds where these profiles and rules are taken, and these pairs share an archive.
abbrev pub OfMade :
    PlanQuestion → Roster → List Parts → List Rule → List (ℕ × ℕ) → Report → Type 0
OfMade q roster Ps Rs archives r =
    (t : Taken) → t.roster ≡ roster → t.profiles ≡ Ps → t.rules ≡ Rs → archives ≡ shared_pairs Ps
    → OfTaken q t r

-- These profiles and rules are planned by these lines.
abbrev pub TellsPlan : Roster → List (ℕ × ℕ) → Apart → Report → Type 0
TellsPlan roster archives found (answer.Planned (Made p)) = IsWrittenOf roster archives found p
TellsPlan roster archives found answer.OutOfMemory = ⊤
TellsPlan roster archives found _ = ⊥

-- They can't be searched for that reason.
abbrev pub TellsUnplanned : Members → CheckFault → Report → Type 0
TellsUnplanned S e (answer.Planned (Refused line refusal)) = string_bytes line ≡ refusal_line S e
TellsUnplanned S e answer.OutOfMemory = ⊤
TellsUnplanned S e _ = ⊥
