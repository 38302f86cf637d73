-- The text and the status of an answer by which a faulty profile keeps no other from being read.
use Rattle.std.specs.Prelude.{ℕ, List, [], if◌then◌else◌, string_bytes}
use Rattle.hub_report.specs.FaultyInput.{section_fault_line}
use Rattle.hub_report.specs.declared.plan_answer.PlanAnswer.{PlanAnswer}
use Rattle.hub_report.specs.declared.plan_answer.PlanAnswer.TheVariants.{Made, Cut, Refused, BadRules}

abbrev pub text_of : PlanAnswer → List ℕ
text_of (Made plan) = string_bytes plan.text
text_of (Cut c) = string_bytes c.text
text_of (Refused line refusal) = string_bytes line
text_of (BadRules f) = section_fault_line f

abbrev pub status_of : PlanAnswer → ℕ
status_of (Made plan) = if plan.is_whole then 0 else 1
status_of (Cut c) = if c.decided then 0 else 1
status_of (Refused line refusal) = 1
status_of (BadRules f) = 2

-- The lines of it that belong on standard error.
abbrev pub undecided_of : PlanAnswer → List ℕ
undecided_of (Cut c) = string_bytes c.undecided
undecided_of _ = []
