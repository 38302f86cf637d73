use Rattle.std.proofs.Common.{◌∙◌, sym}
use Rattle.hub_cert.specs.declared.fault.CheckFault.{CheckFault}
use Rattle.hub_rounds.specs.Lines.{names_alone, subject_of, tells_breach}
use Rattle.hub_rounds.proofs.LineLists.{none-own}
use Rattle.hub_rounds.proofs.Reasons.{first-breach-tells, no-breach-tells, none-alone, own-line, some-breach, some-reason}
use Rattle.hub_rounds.proofs.placing.own_reason.Goals as goal

-- None of its lines is about it alone.
pub returns-then-not-has_own_line-clause-none : goal.returns-then-not-has_own_line-clause-none
returns-then-not-has_own_line-clause-none c = λ e.
    none-own c.args.lines.now c.args.own.now c.args.number c.requires (sym c.has_own_line.ensures ∙ c.if-not-has_own_line.true)

-- No line is.
pub returns-in_err-line-clause-none : goal.returns-in_err-line-clause-none
returns-in_err-line-clause-none c = λ e. none-alone c.args.lines.now c.args.number (sym c.in_err-line.ensures)

-- A line says that it breaks a rule.
pub returns-in-Some-clause-own : goal.returns-in-Some-clause-own
returns-in-Some-clause-own c =
    own-line (λ (e : CheckFault). tells_breach c.args.number (subject_of e)) c.args.lines.now c.args.number c.in-Some.own.now c.reason_of.result (sym c.in-Some.ensures) c.reason_of.ensures

pub returns-in-Some-clause-first : goal.returns-in-Some-clause-first
returns-in-Some-clause-first c =
    first-breach-tells c.args.lines.now c.args.number c.in-Some.own.now c.reason_of.result (sym c.in-Some.ensures) c.reason_of.ensures

pub returns-in-Some-clause-none : goal.returns-in-Some-clause-none
returns-in-Some-clause-none c = λ e.
    absurd (some-breach c.args.lines.now c.args.number c.in-Some.own.now c.reason_of.result (sym c.in-Some.ensures) c.reason_of.ensures e)

-- None says that.
pub returns-in-None-clause-own : goal.returns-in-None-clause-own
returns-in-None-clause-own c =
    own-line (λ (e : CheckFault). names_alone c.args.number (subject_of e)) c.args.lines.now c.args.number c.in_ok-line.line.now c.reason_of-in-None.result (sym c.in_ok-line.ensures) c.reason_of-in-None.ensures

pub returns-in-None-clause-first : goal.returns-in-None-clause-first
returns-in-None-clause-first c =
    no-breach-tells (λ (e : CheckFault). names_alone c.args.number (subject_of e)) c.args.lines.now c.args.number c.in_ok-line.line.now c.reason_of-in-None.result (sym c.in_ok-line.ensures) (sym c.in-None.ensures) c.reason_of-in-None.ensures

pub returns-in-None-clause-none : goal.returns-in-None-clause-none
returns-in-None-clause-none c = λ e.
    absurd (some-reason c.args.lines.now c.args.number c.in_ok-line.line.now c.reason_of-in-None.result (sym c.in_ok-line.ensures) c.reason_of-in-None.ensures e)
