use Rattle.std.proofs.Common.{◌≡◌, true, false, inr, sym, ◌∙◌, subst}
use Rattle.std.specs.Prelude.{◌⊎◌, Result, Ok, Err, OnOk, IfErr}
use Rattle.hub_state.specs.declared.draft.Draft.{Draft}
use Rattle.hub_state.specs.declared.fault.Fault.{Fault}
use Rattle.hub_state.specs.declared.fault.Fault.TheVariants.{OutOfMemory}
use Rattle.hub_state.specs.Reading.{may_stand}
use Rattle.hub_state.specs.Taking.{section_of}
use Rattle.hub_state.proofs.Drafts.{line_taken-text, line_taken-ended, line_taken-misplaced, line_taken-bytes}
use Rattle.hub_state.proofs.draft.Draft.take.Goals as goal

pub returns-in_default-clause-err : goal.returns-in_default-clause-err
returns-in_default-clause-err c = inr (line_taken-bytes c.args.self.now c.args.line.now c.in_default.ensures.cases.0)

pub returns-then-self-clause-err : goal.returns-then-self-clause-err
returns-then-self-clause-err c =
    let text = c.in-Ok.ensures.cases in
    inr (line_taken-ended c.args.self.now c.args.line.now c.in-Ok.line.now c.in-Some.form c.in-Some.rest.now text.0 text.1 c.in-Some.ensures c.if-self.true)

pub returns-then-not-allows-clause-err : goal.returns-then-not-allows-clause-err
returns-then-not-allows-clause-err c =
    let text = c.in-Ok.ensures.cases in
    let misplaced : may_stand (section_of c.args.self.now.current) c.in-Some.form ≡ false = sym c.allows.ensures ∙ c.if-not-allows.true in
    inr (line_taken-misplaced c.args.self.now c.args.line.now c.in-Ok.line.now c.in-Some.form c.in-Some.rest.now text.0 text.1 c.in-Some.ensures misplaced)

pub returns-clause-ok : goal.returns-clause-ok
returns-clause-ok c =
    let text = c.in-Ok.ensures.cases in
    let stands : may_stand (section_of c.args.self.now.current) c.in-Some.form ≡ true = sym c.allows.ensures ∙ c.if-not-allows.false in
    let is = line_taken-text c.args.self.now c.args.line.now c.in-Ok.line.now c.in-Some.form c.in-Some.rest.now text.0 text.1 c.in-Some.ensures c.if-self.false stands in
    subst (λ (x : Result Draft Fault). OnOk c.take_form.result (x ≡ Ok c.take_form.new.self)) (sym is) c.take_form.ensures.ok

pub returns-clause-err : goal.returns-clause-err
returns-clause-err c =
    let text = c.in-Ok.ensures.cases in
    let stands : may_stand (section_of c.args.self.now.current) c.in-Some.form ≡ true = sym c.allows.ensures ∙ c.if-not-allows.false in
    let is = line_taken-text c.args.self.now c.args.line.now c.in-Ok.line.now c.in-Some.form c.in-Some.rest.now text.0 text.1 c.in-Some.ensures c.if-self.false stands in
    subst (λ (x : Result Draft Fault). IfErr c.take_form.result (λ f. (f ≡ OutOfMemory) ⊎ (x ≡ Err f))) (sym is) c.take_form.ensures.err
