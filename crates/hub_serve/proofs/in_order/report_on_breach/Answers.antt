use Rattle.std.proofs.Common.{◌≡◌, List, None, Some, inr, refl, subst, sym}
use Rattle.std.specs.List.{find}
use Rattle.hub_cert.specs.declared.fault.CheckFault.{CheckFault}
use Rattle.hub_serve.specs.declared.task.Task.TheVariants as task
use Rattle.hub_serve.specs.ByRounds.{leaves_out}
use Rattle.hub_serve.proofs.ByRounds.{first-alone}
use Rattle.hub_serve.proofs.Told.{refused-told}
use Rattle.hub_serve.proofs.in_order.report_on_breach.Goals as goal

pub returns-in-Some-clause-told : goal.returns-in-Some-clause-told
returns-in-Some-clause-told c = λ n S may cs.
    let line = c.in-Some.line.now in
    let found = subst (λ (es : List CheckFault). find leaves_out es ≡ Some line) c.lines.ensures (sym c.in-Some.ensures) in
    refused-told (task.RunInOrder n S) c.args.set.now cs line c.refusal.result
    (first-alone c.args.set.now c.in-Ok.clashes line c.in-Ok.ensures.lines c.in-Ok.ensures.disproved found) c.refusal.ensures.refusal

pub returns-clause-told : goal.returns-clause-told
returns-clause-told c = λ n S may cs.
    let none = subst (λ (es : List CheckFault). find leaves_out es ≡ None) c.lines.ensures (sym c.in-None.ensures) in
    inr (record { workers = n; state = S; task_is = refl; refused = may; faults = c.in-Ok.clashes; all = c.in-Ok.ensures.lines; none = none })
