use Rattle.std.proofs.Common.{◌≡◌, List, None, Some, subst, sym}
use Rattle.std.specs.List.{find}
use Rattle.hub_cert.specs.declared.fault.CheckFault.{CheckFault}
use Rattle.hub_serve.specs.declared.task.Task.TheVariants as task
use Rattle.hub_serve.specs.ByRounds.{leaves_out}
use Rattle.hub_serve.proofs.ByRounds.{first-alone}
use Rattle.hub_serve.proofs.Told.{refused-told}
use Rattle.hub_serve.proofs.by_rounds.report_on_run_by_rounds.Goals as goal

pub returns-in-Some-clause-told : goal.returns-in-Some-clause-told
returns-in-Some-clause-told g c = λ cs.
    let line = c.in-Some.line.now in
    let found = subst (λ (es : List CheckFault). find leaves_out es ≡ Some line) c.lines.ensures (sym c.in-Some.ensures) in
    refused-told (task.RunByRounds c.args.workers c.args.state) c.args.set cs line c.refusal.result
    (first-alone c.args.set c.in-Ok.clashes line c.in-Ok.ensures.lines c.in-Ok.ensures.disproved found) c.refusal.ensures.refusal

pub returns-clause-told : goal.returns-clause-told
returns-clause-told g c =
    let none = subst (λ (es : List CheckFault). find leaves_out es ≡ None) c.lines.ensures (sym c.in-None.ensures) in
    c.report_on_all.ensures.told c.in-Ok.ensures.lines none
