use Rattle.std.proofs.Common.{◌∙◌, List, refl, subst, sym}
use Rattle.hub_cert.specs.Set.{Members}
use Rattle.hub_cert.specs.declared.certificate.Certificate.{Certificate}
use Rattle.hub_bundle.specs.Sections.{members}
use Rattle.hub_serve.specs.declared.task.Task.TheVariants as task
use Rattle.hub_serve.specs.Told.{IsToldOfSet}
use Rattle.hub_serve.proofs.Told.{apart-told, lacks-state, refusal-told, set-told}
use Rattle.hub_serve.proofs.verdict.report_on_set.Goals as goal

pub returns-in_default-clause-told : goal.returns-in_default-clause-told
returns-in_default-clause-told g c = lacks-state c.args.question c.args.contents.state (sym c.in_default.ensures)

pub returns-then-puts_apart-clause-told : goal.returns-then-puts_apart-clause-told
returns-then-puts_apart-clause-told g c =
    let S = members c.args.contents in
    apart-told c.args.question c.args.contents c.in-Some.task (sym c.in-Some.ensures) c.report_on_rounds_apart.result
    (sym (c.puts_apart.ensures S (sym c.as_slice.ensures) (sym c.as_slice-2.ensures.value)) ∙ c.if-puts_apart.true)
    (λ put. subst (λ reading. IsToldOfSet (task.Rounds reading) S c.args.contents.certificates c.report_on_rounds_apart.result) c.reading.ensures
    (c.report_on_rounds_apart.ensures.told S refl refl put c.args.contents.certificates))

pub returns-in-Ok-clause-told : goal.returns-in-Ok-clause-told
returns-in-Ok-clause-told g c =
    let to_do = c.in-Some.task in
    let own = subst (λ (cs : List Certificate). IsToldOfSet to_do c.in-Ok.set cs c.report_on_made.result) c.as_slice-in-Ok.ensures c.report_on_made.ensures.told in
    set-told c.args.question c.args.contents to_do (sym c.in-Some.ensures) c.report_on_made.result
    (subst (λ (M : Members). IsToldOfSet to_do M c.args.contents.certificates c.report_on_made.result) c.in-Ok.ensures.ok own)

pub returns-clause-told : goal.returns-clause-told
returns-clause-told g c =
    let S = members c.args.contents in
    let refused = c.in-Err.ensures.err in
    refusal-told c.args.question c.args.contents c.in-Some.task (sym c.in-Some.ensures) c.in-Err.fault c.refusal_without_set.result refused
    (sym (c.puts_apart.ensures S (sym c.as_slice.ensures) (sym c.as_slice-2.ensures.value)) ∙ c.if-puts_apart.false) (c.refusal_without_set.ensures.refusal S refused)
