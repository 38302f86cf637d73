use Rattle.std.proofs.Common.{◌∙◌, ◌≡◌, ◌&&◌, ◌==◌, Bool, List, ap, length, sym}
use Rattle.std.specs.Prelude.{string_bytes}
use Rattle.hub_cert.specs.declared.fault.CheckFault.{CheckFault}
use Rattle.hub_report.specs.Graph.{graph_text}
use Rattle.hub_serve.proofs.UnisonTold.{draws-told}
use Rattle.hub_serve.proofs.unison_clashes.report_on_graph.Goals as goal
use Rattle.hub_serve.proofs.unison_clashes.report_on_graph.Goals.{then-is_empty, else-is_empty}

pub returns-in-Ok-clause-holds : goal.returns-in-Ok-clause-holds
returns-in-Ok-clause-holds c =
    let archives = c.args.archives.now in
    let none : Bool = length archives == 0 in
    let lines : (length c.args.found.now.lines == 0) ≡ c.is_empty.result =
    sym (c.is_empty.ensures ∙ ap (λ (es : List CheckFault). length es == 0) c.as_slice-lines.ensures) in
    draws-told archives c.args.found.now (string_bytes c.in-Ok.text) c.if-is_empty.safe
    (c.in-Ok.ensures ∙ (λ i. graph_text (c.as_slice.ensures i) (c.as_slice-lines.ensures i) archives))
    (elim c.if-is_empty.branch [
      | then-is_empty w ↦ w.safe-is ∙ (w.is_empty-safe.ensures ∙ ap (λ b. b && none) (sym (lines ∙ w.if-is_empty.true)))
      | else-is_empty w ↦ w.safe-is ∙ (w.if-is_empty.false ∙ ap (λ b. b && none) (sym (lines ∙ w.if-is_empty.false)))
    ])
