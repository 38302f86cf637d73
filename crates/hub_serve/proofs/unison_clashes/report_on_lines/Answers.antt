use Rattle.std.proofs.Common.{◌∙◌, ◌≡◌, ◌==◌, List, ap, length, refl, sym}
use Rattle.std.specs.Prelude.{ℕ, string_bytes}
use Rattle.std.proofs.lemmas.Bool.{false≢true}
use Rattle.hub_cert.specs.declared.fault.CheckFault.{CheckFault}
use Rattle.hub_report.specs.InUnison.{all_lines_in}
use Rattle.hub_serve.specs.declared.unison_question.UnisonQuestion.TheVariants as unison
use Rattle.hub_serve.proofs.Told.{none-in}
use Rattle.hub_serve.proofs.UnisonTold.{lists-told, nothing-told}
use Rattle.hub_serve.proofs.unison_clashes.report_on_lines.Goals as goal
use Rattle.hub_serve.proofs.unison_clashes.report_on_lines.Goals.{else-is_empty-via-then-is_empty+else-is_empty-2, else-is_empty-via-else-is_empty}

pub returns-then-is_empty-2-clause-holds : goal.returns-then-is_empty-2-clause-holds
returns-then-is_empty-2-clause-holds c =
    let found = c.args.found.now in
    let archives = c.args.archives.now in
    let lines : (length found.lines == 0) ≡ c.is_empty.result =
    sym (c.is_empty.ensures ∙ ap (λ (es : List CheckFault). length es == 0) c.as_slice-lines.ensures) in
    nothing-told unison.Clashes archives found refl (none-in found.lines (lines ∙ c.if-is_empty.true))
    (none-in archives (sym c.is_empty-then-is_empty.ensures ∙ c.if-is_empty-2.true))

pub returns-in-Ok-lines_in_unison-clause-holds : goal.returns-in-Ok-lines_in_unison-clause-holds
returns-in-Ok-lines_in_unison-clause-holds c =
    let found = c.args.found.now in
    let archives = c.args.archives.now in
    let lines : (length found.lines == 0) ≡ c.is_empty.result =
    sym (c.is_empty.ensures ∙ ap (λ (es : List CheckFault). length es == 0) c.as_slice-lines.ensures) in
    lists-told archives found (string_bytes c.in-Ok-lines_in_unison.text)
    (λ none no_archive. elim c.else-is_empty.branch [
      | else-is_empty-via-then-is_empty+else-is_empty-2 w ↦
          false≢true (sym w.if-is_empty-2.false ∙ (w.is_empty-then-is_empty.ensures ∙ ap (λ (xs : List (ℕ × ℕ)). length xs == 0) no_archive))
      | else-is_empty-via-else-is_empty w ↦ false≢true (sym w.if-is_empty.false ∙ (sym lines ∙ ap (λ (es : List CheckFault). length es == 0) none))
    ])
    (c.in-Ok-lines_in_unison.ensures ∙ (λ i. all_lines_in (c.as_slice.ensures i) (c.as_slice-rules.ensures.value i) (c.as_slice-lines.ensures i) archives))
