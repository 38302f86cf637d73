use Rattle.std.proofs.Common.{◌≡◌, ℕ, ◌+◌, List, ◌∷◌, Err, sym, ap, ap₂, ◌∙◌, inl, inr, arith}
use Rattle.std.proofs.lemmas.Result.{err_from_is_err_and}
use Rattle.hub_text.specs.Lines.{lines_of}
use Rattle.hub_text.specs.Takes.{of_bytes}
use Rattle.hub_bundle.specs.Bundle.{SectionValue, written, heading_below, heading_reading, sections_reading}
use Rattle.hub_text.specs.laws.Line.{shorter-first_line}
use Rattle.hub_bundle.proofs.Headings.{one_section_more, faulty_section}
use Rattle.hub_bundle.proofs.bundle.read_bundle.Goals as goal

pub returns-in_err-heading-clause-err : goal.returns-in_err-heading-clause-err
returns-in_err-heading-clause-err c =
    let p = err_from_is_err_and c.from_residual.result c.from_residual.ensures.1 in
    let before = c.loop-line.invariant in
    let l = of_bytes c.in-Some-next.line in
    let fault = c.in_err-heading.field-0.0.fault in
    let says = ap₂ (λ (ss : List SectionValue) (t : List ℕ). heading_below ss (heading_reading t)) (sym c.as_slice.ensures.value) (sym c.without_last_cr-text.ensures) in
    rw (p.1, p.2) (elim c.in_err-heading.ensures.err [
      | inl h ↦ inl h
      | inr h ↦ inr (before.read ∙ faulty_section c.loop-line.sections.items (c.loop-line.above + 1) c.loop-line.lines c.next.new.self l fault c.in-Some-next.ensures.steps before.next (says ∙ h.1) ∙ ap (λ n. Err (record { line = n; fault = fault })) (sym h.0))
    ])

pub returns-clause-ok : goal.returns-clause-ok
returns-clause-ok c =
    let ss = c.loop-line.sections.items in
    c.loop-line.invariant.read ∙ ap (λ bs. sections_reading ss (written (c.loop-line.above + 1) (lines_of bs))) c.in_default-next.ensures.steps

pub loop-line-preserved : goal.loop-line-preserved
loop-line-preserved c =
    let before = c.loop-line.invariant in
    let s = c.loop-line.lines in
    let t = c.next.new.self in
    let u = c.take_section-count.new.lines in
    let l = of_bytes c.in-Some-next.line in
    let e : lines_of s ≡ l ∷ lines_of t = c.in-Some-next.ensures.steps in
    let above = c.loop-line.above in
    let count = c.take_section-count.result.1 in
    let says = ap₂ (λ (ss : List SectionValue) (t : List ℕ). heading_below ss (heading_reading t)) (sym c.as_slice.ensures.value) (sym c.without_last_cr-text.ensures) ∙ c.in_ok-heading.ensures.ok in
    record {
      read = before.read ∙ one_section_more c.loop-line.sections.items (above + 1) (above + (count + 1) + 1) count s t u c.take_section-count.result.0.now l c.in_ok-heading.heading e before.next says c.take_section-count.ensures.bytes c.take_section-count.ensures.below (omega arith) ∙ ap (λ ss. sections_reading ss (written (above + (count + 1) + 1) (lines_of u))) (sym c.in_ok-push.ensures.items);
      next = c.take_section-count.ensures.next;
      fewer = omega (arith, before.fewer, shorter-first_line s t l e, c.take_section-count.ensures.fewer);
    }
