use Rattle.std.proofs.Common.{ℕ, List, ◌∷◌, sym, ap, ◌∙◌}
use Rattle.std.proofs.lemmas.Result.{err_from_is_err_and}
use Rattle.hub_text.specs.Lines.{lines_of}
use Rattle.hub_text.specs.Takes.{of_bytes}
use Rattle.hub_state.proofs.Blocks.{at-first, at-next, at-last, at-fault}
use Rattle.hub_state.proofs.reader.take_lines.Goals as goal

pub loop-next-init : goal.loop-next-init
loop-next-init c = (
  at-first c.args.number.now c.args.draft.now c.args.bytes.now (of_bytes c.in-Some.first) c.into_iter-next-iterator.result
      (ap lines_of (sym c.new-lines.ensures) ∙ c.in-Some.ensures.steps ∙ ap (λ (t : List ℕ). of_bytes c.in-Some.first ∷ lines_of t) (sym c.into_iter-next-iterator.ensures.into_iter_gives)),
  c.requires.apart,
)

pub loop-next-preserved : goal.loop-next-preserved
loop-next-preserved c = (
  at-next c.args.number.now c.args.draft.now c.args.bytes.now c.loop-next.number c.loop-next.draft c.take_line_at.new.draft (of_bytes c.loop-next.line) (of_bytes c.in-Some-next.next) c.loop-next.next-iterator
      c.next-in-loop-next.new.self c.loop-next.invariant.0 c.in-Some-next.ensures.steps c.in_ok-take_line_at.ensures.ok,
  c.in_ok-take_line_at.ensures.apart,
)

pub returns-in_err-take_line_at-clause-err : goal.returns-in_err-take_line_at-clause-err
returns-in_err-take_line_at-clause-err c =
    let p = err_from_is_err_and c.from_residual.result c.from_residual.ensures.1 in
    rw (p.1, p.2)
    (at-fault c.args.number.now c.args.draft.now c.args.bytes.now c.loop-next.number c.loop-next.draft (of_bytes c.loop-next.line) (of_bytes c.in-Some-next.next) c.loop-next.next-iterator
    c.next-in-loop-next.new.self c.in_err-take_line_at.field-0.0 c.loop-next.invariant.0 c.in-Some-next.ensures.steps c.in_err-take_line_at.ensures.err)

pub returns-clause-left : goal.returns-clause-left
returns-clause-left c =
    at-last c.args.number.now c.args.draft.now c.args.bytes.now c.loop-next.number c.loop-next.draft (of_bytes c.loop-next.line) c.loop-next.next-iterator c.loop-next.invariant.0 c.in-None.ensures.steps
