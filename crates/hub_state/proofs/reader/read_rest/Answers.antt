use Rattle.std.proofs.Common.{List, ℕ, subst}
use Rattle.std.specs.Prelude.{Option}
use denote.Ref.{Bor}
use Rattle.std.specs.Option.{option_map}
use Rattle.std.proofs.lemmas.Result.{err_from_is_err_and}
use Rattle.hub_text.specs.declared.line.Line.{Line}
use Rattle.hub_text.specs.Takes.{of_bytes}
use Rattle.hub_state.specs.Blocks.{Leaves}
use Rattle.hub_state.proofs.Blocks.{last-Ok, last-Err, stops-whole}
use Rattle.hub_state.proofs.reader.read_rest.Goals as goal

pub returns-in_err-last-clause-err : goal.returns-in_err-last-clause-err
returns-in_err-last-clause-err c =
    let p = err_from_is_err_and c.from_residual.result c.from_residual.ensures.1 in
    rw (p.1, p.2) (stops-whole c.args.number c.args.draft.now c.args.bytes.now c.in_err-last.field-0.0 c.in_err-last.ensures.err)

pub returns-in-Some-clause-ok : goal.returns-in-Some-clause-ok
returns-in-Some-clause-ok c =
    last-Ok c.args.number c.args.draft.now c.args.bytes.now c.take_lines.new.number c.take_lines.new.draft (of_bytes c.in-Some.line) c.take_last_at.result
    (subst (λ (o : Option (Line (Bor (List ℕ)))). Leaves c.args.number c.args.draft.now c.args.bytes.now c.take_lines.new.number c.take_lines.new.draft (option_map of_bytes o)) c.in-Some.is c.in_ok-last.ensures.left)
    c.take_last_at.ensures.ok

pub returns-in-Some-clause-err : goal.returns-in-Some-clause-err
returns-in-Some-clause-err c =
    last-Err c.args.number c.args.draft.now c.args.bytes.now c.take_lines.new.number c.take_lines.new.draft (of_bytes c.in-Some.line) c.take_last_at.result
    (subst (λ (o : Option (Line (Bor (List ℕ)))). Leaves c.args.number c.args.draft.now c.args.bytes.now c.take_lines.new.number c.take_lines.new.draft (option_map of_bytes o)) c.in-Some.is c.in_ok-last.ensures.left)
    c.take_last_at.ensures.err
