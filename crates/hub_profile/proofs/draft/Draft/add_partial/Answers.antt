use Rattle.std.proofs.Common.{chars, sym, arith}
use Rattle.std.proofs.lemmas.Result.{err_from_is_err_and}
use Rattle.hub_profile.proofs.PartialReadings.{line_added, line_refused}
use Rattle.hub_profile.proofs.draft.Draft.add_partial.Goals as goal

pub returns-in_err-line-clause-err : goal.returns-in_err-line-clause-err
returns-in_err-line-clause-err c =
    let p = err_from_is_err_and c.from_residual.result c.from_residual.ensures.1 in
    rw (p.1, p.2) (line_refused c.args.bars c.args.self.now _ c.args.number (chars c.args.value.now) c.in_err-line.field-0.0 (sym c.self.view_is) (omega (arith, c.len.ensures, c.if-len-ge-PARTIAL_LINES.false)) c.in_err-line.ensures.err)

pub returns-clause-ok : goal.returns-clause-ok
returns-clause-ok c =
    line_added c.args.bars c.args.self.now _ c.args.number (chars c.args.value.now) c.in_ok-line.line c.push.new.self.items (sym c.self.view_is) (omega (arith, c.len.ensures, c.if-len-ge-PARTIAL_LINES.false))
    c.in_ok-line.ensures.ok c.in_ok-push.ensures.items
