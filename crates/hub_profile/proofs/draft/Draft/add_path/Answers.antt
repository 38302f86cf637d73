use Rattle.std.proofs.Common.{chars, sym, arith}
use Rattle.std.proofs.lemmas.Result.{err_from_is_err_and}
use Rattle.hub_profile.proofs.Additions.{path_more, path_refused}
use Rattle.hub_profile.proofs.draft.Draft.add_path.Goals as goal

pub returns-clause-ok : goal.returns-clause-ok
returns-clause-ok c =
    path_more c.args.self.now _ (chars c.args.value.now) c.in_ok-path.path c.push.new.self.items (sym c.self.view_is) (omega (arith, c.len.ensures, c.if-len-ge-PATH_LINES.false))
    c.in_ok-path.ensures.ok c.in_ok-push.ensures.items

pub returns-in_err-path-clause-err : goal.returns-in_err-path-clause-err
returns-in_err-path-clause-err c =
    let p = err_from_is_err_and c.from_residual.result c.from_residual.ensures.1 in
    rw p.1 (path_refused c.args.self.now _ (chars c.args.value.now) c.in_err-path.field-0.0 p.0 p.2 (sym c.self.view_is) (omega (arith, c.len.ensures, c.if-len-ge-PATH_LINES.false)) c.in_err-path.ensures.err)
