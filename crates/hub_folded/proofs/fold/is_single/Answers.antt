use Rattle.std.proofs.Common.{sym, ◌∙◌}
use Rattle.hub_folded.proofs.Known.{single-absent, single-ascii, single-found}
use Rattle.hub_folded.proofs.fold.is_single.Goals as goal

pub returns-then-is_ascii : goal.returns-then-is_ascii
returns-then-is_ascii c = single-ascii c.args.c (sym c.is_ascii.ensures ∙ c.if-is_ascii.true)

pub returns-in-Ok : goal.returns-in-Ok
returns-in-Ok c =
    single-found c.args.c c.in-Ok.i c.binary_search.result
    (sym c.is_ascii.ensures ∙ c.if-is_ascii.false) c.binary_search.ensures.position c.in-Ok.is

pub returns-in-Err : goal.returns-in-Err
returns-in-Err c =
    single-absent c.args.c c.in-Err.field-0 c.binary_search.result
    (sym c.is_ascii.ensures ∙ c.if-is_ascii.false) c.binary_search.ensures.position c.in-Err.is
