use Rattle.hub_folded.proofs.Places.{absent-by, found-by}
use Rattle.hub_folded.proofs.fold.image_of.Goals as goal

pub returns-in-Ok-clause-row : goal.returns-in-Ok-clause-row
returns-in-Ok-clause-row c =
    found-by c.args.c c.in-Ok.i c.binary_search.result c.binary_search.ensures.position c.in-Ok.is

pub returns-in-Err-clause-none : goal.returns-in-Err-clause-none
returns-in-Err-clause-none c =
    absent-by c.args.c c.in-Err.field-0 c.binary_search.result c.binary_search.ensures.position c.in-Err.is
