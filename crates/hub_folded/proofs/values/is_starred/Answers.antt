use Rattle.std.proofs.Common.{◌-◌, arith}
use Rattle.hub_folded.proofs.LastName.{starred-last}
use Rattle.hub_folded.proofs.values.is_starred.Goals as goal

pub returns-then-len-gt0 : goal.returns-then-len-gt0
returns-then-len-gt0 c =
    starred-last c.args.path.now (c.len-then-len-gt0.result - 1) c.name.result.now c.text.result.now
    c.is_star.result c.name.ensures.name c.text.ensures.text c.text.ensures.valid (omega arith)
    c.is_star.ensures
