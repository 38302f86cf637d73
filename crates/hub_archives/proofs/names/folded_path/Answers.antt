use Rattle.std.proofs.Common.{arith}
use Rattle.hub_archives.proofs.FoldedNames.{ends, grows, stops}
use Rattle.hub_archives.proofs.names.folded_path.Goals as goal

pub returns-in_default : goal.returns-in_default
returns-in_default c = stops c.args.path.now c.loop-i.i c.name.result.now c.in_ok-name.field-0 c.name.ensures.name c.in_default.is c.in_ok-name.ensures

pub loop-i-preserved : goal.loop-i-preserved
loop-i-preserved c =
    let two = grows c.args.path.now c.loop-i.i c.name.result.now c.in_ok-name.field-0 c.name.ensures.name c.in-Some.name c.loop-i.folded c.in_ok-folded.folded c.loop-i.invariant.folded c.loop-i.invariant.known c.in-Some.is c.in_ok-name.ensures c.in_ok-folded.ensures in
    record { folded = two.0; known = two.1 }

pub returns : goal.returns
returns c =
    ends c.args.path.now c.loop-i.i c.loop-i.folded (omega arith) c.loop-i.invariant.folded c.loop-i.invariant.known
