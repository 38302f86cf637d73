use Rattle.std.proofs.Common.{arith, get_or}
use Rattle.std.proofs.lemmas.Option.{slice_get_within}
use Rattle.hub_cert.proofs.DistinctRoots.{first-nested, none-below-more, none-nested, number-at}
use Rattle.hub_cert.proofs.set.refusals.nested_among.Goals as goal

pub loop-first-preserved : goal.loop-first-preserved
loop-first-preserved c = none-below-more c.args.roots.now c.args.distinct.now c.requires c.loop-first.first c.in_default.ensures c.loop-first.invariant

pub returns : goal.returns
returns c = none-nested c.args.roots.now c.args.distinct.now c.requires c.loop-first.first (omega (arith, c.loop-first-test.false)) c.loop-first.invariant

pub returns-in-Some : goal.returns-in-Some
returns-in-Some c =
    let rs = c.args.roots.now in
    let ns = c.args.distinct.now in
    let k = c.loop-first.first in
    let l = c.in-Some.second in
    let found = c.in-Some.ensures in
    let within = slice_get_within ns l found.1.1 found.1.3 in
    first-nested rs ns c.requires k l (get_or ns k 0) (get_or ns l 0) (number-at ns k c.loop-first-test.true) (number-at ns l within) found.0 found.1 found.2 c.loop-first.invariant
