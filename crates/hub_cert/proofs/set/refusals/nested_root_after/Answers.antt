use Rattle.std.proofs.Common.{◌∙◌, get_or, sym, arith}
use Rattle.hub_cert.proofs.DistinctRoots.{all-after, none-after-more, none-at, number-at, root-at}
use Rattle.hub_cert.proofs.set.refusals.nested_root_after.Goals as goal

pub loop-second-preserved : goal.loop-second-preserved
loop-second-preserved c =
    let rs = c.args.roots.now in
    let ns = c.args.distinct.now in
    let k = c.args.first in
    let l = c.loop-second.second in
    let p = c.index-roots-distinct.result in
    let q = c.index-roots-distinct-in-loop-second.result in
    none-after-more rs ns k l
    (none-at rs ns k l (get_or ns k 0) (get_or ns l 0) p q (number-at ns k c.requires.first) (number-at ns l c.loop-second-test.true) (root-at rs ns k p c.requires.distinct c.requires.first c.index-roots-distinct.is)
    (root-at rs ns l q c.requires.distinct c.loop-second-test.true c.index-roots-distinct-in-loop-second.is) (sym c.is_nested.ensures ∙ c.if-is_nested.false))
    c.loop-second.invariant

pub returns : goal.returns
returns c = all-after c.args.roots.now c.args.distinct.now c.args.first c.loop-second.second (omega (arith, c.loop-second-test.false)) c.loop-second.invariant
