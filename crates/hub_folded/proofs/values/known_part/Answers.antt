use Rattle.std.proofs.Common.{arith, ap, ◌++◌}
use Rattle.hub_folded.specs.Fold.{fold_name, knows}
use Rattle.hub_folded.specs.Lines.{known_part}
use Rattle.hub_folded.specs.Table.{unicode}
use Rattle.hub_folded.proofs.KnownParts.{part-ends, part-grows, part-stops}
use Rattle.hub_folded.proofs.Lists.{none-if, some-if}
use Rattle.hub_folded.proofs.values.known_part.Goals as goal

pub loop-i-init : goal.loop-i-init
loop-i-init c = ap (λ p. p ++ known_part unicode c.args.path.now) c.top-part.ensures

pub returns-in_default : goal.returns-in_default
returns-in_default c =
    let n = c.name.result.now in
    part-stops unicode c.args.path.now c.loop-i.i n c.name.ensures.name c.loop-i.part (known_part unicode c.args.path.now)
    c.loop-i.invariant
    (none-if (knows unicode n) (fold_name unicode n) c.in_ok-name.field-0 c.in_default.is c.in_ok-name.ensures)

pub loop-i-preserved : goal.loop-i-preserved
loop-i-preserved c =
    let n = c.name.result.now in
    let two = some-if (knows unicode n) (fold_name unicode n) c.in-Some.name c.in_ok-name.field-0 c.in-Some.is c.in_ok-name.ensures in
    part-grows unicode c.args.path.now c.loop-i.i n c.name.ensures.name c.loop-i.part (known_part unicode c.args.path.now)
    c.loop-i.invariant c.in_ok-part.part c.in-Some.name two.0 two.1 c.in_ok-part.ensures

pub returns : goal.returns
returns c =
    part-ends unicode c.args.path.now c.loop-i.i c.loop-i.part (known_part unicode c.args.path.now) (omega arith)
    c.loop-i.invariant
