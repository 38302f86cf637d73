use Rattle.std.proofs.Common.{arith}
use Rattle.hub_text.specs.laws.List.{at-place}
use Rattle.hub_rounds.specs.Lines.{subject_of}
use Rattle.hub_rounds.proofs.LineLists.{about-second}
use Rattle.hub_rounds.proofs.placing.is_free_for.Goals as goal

pub loop-line-init : goal.loop-line-init
loop-line-init c = λ k m l at. absurd (omega (arith, l))

pub returns : goal.returns
returns c = λ t j stands pair.
    let past = c.loop-line-test.false in
    let w = at-place c.args.lines.now pair.0 pair.1 in
    let own = at-place c.args.own.now w.0 (c.requires w.0 pair.0 w.2 (about-second j c.args.number (subject_of pair.0) pair.2)) in
    let below = own.1 in
    c.loop-line.invariant own.0 w.0 (omega (arith, below, past)) own.2 pair.0 w.2 j stands pair.2
