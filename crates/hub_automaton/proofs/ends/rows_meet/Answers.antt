use Rattle.std.proofs.Common.{◌∙◌, sym, arith}
use Rattle.hub_automaton.proofs.Endings.{meets_end}
use Rattle.hub_automaton.proofs.ends.rows_meet.Goals as goal

pub returns : goal.returns
returns c = sym (meets_end c.args.row.now c.args.mask.now c.loop-i.i (omega (arith, c.loop-i-test.false, c.min-i-end.ensures))) ∙ c.loop-i.invariant
