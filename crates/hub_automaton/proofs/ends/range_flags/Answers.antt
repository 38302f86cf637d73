use Rattle.std.proofs.Common.{refl}
use Rattle.hub_automaton.specs.Ends.{end_flags}
use Rattle.hub_automaton.proofs.Endings.{flags_step}
use Rattle.hub_automaton.proofs.Loops.{rest_packed}
use Rattle.hub_automaton.proofs.ends.range_flags.Goals as goal

pub loop-i-preserved : goal.loop-i-preserved
loop-i-preserved c =
    flags_step c.args.from c.args.to c.loop-i.i c.args.alternatives.now c.is_in_range.result c.loop-i.flags.items c.push.new.self.items
    (end_flags c.args.from c.args.to 0 c.args.alternatives.now) c.loop-i-test.true c.is_in_range.ensures c.in_ok-push.ensures.items c.loop-i.invariant

pub returns : goal.returns
returns c =
    rest_packed (end_flags c.args.from c.args.to c.loop-i.i) c.args.alternatives.now c.loop-i.i c.loop-i.flags.items _ _ c.pack.result refl c.loop-i-test.false c.loop-i.invariant
    c.as_slice.ensures.value c.pack.ensures
