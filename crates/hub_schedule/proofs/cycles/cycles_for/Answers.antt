use Rattle.std.proofs.Common.{◌≡◌, length, subst, arith}
use Rattle.hub_schedule.proofs.InCycles.{AreCycles, enough, one_more}
use Rattle.hub_schedule.proofs.cycles.cycles_for.Goals as goal

pub loop-preserved : goal.loop-preserved
loop-preserved c =
    one_more (length c.args.profiles.now) c.loop.counter c.loop.schedule.items c.push_cycle.new.schedule.items c.loop.invariant c.in_ok-push_cycle.ensures

pub returns-clause-enough : goal.returns-clause-enough
returns-clause-enough c =
    let met : c.loop.counter ≡ c.in-Some.cycles = omega (arith, c.loop-test.false, c.loop.auto.counter-end) in
    enough c.args.state.now c.args.profiles.now c.in-Some.cycles c.loop.schedule.items
    (subst (λ n. AreCycles (length c.args.profiles.now) n c.loop.schedule.items) met c.loop.invariant) c.in-Some.ensures
