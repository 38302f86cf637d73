use Rattle.std.proofs.Common.{◌+◌, subst, sym}
use Rattle.hub_starter.proofs.Rising.{FollowsSome, follows_all, follows_more, follows_none}
use Rattle.hub_starter.proofs.waves.next_wave.Goals as goal

pub loop-pair-init : goal.loop-pair-init
loop-pair-init c = follows_none c.args.profiles.now c.args.pairs.now c.args.numbers.now

pub loop-pair-preserved : goal.loop-pair-preserved
loop-pair-preserved c =
    subst (λ m. FollowsSome c.args.profiles.now c.args.pairs.now c.args.numbers.now (c.loop-pair.pair-index + 1) m)
    (sym c.later_of-next.ensures)
    (follows_more c.args.profiles.now c.args.pairs.now c.args.numbers.now c.loop-pair.pair-index c.loop-pair.next
    c.wave_after.result (record { earlier = 0; later = 0 }) c.loop-pair-test.true c.loop-pair.invariant
    c.wave_after.ensures)

pub returns : goal.returns
returns c =
    follows_all c.args.profiles.now c.args.pairs.now c.args.numbers.now c.loop-pair.pair-index c.loop-pair.next
    c.loop-pair-test.false c.loop-pair.invariant
