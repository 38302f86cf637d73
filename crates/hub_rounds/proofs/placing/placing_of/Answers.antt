use Rattle.std.proofs.Common.{length, refl}
use Rattle.hub_rounds.proofs.Rivals.{stands-free}
use Rattle.hub_rounds.proofs.placing.placing_of.Goals as goal

pub returns-in_ok-round-in-None-clause-told : goal.returns-in_ok-round-in-None-clause-told
returns-in_ok-round-in-None-clause-told c = (c.in_ok-round-in-None.ensures.below, c.in-None.ensures.none refl)

pub returns-in_ok-round-in-None-clause-free : goal.returns-in_ok-round-in-None-clause-free
returns-in_ok-round-in-None-clause-free c =
    stands-free c.args.lines.now c.args.placed.now (length c.args.seen.now.items) (length c.args.placed.now) c.in_ok-round-in-None.round c.in_ok-round-in-None.ensures.free
