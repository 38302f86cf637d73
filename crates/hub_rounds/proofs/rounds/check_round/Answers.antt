use Rattle.hub_rounds.specs.laws.Rounds.{refused-by-check}
use Rattle.hub_rounds.proofs.rounds.check_round.Goals as goal

pub returns-in-Err-clause-refused : goal.returns-in-Err-clause-refused
returns-in-Err-clause-refused c = c.fault_of.ensures c.args.set.now (refused-by-check c.args.set.now c.in-Err.fault c.in-Err.ensures.refused)
