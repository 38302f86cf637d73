use Rattle.hub_schedule.proofs.Joined.{after_turns, shown, tree_numbers}
use Rattle.hub_schedule.proofs.schedule.run_schedule.Goals as goal

pub take_turns-requires-clause-placed : goal.take_turns-requires-clause-placed
take_turns-requires-clause-placed c = tree_numbers c.in_ok-slots.ensures.table

pub outcome_of-requires : goal.outcome_of-requires
outcome_of-requires c = shown c.args.state.now c.args.profiles.now c.in_ok-slots.ensures.table c.take_turns.ensures.turns

pub returns : goal.returns
returns c =
    after_turns c.args.state.now c.args.profiles.now c.in_ok-slots.ensures.table c.take_turns.ensures.turns c.outcome_of.result c.in_ok-slots.ensures.going
    c.take_turns.ensures.more c.requires.there c.outcome_of.ensures.outcome
