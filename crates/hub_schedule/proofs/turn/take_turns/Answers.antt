use Rattle.std.proofs.Common.{◌∙◌}
use Rattle.std.specs.Prelude.{slice_index_or}
use Rattle.std.proofs.lemmas.Option.{slice_get-get_or}
use Rattle.std.proofs.lemmas.List.{drop_all}
use Rattle.hub_schedule.specs.laws.Lists.{drop_at}
use Rattle.hub_schedule.proofs.Thinned.{taken_all, taken_as, taken_more}
use Rattle.hub_schedule.proofs.turn.take_turns.Goals as goal

pub loop-number-preserved : goal.loop-number-preserved
loop-number-preserved c =
    let js = c.args.schedule.now in
    let n = c.loop-number.number-index in
    let inv = c.loop-number.invariant in
    let left = drop_at js n (slice_index_or js n 0) (slice_get-get_or js n 0 c.loop-number-test.true) in
    record {
      taken = taken_more (taken_as left inv.taken) c.take_turn.ensures.turn c.take_turn.ensures.stays c.take_turn.ensures.others;
      placed = c.take_turn.ensures.placed;
      count = c.take_turn.ensures.count ∙ inv.count;
      more = λ h. c.take_turn.ensures.more (inv.more h);
    }

pub returns-clause-turns : goal.returns-clause-turns
returns-clause-turns c = taken_all (taken_as (drop_all c.loop-number.number-index c.args.schedule.now c.loop-number-test.false) c.loop-number.invariant.taken)
