use Rattle.hub_schedule.proofs.Kept.{alone_kept, promise_kept}
use Rattle.hub_schedule.proofs.promise.safe_sets_keep_their_promise.Goals as goal

pub returns : goal.returns
returns c =
    let four = c.jobs_leave_each_other_alone.ensures in
    record {
      promise = promise_kept four.logs four.others four.own four.elsewhere c.each_set_is_allowed.ensures;
      alone = alone_kept four.logs four.own;
    }
