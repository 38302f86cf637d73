use Rattle.std.proofs.Common.{List, subst}
use Rattle.hub_job.specs.JobValue.{JobValue}
use Rattle.hub_history.specs.Book.{BookValue}
use Rattle.hub_runner.specs.Settling.{AreCompared}
use Rattle.hub_runner.proofs.settling.settle_jobs.Goals as goal

pub settle_all-requires : goal.settle_all-requires
settle_all-requires c =
    let S = c.args.state.now in
    let Ps = c.args.set.now.profiles in
    subst (λ (bs : List BookValue). AreCompared S Ps bs c.args.jobs.items) c.as_slice.ensures.value
    (subst (λ (Js : List JobValue). AreCompared S Ps c.as_slice.result.now Js) c.as_slice-2.ensures.value c.in_ok-compare.ensures.compared)
