use Rattle.std.proofs.Common.{List, length, sym, subst}
use Rattle.std.specs.Prelude.{IfOk}
use Rattle.hub_profile.specs.Parts.{Parts}
use Rattle.hub_job.specs.JobValue.{JobValue}
use Rattle.hub_history.specs.Book.{BookValue}
use Rattle.hub_runner.specs.Order.{AllStandInOrder}
use Rattle.hub_runner.specs.Part.{AreOthers}
use Rattle.hub_runner.specs.Settling.{EndAsTheyAre, history_at}
use Rattle.hub_runner.specs.Working.{AreEnded}
use Rattle.hub_runner.proofs.Ending.{ended_by}
use Rattle.hub_runner.proofs.Ordering.{if_settled}
use Rattle.hub_runner.proofs.Waiting.{all_ended, if_others_wait}
use Rattle.hub_runner.proofs.part.run_jobs.Goals as goal

pub returns-clause-settled : goal.returns-clause-settled
returns-clause-settled g c =
    let books = c.in_ok-books.field-0.books.items in
    if_settled c.args.state.now c.args.set.now.profiles c.args.pairs.now books c.settle_jobs.result
    c.settle_jobs.ensures.settled
    (subst (λ (Bs : List BookValue). AllStandInOrder (length c.args.set.now.profiles) c.args.pairs.now Bs)
    c.as_slice.ensures.value c.in_ok-check_order.ensures.ordered)

pub returns-clause-rest : goal.returns-clause-rest
returns-clause-rest g c =
    let r = c.settle_jobs.result in
    let all = c.in_ok-jobs.ensures in
    if_others_wait c.args.state.now c.args.set.now.profiles (history_at c.in_ok-books.field-0.books.items)
    c.args.part.now c.in_ok-others.others.items c.in_ok-books.field-0.jobs.items r
    (subst (λ (Qs : List Parts). AreOthers c.args.part.now (length Qs) c.in_ok-others.others.items)
    c.profiles.ensures.value c.in_ok-others.ensures)
    c.settle_jobs.ensures.settled
    (subst (λ (Js : List JobValue). IfOk r (EndAsTheyAre Js)) all c.settle_jobs.ensures.ends)

pub returns-clause-ended : goal.returns-clause-ended
returns-clause-ended g c =
    let books = c.in_ok-books.field-0.books.items in
    let others = c.in_ok-others.others.items in
    let jobs = c.in_ok-books.field-0.jobs.items in
    let settled = c.settle_jobs.ensures in
    ended_by c.args.state.now c.args.set.now.profiles (history_at books) books c.in_ok-jobs.jobs.items
    c.settle_jobs.result settled.settled settled.compared settled.ends
    (subst (λ (Js : List JobValue). AreEnded Js) (sym c.in_ok-jobs.ensures)
    (all_ended others jobs c.in_ok-others.ensures.wait c.in_ok-books.ensures.over))
