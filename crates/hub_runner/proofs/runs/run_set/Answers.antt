use Rattle.hub_runner.specs.Settling.{history_at}
use Rattle.hub_runner.proofs.Ending.{ended_by}
use Rattle.hub_runner.proofs.runs.run_set.Goals as goal

pub returns-clause-ended : goal.returns-clause-ended
returns-clause-ended g c =
    let books = c.in_ok-books.field-0.books.items in
    let settled = c.settle.ensures in
    ended_by c.args.state.now c.args.verified.now.profiles (history_at books) books c.in_ok-books.field-0.jobs.items c.settle.result
    settled.settled settled.compared settled.ends c.in_ok-books.ensures.over
