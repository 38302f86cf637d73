use Rattle.std.proofs.Common.{ap}
use Rattle.std.specs.Prelude.{map}
use Rattle.hub_cert.specs.Set.{Members, forbidden_by}
use Rattle.hub_schedule.specs.Promise.{IsAsIfAlone, IsAsPromised}
use Rattle.hub_schedule.specs.laws.Unchanged.{alone_none, promise_none}
use Rattle.hub_runner.proofs.Settlement.{settled_for}
use Rattle.hub_runner.proofs.settling.settle.Goals as goal

pub returns-clause-promise : goal.returns-clause-promise
returns-clause-promise c =
    settled_for IsAsPromised c.safe_sets_keep_their_promise.ensures.promise promise_none c.args.state.now (ap (λ (m : Members). m.profiles) c.set.ensures.value)
    (map forbidden_by c.args.verified.now.rules) c.args.books.items c.args.jobs.items c.settle_jobs.result c.settle_jobs.ensures.valid c.settle_jobs.ensures.profiles c.set.ensures.safe
    c.settle_jobs.ensures.settled c.settle_jobs.ensures.compared

pub returns-clause-alone : goal.returns-clause-alone
returns-clause-alone c =
    settled_for (λ S Ps Rs histories o. IsAsIfAlone S Ps o) c.safe_sets_keep_their_promise.ensures.alone (λ S Rs histories o settles. alone_none S o) c.args.state.now
    (ap (λ (m : Members). m.profiles) c.set.ensures.value) (map forbidden_by c.args.verified.now.rules) c.args.books.items c.args.jobs.items c.settle_jobs.result c.settle_jobs.ensures.valid
    c.settle_jobs.ensures.profiles c.set.ensures.safe c.settle_jobs.ensures.settled c.settle_jobs.ensures.compared
