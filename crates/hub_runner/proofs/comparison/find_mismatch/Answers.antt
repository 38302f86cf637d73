use Rattle.std.proofs.Common.{ap, ◌∙◌}
use Rattle.hub_runner.specs.Settling.{roots_of}
use Rattle.hub_runner.proofs.RootPlaces.{roots_are_right, roots_more, wrong_root}
use Rattle.hub_runner.proofs.comparison.find_mismatch.Goals as goal

pub returns-in-Some : goal.returns-in-Some
returns-in-Some c =
    wrong_root c.args.state.now c.args.set.now.profiles c.args.books.now c.args.jobs.now c.as_slice-borrowed-items.result.now c.loop-borrowed.borrowed-index c.loop-borrowed.invariant
    c.loop-borrowed-test.true c.borrowed-item.is c.item-root.ensures c.in_ok-job.ensures c.in-Some.job c.in-Some.is
    (c.as_slice-borrowed-items.ensures.value ∙ (c.in_ok-roots.ensures ∙ ap roots_of c.profiles.ensures.value))

pub loop-borrowed-preserved : goal.loop-borrowed-preserved
loop-borrowed-preserved c =
    roots_more c.args.state.now c.args.set.now.profiles c.args.books.now c.args.jobs.now c.as_slice-borrowed-items.result.now c.loop-borrowed.borrowed-index c.loop-borrowed.invariant
    c.loop-borrowed-test.true c.borrowed-item.is c.item-root.ensures c.in_ok-job.ensures c.in_default.is

pub returns : goal.returns
returns c =
    roots_are_right c.args.state.now c.args.set.now.profiles c.args.books.now c.args.jobs.now c.as_slice-borrowed-items.result.now c.loop-borrowed.borrowed-index c.loop-borrowed.invariant
    c.loop-borrowed-test.false (c.as_slice-borrowed-items.ensures.value ∙ (c.in_ok-roots.ensures ∙ ap roots_of c.profiles.ensures.value))
