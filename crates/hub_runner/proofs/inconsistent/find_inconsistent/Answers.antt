use Rattle.std.proofs.Common.{◌≡◌, length, subst, arith}
use Rattle.std.proofs.lemmas.Bool.{iff_false}
use Rattle.hub_runner.proofs.InconsistentJobs.{DueUpTo, due_more, inconsistent_by_one, inconsistent_by_count, inconsistent_by_least}
use Rattle.hub_runner.proofs.inconsistent.find_inconsistent.Goals as goal

pub returns-then-not-are_of : goal.returns-then-not-are_of
returns-then-not-are_of c =
    inconsistent_by_one c.args.state.now c.args.profiles.now c.args.jobs.now c.loop-number.number c.loop-number.invariant c.loop-number-test.true c.index-profiles-number.is
    c.archive_of-archive.ensures c.if-not-are_of.ensures

pub returns-then-not-has_one : goal.returns-then-not-has_one
returns-then-not-has_one c =
    inconsistent_by_count c.args.state.now c.args.profiles.now c.args.jobs.now c.loop-number.number c.loop-number.invariant c.loop-number-test.true c.index-profiles-number.is
    c.archive_of-archive.ensures (iff_false c.has_one.ensures c.if-not-has_one.true)

pub loop-number-preserved : goal.loop-number-preserved
loop-number-preserved c =
    due_more c.args.state.now c.args.profiles.now c.args.jobs.now c.loop-number.number c.loop-number.invariant c.loop-number-test.true c.index-profiles-number.is
    c.archive_of-archive.ensures c.if-not-are_of.ensures (c.has_one.ensures.0 c.if-not-has_one.false)

pub returns : goal.returns
returns c =
    let S = c.args.state.now in
    let Ps = c.args.profiles.now in
    let jobs = c.args.jobs.now in
    let past = c.loop-number-test.false in
    let end = c.loop-number.auto.number-end in
    let all : c.loop-number.number ≡ length Ps = omega arith in
    inconsistent_by_least S Ps jobs c.find_least.result c.find_least.ensures (subst (DueUpTo S Ps jobs) all c.loop-number.invariant)
