use Rattle.std.proofs.Common.{◌≡◌, inl, inr, length, arith}
use Rattle.std.proofs.lemmas.Bool.{iff_false}
use Rattle.hub_runner.proofs.Differing.{book_is_right, job_is_right, root_is_right, wrong_book, wrong_job}
use Rattle.hub_runner.proofs.Splitting.{count_of_lists}
use Rattle.hub_runner.proofs.comparison.find_mismatch_at.Goals as goal

pub returns-in_default : goal.returns-in_default
returns-in_default c = wrong_book c.args.state.now c.args.set.now.profiles c.args.books.now c.args.jobs.now c.args.root.now (inl c.in_default.ensures)

pub returns-then-not-opens_as : goal.returns-then-not-opens_as
returns-then-not-opens_as c =
    wrong_book c.args.state.now c.args.set.now.profiles c.args.books.now c.args.jobs.now c.args.root.now
    (inr (c.in-Some.book.now, c.in-Some.ensures, iff_false c.opens_as.ensures c.if-not-opens_as.true))

pub loop-job-init : goal.loop-job-init
loop-job-init c =
    book_is_right c.args.state.now c.args.set.now.profiles c.args.books.now c.args.jobs.now c.args.root.now
    (c.in-Some.book.now, c.in-Some.ensures, c.opens_as.ensures.0 c.if-not-opens_as.false)

pub index-requires : goal.index-requires
index-requires c =
    let lists = c.in_ok-lists.lists in
    let count : length lists.items ≡ length c.profiles-profiles.result.now = count_of_lists (length c.profiles-profiles.result.now) lists.items c.history.result.now c.in_ok-lists.ensures in
    let vec = lists.ok.0 in
    let inside = c.loop-job-test.true in
    omega (arith, count, vec, inside)

pub returns-then-branch : goal.returns-then-branch
returns-then-branch c =
    wrong_job c.args.state.now c.args.set.now.profiles c.args.books.now c.args.jobs.now c.args.root.now c.in-Some.book.now c.in-Some.ensures
    c.profiles-profiles.ensures.value c.history.ensures.value c.in_ok-lists.ensures c.loop-job.job c.loop-job-test.true c.index-profiles-job.is c.index.ensures c.as_slice.ensures
    c.loop-job.invariant c.in_ok-differs.field-0 c.in_ok-differs.ensures c.if-branch.true

pub loop-job-preserved : goal.loop-job-preserved
loop-job-preserved c =
    job_is_right c.args.state.now c.args.set.now.profiles c.args.books.now c.args.jobs.now c.args.root.now c.in-Some.book.now c.in-Some.ensures
    c.profiles-profiles.ensures.value c.history.ensures.value c.in_ok-lists.ensures c.loop-job.job c.loop-job-test.true c.index-profiles-job.is c.index.ensures c.as_slice.ensures
    c.loop-job.invariant c.in_ok-differs.field-0 c.in_ok-differs.ensures c.if-branch.false

pub returns : goal.returns
returns c =
    root_is_right c.args.state.now c.args.set.now.profiles c.args.books.now c.args.jobs.now c.args.root.now c.profiles-profiles.result.now c.loop-job.job
    c.profiles-profiles.ensures.value c.loop-job-test.false c.loop-job.invariant
