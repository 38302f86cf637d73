use Rattle.std.proofs.lemmas.Option.{MatchOption-at_none, MatchOption-at_some}
use Rattle.hub_runner.proofs.Settlement.{are_compared, mismatch_is, stranger_is}
use Rattle.hub_runner.proofs.settling.compare.Goals as goal

pub returns-in-Some-find_inconsistent-clause-refused : goal.returns-in-Some-find_inconsistent-clause-refused
returns-in-Some-find_inconsistent-clause-refused c =
    stranger_is c.args.state.now c.profiles-profiles.ensures.value c.args.books.now c.args.jobs.now c.in_default.ensures.value c.in-Some-find_inconsistent.job c.in-Some-find_inconsistent.ensures

pub returns-in-Some-2-clause-refused : goal.returns-in-Some-2-clause-refused
returns-in-Some-2-clause-refused c =
    mismatch_is c.args.state.now c.profiles-profiles.ensures.value c.args.books.now c.args.jobs.now c.in_default.ensures.value c.in_default-find_inconsistent.ensures
    c.in_ok-mismatch.field-0 c.in-Some-2.root.now c.in-Some-2.job (MatchOption-at_some _ _ (c.in-Some-2.root, c.in-Some-2.job) c.in-Some-2.is c.in_ok-root.ensures) c.in_ok-mismatch.ensures

pub returns-clause-compared : goal.returns-clause-compared
returns-clause-compared c =
    are_compared c.args.state.now c.profiles-profiles.ensures.value c.args.books.now c.args.jobs.now c.in_default.ensures.value c.in_default-find_inconsistent.ensures
    (MatchOption-at_none _ _ c.in_default-2.is c.in_ok-root.ensures)
