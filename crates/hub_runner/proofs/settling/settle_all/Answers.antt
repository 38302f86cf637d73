use Rattle.std.proofs.Common.{ℕ, length, ap, sym, subst}
use Rattle.hub_runner.specs.forms.Ordered.{AreNumbered}
use Rattle.hub_runner.proofs.Fitting.{all_end, all_settle, are_numbered, fit_together}
use Rattle.hub_runner.proofs.settling.settle_all.Goals as goal

pub in_order-requires : goal.in_order-requires
in_order-requires c =
    subst (λ (n : ℕ). AreNumbered n c.args.jobs.items) (ap length (sym c.profiles-profiles.ensures.value))
    (are_numbered c.args.state.now c.args.set.now.profiles c.args.jobs.items c.requires.due)

pub outcome_of_jobs-requires : goal.outcome_of_jobs-requires
outcome_of_jobs-requires c =
    fit_together c.args.state.now c.profiles-profiles.ensures.value c.args.books.items c.args.jobs.items c.requires c.profiles-profiles.ensures.valid
    c.in_ok-trees.ensures c.in_ok-ordered.ensures

pub returns-clause-settled : goal.returns-clause-settled
returns-clause-settled c =
    all_settle c.args.state.now c.profiles-profiles.ensures.value c.args.books.items c.args.jobs.items c.requires c.profiles-profiles.ensures.valid
    c.in_ok-trees.ensures c.in_ok-ordered.ensures c.outcome_of_jobs.result c.outcome_of_jobs.ensures.ends c.outcome_of_jobs.ensures.outcome

pub returns-clause-ends : goal.returns-clause-ends
returns-clause-ends c =
    all_end c.args.state.now c.profiles-profiles.ensures.value c.args.books.items c.args.jobs.items c.requires c.profiles-profiles.ensures.valid
    c.in_ok-trees.ensures c.in_ok-ordered.ensures c.outcome_of_jobs.result c.outcome_of_jobs.ensures.ends
