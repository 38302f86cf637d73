use Rattle.hub_serve.specs.declared.task.Task.TheVariants as task
use Rattle.hub_serve.proofs.Told.{done-told}
use Rattle.hub_serve.proofs.verdict.report_on_made.Goals as goal

pub returns-in-Check-clause-told : goal.returns-in-Check-clause-told
returns-in-Check-clause-told g c =
    let own = c.args.own.now in
    let to_do = task.Check c.in-Check.reading in
    done-told c.args.task to_do c.args.set own c.or_refusal.result c.in-Check.is
    (c.or_refusal.ensures.told to_do own (c.report_on_safety.ensures.told own) (c.report_on_safety.ensures.refused own))

pub returns-in-RunJobs-clause-told : goal.returns-in-RunJobs-clause-told
returns-in-RunJobs-clause-told g c =
    let own = c.args.own.now in
    let to_do = task.RunJobs c.in-RunJobs.workers c.in-RunJobs.state in
    done-told c.args.task to_do c.args.set own c.or_refusal-in-RunJobs.result c.in-RunJobs.is
    (c.or_refusal-in-RunJobs.ensures.told to_do own (c.report_on_jobs.ensures.told own) (c.report_on_jobs.ensures.refused own))

pub returns-in-RunByRounds-clause-told : goal.returns-in-RunByRounds-clause-told
returns-in-RunByRounds-clause-told g c =
    let own = c.args.own.now in
    let to_do = task.RunByRounds c.in-RunByRounds.workers c.in-RunByRounds.state in
    done-told c.args.task to_do c.args.set own c.report_on_run_by_rounds.result c.in-RunByRounds.is (c.report_on_run_by_rounds.ensures.told own)

pub returns-in-RunInOrder-clause-told : goal.returns-in-RunInOrder-clause-told
returns-in-RunInOrder-clause-told g c =
    let own = c.args.own.now in
    let to_do = task.RunInOrder c.in-RunInOrder.workers c.in-RunInOrder.state in
    done-told c.args.task to_do c.args.set own c.report_on_run_in_order.result c.in-RunInOrder.is (c.report_on_run_in_order.ensures.told own)

pub returns-in-Certify-clause-told : goal.returns-in-Certify-clause-told
returns-in-Certify-clause-told g c =
    let own = c.args.own.now in
    done-told c.args.task task.Certify c.args.set own c.or_refusal-in-Certify.result c.in-Certify.is
    (c.or_refusal-in-Certify.ensures.told task.Certify own (c.report_with_certificates.ensures.told own) (c.report_with_certificates.ensures.refused own))

pub returns-in-Verify-clause-told : goal.returns-in-Verify-clause-told
returns-in-Verify-clause-told g c =
    let own = c.args.own.now in
    done-told c.args.task task.Verify c.args.set own c.or_refusal-in-Verify.result c.in-Verify.is
    (c.or_refusal-in-Verify.ensures.told task.Verify own c.report_on_certificates.ensures.told c.report_on_certificates.ensures.refused)

pub returns-in-Clashes-clause-told : goal.returns-in-Clashes-clause-told
returns-in-Clashes-clause-told g c =
    let own = c.args.own.now in
    done-told c.args.task (task.Clashes c.in-Clashes.reading) c.args.set own c.report_on_clashes.result c.in-Clashes.is (c.report_on_clashes.ensures.told own)

pub returns-in-Graph-clause-told : goal.returns-in-Graph-clause-told
returns-in-Graph-clause-told g c =
    let own = c.args.own.now in
    done-told c.args.task (task.Graph c.in-Graph.reading) c.args.set own c.report_on_graph.result c.in-Graph.is (c.report_on_graph.ensures.told own)

pub returns-clause-told : goal.returns-clause-told
returns-clause-told g c =
    let own = c.args.own.now in
    done-told c.args.task (task.Rounds c.in-Rounds.reading) c.args.set own c.report_on_rounds.result c.in-Rounds.is (c.report_on_rounds.ensures.told own)
