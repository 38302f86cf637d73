use Rattle.hub_serve.proofs.Planning.{made-told, unmade-told, unplanned-no_numbers}
use Rattle.hub_serve.specs.declared.plan_question.PlanQuestion.TheVariants as question
use Rattle.hub_serve.proofs.plan.report_on_planned.Goals as goal

pub returns-in-Ok-clause-planned : goal.returns-in-Ok-clause-planned
returns-in-Ok-clause-planned c =
    made-told c.args.roster.now c.args.profiles c.args.rules c.args.archives.now c.in-Ok.found c.report_on_found.result c.in-Ok.ensures.found c.report_on_found.ensures.told

pub returns-in-Err-clause-planned : goal.returns-in-Err-clause-planned
returns-in-Err-clause-planned c =
    unmade-told question.Plan c.args.roster.now c.args.profiles c.args.rules c.args.archives.now c.in-Err.fault c.refused.result c.in-Err.ensures.refused
    (λ S. c.refused.ensures.told S (unplanned-no_numbers c.args.profiles c.args.rules c.in-Err.fault c.in-Err.ensures.refused))
