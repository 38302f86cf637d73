use Rattle.hub_serve.specs.declared.plan_question.PlanQuestion.TheVariants as question
use Rattle.hub_serve.proofs.Planning.{asked-made}
use Rattle.hub_serve.proofs.plan.report_on_made.Goals as goal

pub returns-in-Plan-clause-planned : goal.returns-in-Plan-clause-planned
returns-in-Plan-clause-planned c =
    asked-made c.args.asked question.Plan c.args.roster.now c.args.profiles c.args.rules c.args.archives.now c.report_on_planned.result c.in-Plan.is c.report_on_planned.ensures.planned

pub returns-in-Rounds-clause-planned : goal.returns-in-Rounds-clause-planned
returns-in-Rounds-clause-planned c =
    asked-made c.args.asked question.Rounds c.args.roster.now c.args.profiles c.args.rules c.args.archives.now c.report_on_rounds_alone.result c.in-Rounds.is c.report_on_rounds_alone.ensures.planned
