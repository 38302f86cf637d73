use Rattle.hub_serve.proofs.Planning.{taken-as, untaken-as}
use Rattle.hub_serve.proofs.plan.report_on_counted.Goals as goal

pub returns-in-Ok-clause-planned : goal.returns-in-Ok-clause-planned
returns-in-Ok-clause-planned c = λ bytes is.
    c.report_on_taken.ensures.planned bytes (taken-as bytes c.args.counted.items c.in-Ok.taken is c.in-Ok.ensures.takes)

pub returns-in-Err-clause-planned : goal.returns-in-Err-clause-planned
returns-in-Err-clause-planned c = λ bytes is. untaken-as c.args.asked bytes c.args.counted.items c.in-Err.report is c.in-Err.ensures.untaken
