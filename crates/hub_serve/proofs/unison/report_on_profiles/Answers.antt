use Rattle.hub_serve.proofs.UnisonTold.{found-holds, unsearched-holds}
use Rattle.hub_serve.proofs.unison.report_on_profiles.Goals as goal

pub returns-in-Ok-clause-holds : goal.returns-in-Ok-clause-holds
returns-in-Ok-clause-holds c =
    found-holds c.args.question c.args.profiles c.args.rules c.args.archives.now c.in-Ok.found c.report_on_found.result c.in-Ok.ensures.found
    c.report_on_found.ensures.holds

pub returns-in-Err-clause-holds : goal.returns-in-Err-clause-holds
returns-in-Err-clause-holds c =
    unsearched-holds c.args.question c.args.profiles c.args.rules c.args.archives.now c.in-Err.fault c.unsearched.result c.in-Err.ensures.refused
    (λ S. c.unsearched.ensures.told S c.args.profiles c.args.rules c.in-Err.ensures.refused)
