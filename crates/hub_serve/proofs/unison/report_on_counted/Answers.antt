use Rattle.hub_serve.proofs.UnisonTold.{spelled-in_unison, unspelled-in_unison}
use Rattle.hub_serve.proofs.unison.report_on_counted.Goals as goal

pub returns-in-Ok-clause-holds : goal.returns-in-Ok-clause-holds
returns-in-Ok-clause-holds c =
    spelled-in_unison c.args.question c.args.counted.items c.in-Ok.own c.report_on_own.result c.in-Ok.ensures.spelled c.report_on_own.ensures.holds

pub returns-in-Err-clause-holds : goal.returns-in-Err-clause-holds
returns-in-Err-clause-holds c = unspelled-in_unison c.args.question c.args.counted.items c.in-Err.report c.in-Err.ensures.faulty
