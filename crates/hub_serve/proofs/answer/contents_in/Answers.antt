use Rattle.hub_cli.specs.Words.{request_of}
use Rattle.hub_serve.proofs.Told.{spelled-as, unspelled-as}
use Rattle.hub_serve.proofs.answer.contents_in.Goals as goal

pub returns-in-Ok-clause-spelled : goal.returns-in-Ok-clause-spelled
returns-in-Ok-clause-spelled c =
    spelled-as _ (request_of c.args.asked) _ _ _ c.reading-reading.ensures c.in-Ok.ensures c.counted_contents.ensures.spelled

pub returns-in-Ok-clause-faulty : goal.returns-in-Ok-clause-faulty
returns-in-Ok-clause-faulty c =
    unspelled-as _ (request_of c.args.asked) _ _ _ c.reading-reading.ensures c.in-Ok.ensures c.counted_contents.ensures.faulty
