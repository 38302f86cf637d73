use Rattle.hub_cli.specs.Words.{request_of}
use Rattle.hub_serve.proofs.Answered.{serves-asked, serves-refused}
use Rattle.hub_serve.proofs.Short.{asked-short, refused-short}
use Rattle.hub_serve.proofs.program.serve_and_tell.Goals as goal

pub returns-in-Ok-clause-full : goal.returns-in-Ok-clause-full
returns-in-Ok-clause-full g c = serves-asked c.what_is_shown_is_not_safe.ensures.overlap c.what_is_shown_is_not_safe.ensures.breach _ (request_of c.in-Ok.asked) _ _ _ _ _ _ c.in-Ok.ensures.ok c.answer.ensures

pub returns-in-Err-clause-full : goal.returns-in-Err-clause-full
returns-in-Err-clause-full g c = serves-refused c.what_is_shown_is_not_safe.ensures.overlap c.what_is_shown_is_not_safe.ensures.breach _ _ _ _ _ _ _ _ _ c.in-Err.ensures.err c.refuse.ensures.memory c.refuse.ensures.nothing

pub returns-in-Ok-clause-first : goal.returns-in-Ok-clause-first
returns-in-Ok-clause-first g c = asked-short c.what_is_shown_is_not_safe.ensures.overlap c.what_is_shown_is_not_safe.ensures.breach _ (request_of c.in-Ok.asked) _ _ _ _ _ _ c.in-Ok.ensures.ok c.answer.ensures

pub returns-in-Err-clause-first : goal.returns-in-Err-clause-first
returns-in-Err-clause-first g c = refused-short c.what_is_shown_is_not_safe.ensures.overlap c.what_is_shown_is_not_safe.ensures.breach _ _ _ _ _ _ _ _ c.in-Err.ensures.err c.refuse.ensures.memory c.refuse.ensures.nothing
