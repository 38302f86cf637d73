use Rattle.hub_cli.specs.Words.{request_of}
use Rattle.hub_serve.proofs.Answered.{memory-answers}
use Rattle.hub_serve.proofs.program.answer.Goals as goal

pub returns-in-Err : goal.returns-in-Err
returns-in-Err g c = memory-answers (request_of c.args.asked) _ _ _ _ _ _ c.write_out_of_memory.ensures
