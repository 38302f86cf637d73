use Rattle.hub_runner.proofs.Ending.{asks_after}
use Rattle.hub_runner.proofs.worker.take_turn.Goals as goal

pub step-requires : goal.step-requires
step-requires g c =
    asks_after c.deref_mut-job.result.now c.turn.new.self c.in-Ask-Left-default.field-0 c.in-Ask-Left-default.op c.in-Ask-Left-default.ensures.after

pub step-requires-in-Ask-Right-default : goal.step-requires-in-Ask-Right-default
step-requires-in-Ask-Right-default g c =
    asks_after c.deref_mut-job.result.now c.turn.new.self c.in-Ask-Right-default.field-0 c.in-Ask-Right-default.op c.in-Ask-Right-default.ensures.after
