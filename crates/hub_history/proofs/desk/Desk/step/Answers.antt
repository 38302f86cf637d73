use Rattle.std.proofs.lemmas.Result.{IfOk-weaker}
use Rattle.hub_history.proofs.desk.Desk.step.Goals as goal

pub returns-clause-made : goal.returns-clause-made
returns-clause-made g c = IfOk-weaker c.step_in.result _ _ (λ a h. (_, c.step_in.ensures.valid, h)) c.step_in.ensures.answer
