use Rattle.std.proofs.Common.{◌∙◌, refl, sym}
use Rattle.hub_serve.proofs.Prevented.{prevents}
use Rattle.hub_serve.proofs.in_order.report_on_unrun_waves.Goals as goal

pub returns-clause-told : goal.returns-clause-told
returns-clause-told c = λ M S n rules h cs. record {
  workers = n;
  state = S;
  task_is = refl;
  rules = rules;
  reason = prevents S M.profiles n c.args.fault (sym c.is_out_of_memory.ensures ∙ c.if-is_out_of_memory.false) h;
}
