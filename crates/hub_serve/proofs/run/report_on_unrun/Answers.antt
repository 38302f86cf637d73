use Rattle.std.proofs.Common.{◌∙◌, refl, sym}
use Rattle.hub_serve.proofs.Prevented.{prevents}
use Rattle.hub_serve.proofs.run.report_on_unrun.Goals as goal

pub returns-clause-told : goal.returns-clause-told
returns-clause-told c = λ M S n safe h cs. record {
  workers = n;
  state = S;
  task_is = refl;
  safe = safe;
  reason = prevents S M.profiles n c.args.fault (sym c.is_out_of_memory.ensures ∙ c.if-is_out_of_memory.false) h;
}
