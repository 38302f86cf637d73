use Rattle.std.proofs.Common.{IfErr, IfOk, subst}
use Rattle.hub_serve.specs.Told.{FaultOf, IsToldOfSet}
use Rattle.hub_serve.proofs.Told.{refused-told}
use Rattle.hub_serve.proofs.verdict.or_refusal.Goals as goal

pub returns-in-Ok-clause-told : goal.returns-in-Ok-clause-told
returns-in-Ok-clause-told c = λ t cs ok err. subst (λ a. IfOk a (IsToldOfSet t c.args.set.now cs)) c.in-Ok.is ok

pub returns-in-Err-clause-told : goal.returns-in-Err-clause-told
returns-in-Err-clause-told c = λ t cs ok err.
    refused-told t c.args.set.now cs c.in-Err.fault c.refusal.result (subst (λ a. IfErr a (FaultOf t c.args.set.now cs)) c.in-Err.is err) c.refusal.ensures.refusal
