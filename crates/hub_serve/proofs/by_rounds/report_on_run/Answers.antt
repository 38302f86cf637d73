use Rattle.std.proofs.Common.{◌≡◌, IfErr, IfOk, false, refl, subst}
use Rattle.hub_rounds.specs.Unverified.{is_memory}
use Rattle.hub_serve.specs.ByRounds.{HasRunByRounds}
use Rattle.hub_cli.specs.declared.words.Reading.TheVariants.{Plain}
use Rattle.hub_serve.specs.Rounds.{HasUnverifiedRound}
use Rattle.hub_serve.proofs.by_rounds.report_on_run.Goals as goal

pub returns-in-Ok-clause-told : goal.returns-in-Ok-clause-told
returns-in-Ok-clause-told c = λ M n S h no cs.
    record { workers = n; state = S; task_is = refl; run = subst (λ r. IfOk r (HasRunByRounds M n S)) c.in-Ok.is h }

pub returns-in-Err-clause-told : goal.returns-in-Err-clause-told
returns-in-Err-clause-told c = λ M n S h no cs.
    c.report_on_unverified.ensures.told M n S (subst (λ r. IfErr r (λ e. is_memory e ≡ false → HasUnverifiedRound Plain M)) c.in-Err.is no) cs
