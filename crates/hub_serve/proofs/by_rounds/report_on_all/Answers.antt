use Rattle.std.proofs.Common.{inl, inr, refl, subst}
use Rattle.std.proofs.lemmas.Result.{IfErr-weaker, IfOk-weaker}
use Rattle.hub_serve.specs.Rounds.{IsUncut}
use Rattle.hub_cli.specs.declared.words.Reading.TheVariants.{Plain}
use Rattle.hub_serve.proofs.ByRounds.{plain-lines, set-run, uncut, unverified-run}
use Rattle.hub_serve.proofs.by_rounds.report_on_all.Goals as goal

pub returns-in-Ok-clause-told : goal.returns-in-Ok-clause-told
returns-in-Ok-clause-told g c = λ all f cs.
    c.report_on_run.ensures.told c.args.set c.args.workers c.args.state
    (IfOk-weaker c.run_rounds.result _ _
    (λ r h. set-run c.args.set c.args.clashes.now c.in-Ok.rounds c.args.workers c.args.state r all c.in-Ok.ensures.rounds f h)
    c.run_rounds.ensures.run)
    (IfErr-weaker c.run_rounds.result _ _
    (λ e h. unverified-run c.args.set c.args.clashes.now c.in-Ok.rounds e all c.in-Ok.ensures.rounds h)
    c.run_rounds.ensures.refused)
    cs

pub returns-in-Err-NotVerified-clause-told : goal.returns-in-Err-NotVerified-clause-told
returns-in-Err-NotVerified-clause-told g c = λ all f cs.
    let n = c.in-Err-NotVerified in
    inl (
      inr (c.args.workers, c.args.state, refl),
      subst (IsUncut Plain c.args.set) n.field-0-is (uncut Plain c.args.set c.args.clashes.now n.field-0 (plain-lines c.args.set c.args.clashes.now (inl all)) n.ensures.refused),
    )
