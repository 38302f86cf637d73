use Rattle.std.proofs.Common.{◌≡◌, ℕ, List, true, inl, inr, ⊎_elim, sym, ◌∙◌}
use Rattle.std.specs.Prelude.{Result, Ok, Err, IfErr}
use Rattle.std.proofs.lemmas.Bool.{false≢true}
use Rattle.hub_text.specs.Fails.{Fails}
use Rattle.hub_state.specs.declared.fault.StateFault.{StateFault}
use Rattle.hub_state.specs.Blocks.{out_of_memory}
use Rattle.hub_state.specs.Devices.{is_read_failed, is_turns_spent, reports}
use Rattle.hub_state.specs.Reading.{state_reading}
use Rattle.hub_state.specs.State.{State}
use Rattle.hub_state.proofs.Blocks.{known}
use Rattle.hub_state.proofs.Quiet.{fault-quiet, fault-unspent}
use Rattle.hub_state.proofs.Taken.{Ok-then, Err-then, quiet-then}
use Rattle.hub_state.proofs.reader.read_after.Goals as goal

pub returns-in-Ok-clause-ok : goal.returns-in-Ok-clause-ok
returns-in-Ok-clause-ok g c =
    let w = c.in-Ok.ensures.whole in
    Ok-then c.finish.result _ _ (λ s h. known (g.R.Read.remaining c.args.input.now.device) w.0 (Ok s) w.2 h) (c.finish.ensures.ok w.0 w.1)

pub returns-in-Ok-clause-err : goal.returns-in-Ok-clause-err
returns-in-Ok-clause-err g c =
    let w = c.in-Ok.ensures.whole in
    Err-then c.finish.result _ _
    (λ e h. ⊎_elim inl (λ f. inr (inr (inr (known (g.R.Read.remaining c.args.input.now.device) w.0 (Err e) w.2 f)))) h) (c.finish.ensures.err w.0 w.1)

pub returns-in-Ok-clause-failed : goal.returns-in-Ok-clause-failed
returns-in-Ok-clause-failed g c =
    let w = c.in-Ok.ensures.whole in
    c.in-Ok.ensures.failed ∙ sym (quiet-then is_read_failed c.finish.result (Err-then c.finish.result _ _ (λ e h. fault-quiet w.0 e h) (c.finish.ensures.err w.0 w.1)))

-- A text that was read to its end doesn't say that the reads are spent.
unspent : (r : Result State StateFault) (bytes : List ℕ) → IfErr r (Fails out_of_memory (state_reading bytes)) → reports is_turns_spent r ≡ true → ⊥
unspent r bytes h spent = false≢true (sym (quiet-then is_turns_spent r (Err-then r _ _ (λ e f. fault-unspent bytes e f) h)) ∙ spent)

pub returns-in-Ok-clause-turns_spent : goal.returns-in-Ok-clause-turns_spent
returns-in-Ok-clause-turns_spent g c = let w = c.in-Ok.ensures.whole in λ spent. absurd (unspent c.finish.result w.0 (c.finish.ensures.err w.0 w.1) spent)

pub returns-in-Ok-clause-no_end : goal.returns-in-Ok-clause-no_end
returns-in-Ok-clause-no_end g c = let w = c.in-Ok.ensures.whole in λ spent. absurd (unspent c.finish.result w.0 (c.finish.ensures.err w.0 w.1) spent)
