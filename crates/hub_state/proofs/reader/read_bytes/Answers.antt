use Rattle.std.proofs.Common.{inl, inr, ⊎_elim, sym, ◌∙◌, subst}
use Rattle.hub_state.specs.declared.draft.Draft.{Draft}
use Rattle.hub_state.specs.Devices.{is_read_failed}
use Rattle.hub_state.specs.Taking.{IsApart}
use Rattle.hub_state.proofs.Blocks.{reading-taken}
use Rattle.hub_state.proofs.Quiet.{fault-quiet}
use Rattle.hub_state.proofs.Taken.{Ok-then, Err-then, quiet-then}
use Rattle.hub_state.proofs.reader.read_bytes.Goals as goal

pub read_rest-requires-clause-apart : goal.read_rest-requires-clause-apart
read_rest-requires-clause-apart c = subst (λ (a : Draft). IsApart a.current) (sym c.new-draft.ensures) tt

pub returns-clause-ok : goal.returns-clause-ok
returns-clause-ok c = Ok-then c.read_rest.result _ _ (λ s h. reading-taken c.new-draft.result c.args.bytes.now c.new-draft.ensures ∙ h) c.read_rest.ensures.ok

pub returns-clause-err : goal.returns-clause-err
returns-clause-err c =
    Err-then c.read_rest.result _ _ (λ e h. ⊎_elim inl (λ f. inr (reading-taken c.new-draft.result c.args.bytes.now c.new-draft.ensures ∙ f)) h) c.read_rest.ensures.err

pub returns-clause-no_read : goal.returns-clause-no_read
returns-clause-no_read c =
    quiet-then is_read_failed c.read_rest.result
    (Err-then c.read_rest.result _ _
    (λ e h. fault-quiet c.args.bytes.now e (⊎_elim inl (λ f. inr (reading-taken c.new-draft.result c.args.bytes.now c.new-draft.ensures ∙ f)) h)) c.read_rest.ensures.err)
