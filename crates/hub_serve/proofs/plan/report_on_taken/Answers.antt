use Rattle.std.proofs.Common.{◌∙◌, ap, refl}
use Rattle.hub_unison.specs.Shared.{shared_pairs}
use Rattle.hub_serve.proofs.plan.report_on_taken.Goals as goal

pub returns-in-Ok-clause-planned : goal.returns-in-Ok-clause-planned
returns-in-Ok-clause-planned c =
    c.report_on_made.ensures.planned c.args.taken refl refl refl
    (c.as_slice-in-Ok.ensures.value ∙ (c.in-Ok.ensures ∙ ap shared_pairs c.as_slice.ensures))
