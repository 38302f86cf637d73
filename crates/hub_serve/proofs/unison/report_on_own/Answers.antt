use Rattle.std.proofs.Common.{◌∙◌, ap, refl}
use Rattle.hub_unison.specs.Shared.{shared_pairs}
use Rattle.hub_serve.proofs.unison.report_on_own.Goals as goal

pub returns-in-Ok-clause-holds : goal.returns-in-Ok-clause-holds
returns-in-Ok-clause-holds c =
    c.report_on_profiles.ensures.holds c.args.own refl refl (c.as_slice-in-Ok.ensures.value ∙ (c.in-Ok.ensures ∙ ap shared_pairs c.as_slice.ensures))
