use Rattle.std.proofs.Common.{◌∙◌, ap}
use Rattle.hub_profile.specs.Lines.{trimmed}
use Rattle.hub_profile.proofs.arrow.spec_and_root.Goals as goal

pub returns-in_err-spec : goal.returns-in_err-spec
returns-in_err-spec c = rw c.from_residual.ensures c.in_err-spec.ensures

pub returns : goal.returns
returns c =
    let cut = c.in_ok-spec.ensures in
    (cut.0, c.trimmed.ensures ∙ ap trimmed cut.1, c.trimmed-2.ensures ∙ ap trimmed cut.2)
