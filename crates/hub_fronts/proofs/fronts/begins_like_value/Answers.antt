use Rattle.std.proofs.Common.{ap, ◌∙◌}
use Rattle.hub_fronts.specs.Fronts as fronts
use Rattle.hub_fronts.proofs.Fronted.{value-chars}
use Rattle.hub_fronts.proofs.fronts.begins_like_value.Goals as goal

pub returns : goal.returns
returns c =
    c.begins_like.ensures ∙ ap (fronts.begins_like c.args.parts.now) (value-chars c.args.value.now c.as_str.result.now c.as_str.ensures.valid c.as_str.ensures.text)
