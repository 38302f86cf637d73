use Rattle.std.proofs.Common.{◌∙◌, sym, ap}
use Rattle.hub_reach.specs.Shape.{pushed}
use Rattle.hub_reach.proofs.Shapes.{shape-push}
use Rattle.hub_reach.proofs.shape.Shape.push.Goals as goal

pub returns : goal.returns
returns c = λ t is. c.pushed.ensures ∙ (ap (λ s. pushed s c.args.character) is ∙ sym (shape-push t c.args.character c.requires))
