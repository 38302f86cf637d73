use Rattle.hub_reach.proofs.Shapes.{path-shape}
use Rattle.hub_reach.proofs.laws.named_texts_are_paths.Goals as goal

pub returns : goal.returns
returns c = path-shape
