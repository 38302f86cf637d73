use Rattle.hub_path.specs.laws.General.{is_over-prefix}
use Rattle.hub_path.proofs.laws.prefixes_are_fronts.Goals as goal

pub returns : goal.returns
returns c = is_over-prefix
