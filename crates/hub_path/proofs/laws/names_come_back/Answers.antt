use Rattle.hub_path.specs.laws.General.{path_of-text_of}
use Rattle.hub_path.proofs.laws.names_come_back.Goals as goal

pub returns : goal.returns
returns c = path_of-text_of
