use Rattle.hub_path.specs.laws.ReadBack.{name_reading-short, path_reading-short, root_reading-short}
use Rattle.hub_path.proofs.laws.texts_within_the_limits_are_read.Goals as goal

pub returns-clause-name : goal.returns-clause-name
returns-clause-name c = name_reading-short

pub returns-clause-path : goal.returns-clause-path
returns-clause-path c = path_reading-short

pub returns-clause-root : goal.returns-clause-root
returns-clause-root c = root_reading-short
