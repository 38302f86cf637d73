use Rattle.hub_hosts.proofs.Absolute.{path_of-absolute}
use Rattle.hub_hosts.proofs.laws.paths_are_absolute.Goals as goal

pub returns : goal.returns
returns c = path_of-absolute
