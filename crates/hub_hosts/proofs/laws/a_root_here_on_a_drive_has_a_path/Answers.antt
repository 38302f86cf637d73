use Rattle.hub_hosts.proofs.DriveNames.{path_here}
use Rattle.hub_hosts.proofs.laws.a_root_here_on_a_drive_has_a_path.Goals as goal

pub returns : goal.returns
returns c = path_here
