use Rattle.hub_hosts.proofs.DriveNames.{folds_here}
use Rattle.hub_hosts.proofs.laws.names_fold_on_drives.Goals as goal

pub returns : goal.returns
returns c = folds_here
