use Rattle.hub_hosts.proofs.DriveNames.{backslash, capital, cygdrive}
use Rattle.hub_hosts.proofs.laws.a_drive_has_several_names.Goals as goal

pub returns-clause-cygdrive : goal.returns-clause-cygdrive
returns-clause-cygdrive c = cygdrive

pub returns-clause-capital : goal.returns-clause-capital
returns-clause-capital c = capital

pub returns-clause-backslash : goal.returns-clause-backslash
returns-clause-backslash c = backslash
