use Rattle.hub_hosts.proofs.Machines.{known_machine}
use Rattle.hub_hosts.proofs.laws.no_root_of_a_known_machine_stays.Goals as goal

pub returns : goal.returns
returns c = known_machine
