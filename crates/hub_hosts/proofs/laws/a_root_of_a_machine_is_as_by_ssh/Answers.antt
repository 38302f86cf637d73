use Rattle.hub_hosts.proofs.Machines.{as_by_ssh}
use Rattle.hub_hosts.proofs.laws.a_root_of_a_machine_is_as_by_ssh.Goals as goal

pub returns : goal.returns
returns c = as_by_ssh
