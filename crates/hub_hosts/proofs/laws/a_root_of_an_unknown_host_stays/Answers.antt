use Rattle.hub_hosts.proofs.Stays.{unknown_host}
use Rattle.hub_hosts.proofs.laws.a_root_of_an_unknown_host_stays.Goals as goal

pub returns : goal.returns
returns c = unknown_host
