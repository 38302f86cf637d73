use Rattle.hub_hosts.proofs.Stays.{other_name}
use Rattle.hub_hosts.proofs.laws.a_line_of_another_name_stays.Goals as goal

pub returns : goal.returns
returns c = other_name
