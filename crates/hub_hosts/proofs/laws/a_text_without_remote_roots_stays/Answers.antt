use Rattle.hub_hosts.proofs.Stays.{no_remote_roots}
use Rattle.hub_hosts.proofs.laws.a_text_without_remote_roots_stays.Goals as goal

pub returns : goal.returns
returns c = no_remote_roots
