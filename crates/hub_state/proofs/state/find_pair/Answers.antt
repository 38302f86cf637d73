use Rattle.std.proofs.Common.{refl, Some, None}
use Rattle.hub_state.proofs.Maps.{found_pair}
use Rattle.hub_state.proofs.state.find_pair.Goals as goal

pub returns-in-Some : goal.returns-in-Some
returns-in-Some c =
    found_pair c.args.first.now c.args.second.now c.args.archives.now c.len-len.ensures.ordered (Some c.in-Some.others.now) _ c.in-Some.ensures.value c.get-in-Some.ensures.value

pub returns-in-None : goal.returns-in-None
returns-in-None c = found_pair c.args.first.now c.args.second.now c.args.archives.now c.len-len.ensures.ordered None None c.in-None.ensures.value refl
