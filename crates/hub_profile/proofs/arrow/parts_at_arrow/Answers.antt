use Rattle.hub_profile.proofs.ArrowCuts.{parted_last}
use Rattle.hub_profile.proofs.arrow.parts_at_arrow.Goals as goal

pub returns : goal.returns
returns c = parted_last c.args.value.now c.rsplit_once.result c.utf8.value c.rsplit_once.ensures.cases
