use Rattle.hub_source.proofs.Fronts.{follows}
use Rattle.hub_source.proofs.said.after_front.Goals as goal

pub returns : goal.returns
returns c = follows c.args.front.now c.args.text.now c.strip_prefix.result c.utf8.front c.utf8.text c.strip_prefix.ensures.cases
