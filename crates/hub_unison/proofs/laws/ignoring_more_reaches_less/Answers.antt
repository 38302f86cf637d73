use Rattle.hub_unison.proofs.IgnoringMore.{no-wider}
use Rattle.hub_unison.proofs.laws.ignoring_more_reaches_less.Goals as goal

pub returns : goal.returns
returns c Rs P before after s none = no-wider P before after s none Rs
