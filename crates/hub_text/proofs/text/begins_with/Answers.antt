use Rattle.hub_text.specs.laws.AsciiWords.{begins-ascii}
use Rattle.hub_text.proofs.text.begins_with.Goals as goal

pub returns : goal.returns
returns c = begins-ascii c.args.c _ _ c.requires.nonzero c.requires.ascii c.utf8.text c.starts_with.ensures.cases
