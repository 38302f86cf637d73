use Rattle.hub_reach.proofs.Classed.{classed-text, text-path, unclassed-text}
use Rattle.hub_reach.proofs.laws.text_characters_have_classes.Goals as goal

pub returns-clause-classed : goal.returns-clause-classed
returns-clause-classed c = classed-text

pub returns-clause-unclassed : goal.returns-clause-unclassed
returns-clause-unclassed c = unclassed-text

pub returns-clause-same : goal.returns-clause-same
returns-clause-same c = text-path
