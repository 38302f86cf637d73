use Rattle.hub_reach.proofs.Broken.{broken-longer, broken-by, broken-not_reached, path-unbroken, unbroken-text}
use Rattle.hub_reach.proofs.laws.broken_texts_stay_broken.Goals as goal

pub returns-clause-longer : goal.returns-clause-longer
returns-clause-longer c = broken-longer

pub returns-clause-foreign : goal.returns-clause-foreign
returns-clause-foreign c = broken-by

pub returns-clause-whole : goal.returns-clause-whole
returns-clause-whole c = unbroken-text

pub returns-clause-path : goal.returns-clause-path
returns-clause-path c = path-unbroken

pub returns-clause-reached : goal.returns-clause-reached
returns-clause-reached c = broken-not_reached
