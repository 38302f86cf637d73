use Rattle.hub_serial.proofs.Given.{given_by_starter, left_by_starter}
use Rattle.hub_serial.proofs.laws.a_starter_gives_what_is_due.Goals as goal

pub returns-clause-given : goal.returns-clause-given
returns-clause-given c = λ Ps R archives es facts s. given_by_starter Ps facts R archives es s

pub returns-clause-left : goal.returns-clause-left
returns-clause-left c = λ Ps R archives es facts s. left_by_starter Ps facts R archives es s
