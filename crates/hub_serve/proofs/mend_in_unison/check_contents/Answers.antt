use Rattle.hub_serve.proofs.MendInUnison.{are-less}
use Rattle.hub_serve.proofs.mend_in_unison.check_contents.Goals as goal

pub returns-then-takes_away-clause-less : goal.returns-then-takes_away-clause-less
returns-then-takes_away-clause-less c =
    are-less c.args.old c.args.new c.check_readings.result (c.takes_away.ensures.rules c.if-takes_away.true) (c.takes_away.ensures.profiles c.if-takes_away.true) c.check_readings.ensures.less
