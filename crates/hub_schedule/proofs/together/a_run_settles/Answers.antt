use Rattle.hub_schedule.proofs.Settling.{runs_settle}
use Rattle.hub_schedule.proofs.together.a_run_settles.Goals as goal

pub returns : goal.returns
returns c = runs_settle
