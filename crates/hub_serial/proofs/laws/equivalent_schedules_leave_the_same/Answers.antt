use Rattle.hub_serial.specs.Clash.{JobsClash}
use Rattle.hub_serial.specs.World.{World, turn}
use Rattle.hub_serial.proofs.Exchange.{clashing_turned}
use Rattle.hub_serial.proofs.Traces.{same_left}
use Rattle.hub_serial.proofs.laws.equivalent_schedules_leave_the_same.Goals as goal

pub returns : goal.returns
returns c = λ Ps js ks w facts e.
    same_left (JobsClash Ps) (clashing_turned Ps) World (turn Ps) (λ i k w off free. c.turns_commute.ensures Ps i k w facts off free) js ks w e
