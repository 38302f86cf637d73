use Rattle.hub_serial.specs.Clash.{JobsClash}
use Rattle.hub_serial.proofs.Exchange.{clashing_turned}
use Rattle.hub_serial.proofs.Starting.{rule_keeps_apart}
use Rattle.hub_serial.proofs.laws.waiting_for_clashing_jobs_is_enough.Goals as goal

pub returns : goal.returns
returns c = λ Ps es rule. rule_keeps_apart (JobsClash Ps) (clashing_turned Ps) es rule
