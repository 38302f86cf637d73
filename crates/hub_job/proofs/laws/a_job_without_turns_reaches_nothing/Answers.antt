use Rattle.std.proofs.Common.{[]}
use Rattle.hub_job.proofs.Beginning.{reaches_nothing}
use Rattle.hub_job.proofs.laws.a_job_without_turns_reaches_nothing.Goals as goal

pub returns : goal.returns
returns c = λ P O q facts done. reaches_nothing P O q (λ h none. c.a_reached_path_needs_a_look.ensures P [] q facts h none) done
