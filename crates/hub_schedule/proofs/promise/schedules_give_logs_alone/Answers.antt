use Rattle.hub_job.specs.Outcome.{world_after}
use Rattle.hub_job.specs.World.{log_of, first_turns}
use Rattle.hub_schedule.proofs.Points.{safe_apart}
use Rattle.hub_schedule.proofs.Promised.{state_trees}
use Rattle.hub_schedule.proofs.Simulated.{logs_of_turns, enough_end, turns_suffice}
use Rattle.hub_schedule.proofs.Stopping.{stopped_lost}
use Rattle.hub_schedule.proofs.promise.schedules_give_logs_alone.Goals as goal

pub returns-clause-logs : goal.returns-clause-logs
returns-clause-logs c = λ S Ps Rs limit schedule o safe is keep. logs_of_turns c.each_log_is_the_one_alone.ensures S Ps limit schedule o (safe_apart Ps Rs safe) is keep

pub returns-clause-enough : goal.returns-clause-enough
returns-clause-enough c = λ S Ps Rs limit schedule o safe is keep.
    let w = world_after S Ps (first_turns limit schedule) in
    enough_end S Ps schedule o (log_of w) w.replica is (logs_of_turns c.each_log_is_the_one_alone.ensures S Ps limit schedule o (safe_apart Ps Rs safe) is keep)

pub returns-clause-suffice : goal.returns-clause-suffice
returns-clause-suffice c = λ S Ps valid facts. turns_suffice S Ps facts (state_trees S valid)

pub returns-clause-lost : goal.returns-clause-lost
returns-clause-lost c = λ S Ps Rs limit schedule o valid facts safe is lose.
    stopped_lost S Ps (turns_suffice S Ps facts (state_trees S valid)) c.each_log_is_the_one_alone.ensures limit schedule o (safe_apart Ps Rs safe) is lose
