use Rattle.hub_starter.proofs.Outcomes.{all_waves, first_wave, more_waves, no_jobs}
use Rattle.hub_starter.proofs.laws.waves_are_serial.Goals as goal

pub returns-clause-first : goal.returns-clause-first
returns-clause-first c = λ S w are valid state there o one. first_wave S w are o one

pub returns-clause-more : goal.returns-clause-more
returns-clause-more c = λ S w are valid state there k o later m before wave same merged.
    more_waves S w are k o later m before wave same merged

pub returns-clause-all : goal.returns-clause-all
returns-clause-all c = λ S w are valid state there o after.
    all_waves c.equivalent_schedules_leave_the_same.ensures c.jobs_work_in_turn.ensures
    c.a_set_keeps_trees.ensures.tree S w are valid state o after

pub returns-clause-none : goal.returns-clause-none
returns-clause-none c = λ S. no_jobs S
