use Rattle.hub_rounds.proofs.clashes.clashes_of.Goals as goal

pub returns-clause-first : goal.returns-clause-first
returns-clause-first c = λ e rest is. c.faults_say_what_is_unsafe.ensures.first c.args.set.now c.in_ok-lines.lines rest e c.in_ok-lines.ensures is
