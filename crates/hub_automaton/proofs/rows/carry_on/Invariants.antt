use Rattle.hub_automaton.specs.forms.Rows.{entered_by, moved_count}
use Rattle.hub_automaton.proofs.RowMoves.{Carried}
use Rattle.hub_automaton.proofs.rows.carry_on.Given as goal

abbrev pub invariant-loop-i : goal.invariant-loop-i
invariant-loop-i l =
    Carried l.step.stays (entered_by l.step) l.step.stars.now l.step.takers.now l.old l.initial.new l.new (moved_count l.step l.old) l.i
