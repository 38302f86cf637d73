use Rattle.std.proofs.Common.{◌≡◌, drop}
use Rattle.hub_automaton.specs.Ends.{meets}
use Rattle.hub_automaton.proofs.ends.rows_meet.Given as goal

abbrev pub invariant-loop-i : goal.invariant-loop-i
invariant-loop-i l = meets (drop l.i l.row) (drop l.i l.mask) ≡ meets l.row l.mask
