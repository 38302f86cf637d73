use Rattle.hub_automaton.proofs.Kept.{same_row_length}
use Rattle.hub_automaton.proofs.laws.rows_are_equally_long.Goals as goal

pub returns : goal.returns
returns c = same_row_length
