use Rattle.hub_state.proofs.Whole.{writes_read}
use Rattle.hub_state.proofs.laws.what_is_written_reads_back.Goals as goal

pub returns : goal.returns
returns c = writes_read
