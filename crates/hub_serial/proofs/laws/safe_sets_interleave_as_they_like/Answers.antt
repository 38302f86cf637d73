use Rattle.hub_serial.proofs.Held.{safe_interleave}
use Rattle.hub_serial.proofs.laws.safe_sets_interleave_as_they_like.Goals as goal

pub returns : goal.returns
returns c = λ Ps Rs js safe a b d i k l m e f g off clash. safe_interleave Ps Rs safe i k off clash
