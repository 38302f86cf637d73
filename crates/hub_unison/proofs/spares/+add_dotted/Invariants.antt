use Rattle.std.proofs.Common.{length}
use Rattle.hub_unison.proofs.spares.+add_dotted.Given as goal

abbrev pub decreases-add_dotted : goal.decreases-add_dotted
decreases-add_dotted l = length l.pieces.now
