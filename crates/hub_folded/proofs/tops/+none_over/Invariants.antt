use Rattle.std.proofs.Common.{length}
use Rattle.hub_folded.proofs.tops.+none_over.Given as goal

abbrev pub decreases-none_over : goal.decreases-none_over
decreases-none_over l = length l.tops.now
