use Rattle.std.proofs.Common.{length}
use Rattle.hub_bundle.proofs.Lines.{SkippedSoFar}
use Rattle.hub_bundle.proofs.bundle.take_section.Given as goal

abbrev pub invariant-loop-lines : goal.invariant-loop-lines
invariant-loop-lines l = SkippedSoFar l.fn.lines l.lines l.count

abbrev pub decreases-loop-lines : goal.decreases-loop-lines
decreases-loop-lines l = length l.lines
