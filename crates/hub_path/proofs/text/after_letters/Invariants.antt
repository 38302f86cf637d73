use Rattle.std.proofs.Common.{◌≡◌, length}
use Rattle.hub_path.specs.Reading.{after_letters}
use Rattle.hub_path.proofs.text.after_letters.Given as goal

abbrev pub invariant-loop-rest : goal.invariant-loop-rest
invariant-loop-rest l = after_letters l.rest ≡ after_letters l.bytes

abbrev pub decreases-loop-rest : goal.decreases-loop-rest
decreases-loop-rest l = length l.rest
