use Rattle.std.proofs.Common.{◌≡◌, map}
use Rattle.hub_nested.specs.Lifted.{in_front}
use Rattle.hub_nested.proofs.pieces.each_in_front.Given as goal

abbrev pub invariant-loop-choice : goal.invariant-loop-choice
invariant-loop-choice l = l.each ≡ map (in_front l.path) l.yielded
