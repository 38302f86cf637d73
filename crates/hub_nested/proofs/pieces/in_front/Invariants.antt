use Rattle.std.proofs.Common.{◌≡◌, ◌++◌}
use Rattle.hub_nested.proofs.pieces.in_front.Given as goal

abbrev pub invariant-loop-piece : goal.invariant-loop-piece
invariant-loop-piece l = l.pieces ≡ l.initial.pieces ++ l.yielded
