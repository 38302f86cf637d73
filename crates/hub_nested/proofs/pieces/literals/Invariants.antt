use Rattle.std.proofs.Common.{◌≡◌}
use Rattle.hub_nested.specs.Lifted.{literal}
use Rattle.hub_nested.proofs.pieces.literals.Given as goal

abbrev pub invariant-loop-character : goal.invariant-loop-character
invariant-loop-character l = l.pieces ≡ literal l.yielded
