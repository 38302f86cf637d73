use Rattle.std.proofs.Common.{◌≡◌, ◌++◌, map}
use Rattle.hub_glob.specs.declared.piece.Part.TheVariants.{One}
use Rattle.hub_folded.proofs.pattern.push_each.Given as goal

abbrev pub invariant-loop-piece : goal.invariant-loop-piece
invariant-loop-piece l = l.list ≡ l.initial.list ++ map (λ q. One q) l.yielded
