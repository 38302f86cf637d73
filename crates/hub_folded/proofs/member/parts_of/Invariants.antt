use Rattle.std.proofs.Common.{◌≡◌, map}
use Rattle.hub_folded.proofs.member.parts_of.Given as goal

abbrev pub invariant-loop-member : goal.invariant-loop-member
invariant-loop-member l = l.profiles ≡ map (λ M. M.parts) l.yielded
