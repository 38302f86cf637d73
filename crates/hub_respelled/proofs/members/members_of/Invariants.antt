use Rattle.std.proofs.Common.{◌≡◌}
use Rattle.hub_respelled.specs.Members.{members_of}
use Rattle.hub_respelled.proofs.members.members_of.Given as goal

abbrev pub invariant-loop-parts : goal.invariant-loop-parts
invariant-loop-parts l = l.members ≡ members_of l.folds l.yielded
