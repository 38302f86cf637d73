use Rattle.std.proofs.Common.{◌≡◌, map}
use Rattle.hub_folded.specs.Lines as lines
use Rattle.hub_folded.specs.Table.{unicode}
use Rattle.hub_folded.proofs.member.folded_members.Given as goal

abbrev pub invariant-loop-member : goal.invariant-loop-member
invariant-loop-member l = l.profiles ≡ map (lines.folded_member unicode) l.yielded
