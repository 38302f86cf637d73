use Rattle.hub_folded.specs.Lines.{folded_member}
use Rattle.hub_folded.specs.Table.{unicode}
use Rattle.hub_folded.proofs.Lists.{mapped}
use Rattle.hub_folded.proofs.member.folded_members.Goals as goal

pub loop-member-preserved : goal.loop-member-preserved
loop-member-preserved c =
    mapped (folded_member unicode) c.loop-member.yielded c.loop-member.profiles _ c.in-Some.member c.in_ok-folded_member.field-0
    c.loop-member.invariant c.in_ok-folded_member.ensures c.in_ok-push.ensures.ok
