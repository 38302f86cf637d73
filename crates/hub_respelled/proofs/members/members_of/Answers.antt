use Rattle.std.proofs.Common.{◌≡◌, ◌∙◌, ◌++◌, ◌∷◌, [], length, ap, sym}
use Rattle.hub_folded.specs.declared.member.Member.{Member}
use Rattle.hub_respelled.specs.Members.{fold_at}
use Rattle.hub_respelled.proofs.MemberLists.{member-count, one-more-of}
use Rattle.hub_respelled.proofs.members.members_of.Goals as goal

pub loop-parts-preserved : goal.loop-parts-preserved
loop-parts-preserved c =
    let fs = c.args.folds.now in
    let Ps = c.loop-parts.yielded in
    let P = c.in-Some.parts in
    let at : c.fold_at-folds.result ≡ fold_at fs (length Ps) = c.fold_at-folds.ensures ∙ ap (fold_at fs) (c.len.ensures ∙ (ap length c.loop-parts.invariant ∙ member-count fs 0 Ps)) in
    let one : Member = record { folds = c.fold_at-folds.result; parts = P } in
    c.in_ok-push.ensures.ok
    ∙ ((λ i. c.loop-parts.invariant i ++ (record { folds = at i; parts = P }) ∷ []) ∙ sym (one-more-of fs Ps P))
