use Rattle.std.proofs.Common.{List, ℕ, sym, subst}
use Rattle.hub_rounds.specs.Numbered.{AreRivalNumbers, NumberMayJoin}
use Rattle.hub_rounds.proofs.Rivals.{one-rival-more}
use Rattle.hub_rounds.proofs.clique.join.Goals as goal

pub returns-in_ok-push : goal.returns-in_ok-push
returns-in_ok-push c =
    let es = c.args.lines.now in
    let ps = c.args.placed.now in
    let may = subst (λ (ns : List ℕ). NumberMayJoin es ps ns c.args.profile) c.as_slice.ensures.value (c.may_join.ensures c.if-may_join.true) in
    subst (λ (ns : List ℕ). AreRivalNumbers es ps ns) (sym c.in_ok-push.ensures.items) (one-rival-more es ps c.args.rivals.now.items c.args.profile c.requires may)
