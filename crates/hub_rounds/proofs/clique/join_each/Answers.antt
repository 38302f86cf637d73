use Rattle.std.proofs.Common.{List, ℕ, Vec, Global, ◌+◌, ◌∙◌, ap, subst, sym}
use Rattle.std.proofs.lemmas.Bool.{true≢false}
use Rattle.hub_rounds.specs.Numbered.{NumberMayJoin}
use Rattle.hub_rounds.proofs.Rivals.{AreAsked, are-whole, next-joins, next-may-not, none-asked}
use Rattle.hub_rounds.proofs.clique.join_each.Goals as goal
use Rattle.hub_rounds.proofs.clique.join_each.Goals.{then-may_join_surely+in_ok-push, else-may_join_surely}

pub loop-profile-init : goal.loop-profile-init
loop-profile-init c = none-asked c.args.lines.now c.args.placed.now c.args.rivals.now.items c.requires.rivals

pub loop-profile-preserved : goal.loop-profile-preserved
loop-profile-preserved c =
    let es = c.args.lines.now in
    let ps = c.args.placed.now in
    let ns = c.loop-profile.rivals.items in
    let k = c.loop-profile.profile in
    let are = c.loop-profile.invariant in
    let asked = λ (ms : List ℕ). AreAsked es ps ms (k + 1) in
    let may = λ (ms : List ℕ). NumberMayJoin es ps ms k in
    let items = λ (v : Vec ℕ Global). v.items in
    elim c.if-may_join_surely.branch [
      | then-may_join_surely+in_ok-push w ↦
          let own = subst may c.as_slice.ensures.value (c.may_join_surely.ensures.0 w.if-may_join_surely.true) in
          subst asked (sym (ap items w.rivals-is ∙ w.in_ok-push.ensures.items)) (next-joins es ps ns k are own)
      | else-may_join_surely w ↦
          let never = λ (own : NumberMayJoin es ps ns k). true≢false (sym (c.may_join_surely.ensures.1 (subst may (sym c.as_slice.ensures.value) own)) ∙ w.if-may_join_surely.false) in
          subst asked (sym (ap items w.rivals-is)) (next-may-not es ps ns k are never)
    ]

pub returns : goal.returns
returns c = record {
  rivals = c.loop-profile.invariant.rivals;
  whole = are-whole c.args.lines.now c.args.placed.now c.loop-profile.rivals.items c.loop-profile.profile c.loop-profile-test.false c.loop-profile.invariant;
}
