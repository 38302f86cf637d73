use Rattle.std.proofs.Common.{◌∙◌, ap, sym, arith}
use Rattle.hub_unison.proofs.KeptLines.{cut-more, cut-same}
use Rattle.hub_unison.proofs.kept.cut_of.Goals.{then-is_cut+in_ok-push, else-is_cut}
use Rattle.hub_unison.proofs.kept.cut_of.Goals as goal

pub loop-i-preserved : goal.loop-i-preserved
loop-i-preserved c =
    let ks = c.args.all.now in
    elim c.if-is_cut.branch [
      | then-is_cut+in_ok-push w ↦
          cut-more ks c.loop-i.i c.index-all-i.result (omega arith) c.index-all-i.is c.loop-i.numbers.items c.if-is_cut.numbers.items c.loop-i.invariant
          (sym c.is_cut.ensures ∙ w.if-is_cut.true) (ap (λ v. v.items) w.numbers-is ∙ w.in_ok-push.ensures.items)
      | else-is_cut w ↦
          ap (λ v. v.items) w.numbers-is
          ∙ cut-same ks c.loop-i.i c.index-all-i.result (omega arith) c.index-all-i.is c.loop-i.numbers.items c.loop-i.invariant
          (sym c.is_cut.ensures ∙ w.if-is_cut.false)
    ]
