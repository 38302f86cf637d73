use Rattle.std.proofs.Common.{◌+◌, drop, sym, ap, ◌∙◌, arith}
use Rattle.std.proofs.lemmas.List.{drop_all}
use Rattle.hub_glob.specs.Sweep.{Swept, swept_pieces}
use Rattle.hub_text.specs.laws.List.{next-drop}
use Rattle.hub_glob.proofs.sweep.sweep_pieces.Goals as goal

pub loop-piece-preserved : goal.loop-piece-preserved
loop-piece-preserved c =
    let ps = c.args.pieces.now in
    let i = c.loop-piece.piece-index in
    let now : Swept = record { live = c.loop-piece.new.items; carry = c.loop-piece.carry } in (
      omega (arith, c.sweep_piece-carry.ensures.len, c.loop-piece.invariant.0),
      ap (swept_pieces c.args.next c.args.old.now (drop (i + 1) ps)) (sym c.sweep_piece-carry.ensures.swept)
          ∙ ap (λ qs. swept_pieces c.args.next c.args.old.now qs now) (sym (next-drop ps i c.piece-item.result (omega arith) c.piece-item.is)) ∙ c.loop-piece.invariant.1,
    )

pub returns-clause-swept : goal.returns-clause-swept
returns-clause-swept c =
    let now : Swept = record { live = c.loop-piece.new.items; carry = c.loop-piece.carry } in
    sym c.loop-piece.invariant.1 ∙ ap (λ qs. swept_pieces c.args.next c.args.old.now qs now) (drop_all c.loop-piece.piece-index c.args.pieces.now (omega arith))
