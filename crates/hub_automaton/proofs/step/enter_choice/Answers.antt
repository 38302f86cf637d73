use Rattle.std.proofs.Common.{◌≡◌, ◌+◌, [], ◌∷◌, ◌&&◌, drop, refl, sym, ap, ◌∙◌}
use Rattle.hub_glob.specs.Taking.{is_star}
use Rattle.hub_automaton.specs.forms.Stepping.{entered_pieces}
use Rattle.hub_automaton.proofs.Loops.{rest_step, rest_end}
use Rattle.hub_automaton.proofs.step.enter_choice.Goals.{then-is_star, else-is_star}
use Rattle.hub_automaton.proofs.step.enter_choice.Goals as goal

pub loop-piece-preserved : goal.loop-piece-preserved
loop-piece-preserved c =
    let p = c.piece-item.result in
    let before = c.loop-piece.before in
    let b = c.if-is_star.before in
    let star : (is_star p && before) ≡ b = sym (elim c.if-is_star.branch [
      | then-is_star w ↦ w.before-is ∙ ap (λ b. b && before) (sym w.if-is_star.true ∙ c.is_star.ensures)
      | else-is_star w ↦ w.before-is ∙ w.if-is_star.false ∙ ap (λ b. b && before) (sym w.if-is_star.false ∙ c.is_star.ensures)
    ]) in
    rest_step (entered_pieces before) (entered_pieces b) c.args.choice.now c.loop-piece.piece-index p (b ∷ []) c.loop-piece.new.items _ _ c.loop-piece-test.true c.piece-item.is
    (λ j. star j ∷ entered_pieces (star j) (drop (c.loop-piece.piece-index + 1) c.args.choice.now)) c.in_ok-push-2.ensures.items c.loop-piece.invariant

pub returns : goal.returns
returns c =
    rest_end (entered_pieces c.loop-piece.before) c.args.choice.now c.loop-piece.piece-index c.loop-piece.new.items _ refl c.loop-piece-test.false c.loop-piece.invariant
