use Rattle.std.proofs.Common.{◌≡◌, ◌++◌, ◌+◌, Bool, true, map, take, drop, sym, subst, ◌∙◌}
use Rattle.hub_unison.specs.Spares as spares
use Rattle.hub_unison.proofs.Spared.{spares-at, spares-begun}
use Rattle.hub_unison.proofs.spares.add_spares.Goals as goal

pub loop-i-init : goal.loop-i-init
loop-i-init c = spares-begun c.args.found.now (spares.spares true c.args.pieces.now)

pub loop-i-preserved : goal.loop-i-preserved
loop-i-preserved c =
    subst (λ (b : Bool). c.add_opening.new.found ++ map (λ d. take (c.loop-i.i + 1) c.args.pieces.now ++ d) (spares.spares b (drop (c.loop-i.i + 1) c.args.pieces.now)) ≡ c.args.found.now ++ spares.spares true c.args.pieces.now)
    (sym c.is_slash-first.ensures)
    (spares-at c.loop-i.first c.args.pieces.now c.loop-i.i _ c.loop-i.found _ _ c.loop-i-test.true c.index-pieces-i.is c.loop-i.invariant
    (c.in_ok-add_opening.ensures
    ∙ (λ i. c.loop-i.found ++ map (λ d. c.split_at.ensures.front i ++ d) (spares.opening c.loop-i.first (c.split_at.ensures.back i)))))
