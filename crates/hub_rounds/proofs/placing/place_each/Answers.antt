use Rattle.std.proofs.Common.{◌∙◌, ◌∷◌, [], ℕ, ◌+◌, List, sym, ap, subst, length}
use Rattle.std.proofs.lemmas.List.{length-append}
use Rattle.hub_rounds.specs.Numbered.{AreNumbersPlaced, AreNumbersSplit, AreRoundsUsed, StandsFree}
use Rattle.hub_rounds.specs.Rounds.{IsPlaced}
use Rattle.hub_rounds.specs.declared.placing.Placing.{Placing}
use Rattle.hub_rounds.proofs.Rivals.{none-split, none-placed, none-used, one-split-more, one-placed-more, one-used-more}
use Rattle.hub_rounds.proofs.placing.place_each.Goals as goal

pub loop-number-init : goal.loop-number-init
loop-number-init c =
    let es = c.args.lines.now in
    let n = length c.new-seen.result.items in
    record {
      all = ap length c.in_ok-placings.ensures.items;
      told = subst (λ (ps : List Placing). AreNumbersPlaced es n ps) (sym c.in_ok-placings.ensures.items) (none-placed es n);
      split = subst (λ (ps : List Placing). AreNumbersSplit es ps) (sym c.in_ok-placings.ensures.items) (none-split es);
      used = subst (λ (m : ℕ). AreRoundsUsed m c.in_ok-placings.placings.items) (sym (ap length c.new-seen.ensures.items)) (none-used c.in_ok-placings.placings.items);
    }

pub loop-number-preserved : goal.loop-number-preserved
loop-number-preserved c =
    let es = c.args.lines.now in
    let ps = c.loop-number.placings.items in
    let i = c.loop-number.invariant in
    let p = c.in_ok-placing.placing in
    let e = c.in_ok-placing.ensures in
    let n = length c.loop-number.seen.items in
    let m = length c.placing_of.new.seen.items in
    let told = subst (λ (qs : List Placing). IsPlaced es m (length qs) p) c.as_slice.ensures.value e.told in
    let free = subst (λ (qs : List Placing). StandsFree es qs n (length qs) p) c.as_slice.ensures.value e.free in
    record {
      all = ap length c.in_ok-push.ensures.items ∙ (length-append ps (p ∷ []) ∙ ap (λ k. k + 1) i.all);
      told = subst (λ (qs : List Placing). AreNumbersPlaced es m qs) (sym c.in_ok-push.ensures.items) (one-placed-more es n m ps p e.grows told i.told);
      split = subst (λ (qs : List Placing). AreNumbersSplit es qs) (sym c.in_ok-push.ensures.items) (one-split-more es n ps p i.told free i.split);
      used = subst (λ (qs : List Placing). AreRoundsUsed m qs) (sym c.in_ok-push.ensures.items) (one-used-more n m ps p e.opened i.used);
    }
