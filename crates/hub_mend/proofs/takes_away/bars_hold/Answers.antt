use Rattle.std.proofs.Common.{◌≡◌, true, sym, subst}
use Rattle.hub_profile.specs.Parts.{at_side, some_passes}
use Rattle.hub_reach.specs.Reach.{covers}
use Rattle.hub_mend.proofs.takes_away.bars_hold.Goals as goal

pub returns : goal.returns
returns c = λ t. record {
  held = λ side verb h.
      subst (λ bs. some_passes (covers verb) (at_side bs side) ≡ true) c.bars-own.ensures
      (c.hold_all.ensures t side verb
      (subst (λ bs. some_passes (covers verb) (at_side bs side) ≡ true) (sym c.bars-others.ensures) h));
}
