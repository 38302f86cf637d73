use Rattle.std.proofs.Common.{◌∙◌, List, ap, length, sym, subst}
use Rattle.hub_rounds.specs.Numbered.{AreAllRivals, AreNumbersPlaced, AreNumbersSplit, AreRivalNumbers, AreRoundsUsed}
use Rattle.hub_rounds.specs.declared.placing.Placing.{Placing}
use Rattle.hub_rounds.proofs.standing.standing_of.Goals as goal

pub returns : goal.returns
returns c =
    let es = c.args.lines.now in
    let count = c.in_ok-placings.rounds in
    let ns = c.in_ok-rivals.rivals in
    let e = c.in_ok-placings.ensures in
    let same = sym c.from_vec.ensures in
    let seen = c.as_slice-2.ensures.value ∙ same in
    record {
      all = ap length c.from_vec.ensures ∙ e.all;
      told = subst (λ (qs : List Placing). AreNumbersPlaced es count qs) same e.told;
      split = subst (λ (qs : List Placing). AreNumbersSplit es qs) same e.split;
      used = subst (λ (qs : List Placing). AreRoundsUsed count qs) same e.used;
      rivals = subst (λ (qs : List Placing). AreRivalNumbers es qs ns) seen c.in_ok-rivals.ensures.rivals;
      whole = subst (λ (qs : List Placing). AreAllRivals es qs ns) seen c.in_ok-rivals.ensures.whole;
    }
