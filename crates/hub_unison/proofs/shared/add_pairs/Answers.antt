use Rattle.std.proofs.Common.{refl, arith, get_or, None, Some}
use Rattle.hub_unison.proofs.Keyed.{no-value, pair-last, pair-more, place-more}
use Rattle.hub_unison.proofs.shared.add_pairs.Goals as goal

pub loop-place-smaller : goal.loop-place-smaller
loop-place-smaller c =
    let later = place-more c.args.next.now c.args.at c.loop-place.place (Some c.in-Some.other) c.loop-place.invariant.0
    c.in-Some.is c.requires.next.0 c.requires.next.1 c.in-Some.other refl in
    omega (arith, later.0, later.1)

pub loop-place-preserved : goal.loop-place-preserved
loop-place-preserved c = (
  (place-more c.args.next.now c.args.at c.loop-place.place (Some c.in-Some.other) c.loop-place.invariant.0
      c.in-Some.is c.requires.next.0 c.requires.next.1 c.in-Some.other refl).0,
  λ ks e. pair-more c.args.next.now c.args.at c.loop-place.place (Some c.in-Some.other) c.loop-place.invariant.0
      c.in-Some.is ks e c.in-Some.other refl c.loop-place.pairs.items c.push.new.self.items _
      (c.loop-place.invariant.1 ks e) c.in_ok-push.ensures.items,
)

pub returns : goal.returns
returns c = λ ks e.
    pair-last c.args.next.now c.args.at c.loop-place.place None c.loop-place.invariant.0
    (no-value (get_or c.args.next.now c.loop-place.place None) c.in_default.not-Some) ks e refl
    c.loop-place.pairs.items _ (c.loop-place.invariant.1 ks e)
