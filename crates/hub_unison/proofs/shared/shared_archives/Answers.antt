use Rattle.std.proofs.Common.{◌∙◌, ap, map, length, arith}
use Rattle.hub_unison.specs.Keys.{key_of, pairs_of_keys}
use Rattle.hub_unison.proofs.Keyed.{places-more, places-last, length-next}
use Rattle.hub_unison.proofs.SharedKeys.{same-from}
use Rattle.hub_unison.proofs.shared.shared_archives.Goals as goal

pub loop-at-preserved : goal.loop-at-preserved
loop-at-preserved c =
    let ks = map key_of c.args.profiles.now in
    places-more c.loop-at.at ks c.loop-at.pairs.items c.add_pairs.new.pairs.items (pairs_of_keys 0 ks)
    (omega (arith, c.loop-at-test.true, ap length c.in_ok-next.ensures.next, length-next 0 ks)) c.loop-at.invariant
    (c.in_ok-add_pairs.ensures ks (c.as_slice.ensures.value ∙ c.in_ok-next.ensures.next))

pub returns : goal.returns
returns c =
    let ks = map key_of c.args.profiles.now in
    places-last c.loop-at.at ks c.loop-at.pairs.items (pairs_of_keys 0 ks)
    (omega (arith, c.loop-at-test.false, ap length c.in_ok-next.ensures.next, length-next 0 ks)) c.loop-at.invariant
    ∙ same-from 0 c.args.profiles.now c.in_ok-next.ensures.valid
