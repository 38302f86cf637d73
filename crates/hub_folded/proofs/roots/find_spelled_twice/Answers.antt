use Rattle.std.proofs.Common.{arith}
use Rattle.std.proofs.lemmas.Option.{slice_get_within}
use Rattle.hub_folded.specs.Table.{unicode}
use Rattle.hub_folded.proofs.FirstPlaces.{told-apart}
use Rattle.hub_folded.proofs.roots.find_spelled_twice.Goals as goal

pub returns : goal.returns
returns c =
    told-apart unicode c.args.roots.now
    (λ j s at known.
    c.loop-at.invariant j s
    (omega (arith, c.loop-at-test.false, slice_get_within c.args.roots.now j s at)) at known)
