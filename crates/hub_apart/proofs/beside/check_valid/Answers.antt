use Rattle.std.proofs.Common.{arith, refl}
use Rattle.std.proofs.lemmas.Option.{slice_get_read, slice_get_within}
use Rattle.hub_profile.specs.Parts.{IsProfile}
use Rattle.hub_text.specs.laws.List.{also-here}
use Rattle.hub_apart.proofs.beside.check_valid.Goals as goal

pub loop-profile-preserved : goal.loop-profile-preserved
loop-profile-preserved c =
    let at = slice_get_read c.args.profiles.now _ c.loop-profile.profile-index c.profile-item.result refl c.loop-profile-test.true c.profile-item.is in
    also-here IsProfile c.args.profiles.now c.loop-profile.profile-index c.profile-item.result at c.roots.ensures.valid c.loop-profile.invariant

pub returns : goal.returns
returns c = λ i P at. let l = slice_get_within c.args.profiles.now i P at in c.loop-profile.invariant i P (omega (arith, l, c.loop-profile-test.false)) at
