use Rattle.std.proofs.Common.{◌≡◌, length, refl, arith}
use Rattle.std.proofs.lemmas.Option.{slice_get_read}
use Rattle.hub_cert.proofs.PlaceNumbers.{numbering-all, numbering-more}
use Rattle.hub_cert.proofs.set.places.numbers_of.Goals as goal

pub loop-profile-preserved : goal.loop-profile-preserved
loop-profile-preserved c =
    let at = slice_get_read c.args.profiles.now _ c.loop-profile.profile-index c.profile-item.result refl c.loop-profile-test.true c.profile-item.is in
    numbering-more c.loop-profile.roots.keys c.root_numbers.new.roots.keys c.args.profiles.now c.loop-profile.numbers.items c.push.new.self.items c.loop-profile.profile-index c.profile-item.result c.in_ok-root_numbers.field-0
    c.loop-profile.invariant at c.in_ok-root_numbers.ensures.kept c.in_ok-root_numbers.ensures.once c.in_ok-root_numbers.ensures.numbers c.in_ok-push.ensures.items

pub returns : goal.returns
returns c =
    let all : c.loop-profile.profile-index ≡ length c.args.profiles.now = omega (arith, c.loop-profile-test.false, c.loop-profile.auto.profile-index-end) in
    numbering-all c.loop-profile.roots.keys c.args.profiles.now c.loop-profile.numbers.items c.loop-profile.profile-index c.loop-profile.invariant all
