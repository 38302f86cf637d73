use Rattle.std.proofs.Common.{◌≡◌, false, refl, arith}
use Rattle.std.proofs.lemmas.Option.{slice_get_read, slice_get_within}
use Rattle.hub_text.specs.laws.List.{also-here}
use Rattle.hub_profile.specs.Parts.{Parts}
use Rattle.hub_reach.specs.Reach.{has_root}
use Rattle.hub_schedule.specs.laws.Lists.{any-at}
use Rattle.hub_runner.proofs.Lists.{none_any}
use Rattle.hub_runner.proofs.by_number.find_root.Goals as goal

pub loop-profile-init : goal.loop-profile-init
loop-profile-init c = λ k P h e. absurd (omega (arith, h))

pub returns-in-Some : goal.returns-in-Some
returns-in-Some c =
    let Ps = c.args.profiles.now in
    let i = c.loop-profile.profile-index in
    let P = c.profile-item.result in
    let at = slice_get_read Ps _ i P refl c.loop-profile-test.true c.profile-item.is in
    (c.in-Some.ensures.0, any-at (λ (Q : Parts). has_root Q c.args.root.now) Ps i P at c.in-Some.ensures.1)

pub loop-profile-preserved : goal.loop-profile-preserved
loop-profile-preserved c =
    let Ps = c.args.profiles.now in
    let i = c.loop-profile.profile-index in
    let P = c.profile-item.result in
    also-here (λ (Q : Parts). has_root Q c.args.root.now ≡ false) Ps i P (slice_get_read Ps _ i P refl c.loop-profile-test.true c.profile-item.is) c.in_default.ensures c.loop-profile.invariant

pub returns : goal.returns
returns c =
    let Ps = c.args.profiles.now in
    let past = c.loop-profile-test.false in
    let end = c.loop-profile.auto.profile-index-end in
    none_any (λ (Q : Parts). has_root Q c.args.root.now) Ps (λ k P e. c.loop-profile.invariant k P (let h = slice_get_within Ps k P e in omega (arith, h, past, end)) e)
