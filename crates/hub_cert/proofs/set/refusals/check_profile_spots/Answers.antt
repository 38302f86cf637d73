use Rattle.std.proofs.Common.{◌≤◌, inl, inr, ⊎_elim, refl, arith}
use Rattle.std.proofs.lemmas.Option.{slice_get_read, slice_get_within}
use Rattle.std.proofs.lemmas.Result.{err_from_is_err_and}
use Rattle.hub_text.specs.laws.List.{also-here}
use Rattle.hub_automaton.specs.declared.alternatives.TheConstants.{SPOTS}
use Rattle.hub_profile.specs.Parts.{Parts}
use Rattle.hub_reach.specs.Stage.{spot_count_of}
use Rattle.hub_cert.proofs.set.refusals.check_profile_spots.Goals as goal

pub returns-in_err-check_spots-clause-err : goal.returns-in_err-check_spots-clause-err
returns-in_err-check_spots-clause-err c =
    let at = slice_get_read c.args.profiles.now _ c.loop-profile.profile-index c.profile-item.result refl c.loop-profile-test.true c.profile-item.is in
    let p = err_from_is_err_and c.from_residual.result c.from_residual.ensures.1 in
    rw (p.1, p.2) (⊎_elim (λ none. inl none) (λ many. inr (many.0, (c.loop-profile.profile-index, c.profile-item.result, at, many.1))) c.in_err-check_spots.ensures.err)

pub loop-profile-preserved : goal.loop-profile-preserved
loop-profile-preserved c =
    let at = slice_get_read c.args.profiles.now _ c.loop-profile.profile-index c.profile-item.result refl c.loop-profile-test.true c.profile-item.is in
    also-here (λ (P : Parts). spot_count_of P ≤ SPOTS) c.args.profiles.now c.loop-profile.profile-index c.profile-item.result at c.in_ok-check_spots.ensures.few c.loop-profile.invariant

pub returns-clause-few : goal.returns-clause-few
returns-clause-few c = λ i P at. let l = slice_get_within c.args.profiles.now i P at in c.loop-profile.invariant i P (omega (arith, l, c.loop-profile-test.false)) at
