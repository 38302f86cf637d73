use Rattle.std.proofs.Common.{arith, ◌∙◌, Some, ap, subst, sym, MatchOption}
use Rattle.std.proofs.lemmas.Option.{slice_get-get_or, slice_get_within}
use Rattle.hub_path.specs.Path.{Path}
use Rattle.hub_profile.specs.Parts.{Parts}
use Rattle.hub_archives.specs.Seen.{IsHeldAtAs, KeptOutBy}
use Rattle.hub_archives.proofs.Keeping.{one_more_kept}
use Rattle.hub_archives.proofs.held.held_in.Goals as goal

pub loop-number-preserved : goal.loop-number-preserved
loop-number-preserved c =
    let C : Parts = c.args.reading.now in
    let g : Path = c.index-folders-number.result in
    one_more_kept c.args.folds C c.args.folders.now c.loop-number.number g c.loop-number.invariant
    (slice_get-get_or c.args.folders.now c.loop-number.number g c.loop-number-test.true ∙ ap Some (sym c.index-folders-number.is))
    c.in_ok-path.ensures.valid
    (subst (λ o. MatchOption o (KeptOutBy c.args.folds g C) (IsHeldAtAs c.args.folds g C)) c.in_default.is c.in_ok-path.ensures.held)

pub returns : goal.returns
returns c i f at =
    c.loop-number.invariant i f (omega (arith, slice_get_within c.args.folders.now i f at, c.loop-number-test.false)) at
