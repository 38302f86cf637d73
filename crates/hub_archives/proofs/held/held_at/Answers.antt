use Rattle.std.proofs.Common.{arith, ◌∙◌, Some, ap, subst, sym, MatchOption}
use Rattle.std.proofs.lemmas.Option.{slice_get-get_or, slice_get_within}
use Rattle.hub_archives.specs.Seen.{IsHeldBelowAs, KeptOutBelow}
use Rattle.hub_archives.proofs.Keeping.{at_each_root, root_at_place}
use Rattle.hub_archives.proofs.held.held_at.Goals as goal

pub returns-in-Some-clause-held : goal.returns-in-Some-clause-held
returns-in-Some-clause-held c =
    let found : IsHeldBelowAs c.args.folds c.root-item.result c.args.folder.now c.args.reading.now c.in-Some.path =
    subst (λ o. MatchOption o (KeptOutBelow c.args.folds c.root-item.result c.args.folder.now c.args.reading.now) (IsHeldBelowAs c.args.folds c.root-item.result c.args.folder.now c.args.reading.now)) c.in-Some.is c.in_ok-path.ensures in (
      c.root-item.result,
      root_at_place c.args.reading.now c.as_slice-root-items.result.now c.loop-root.root-index c.root-item.result (c.as_slice-root-items.ensures ∙ c.roots.ensures.value)
          (slice_get-get_or c.as_slice-root-items.result.now c.loop-root.root-index c.root-item.result c.loop-root-test.true ∙ ap Some (sym c.root-item.is)),
      found,
    )

pub returns-clause-held : goal.returns-clause-held
returns-clause-held c =
    at_each_root c.args.folds c.args.reading.now c.as_slice-root-items.result.now c.args.folder.now (c.as_slice-root-items.ensures ∙ c.roots.ensures.value)
    (λ m r at. c.loop-root.invariant m r (omega (arith, slice_get_within c.as_slice-root-items.result.now m r at, c.loop-root-test.false)) at)
