use Rattle.std.proofs.Common.{◌≢◌, Some, refl, ap, sym, ◌∙◌}
use Rattle.std.proofs.lemmas.Bool.{false≢true}
use Rattle.std.proofs.lemmas.Option.{slice_get_read}
use Rattle.hub_text.specs.laws.List.{also-here}
use Rattle.hub_reconcile.specs.laws.Views.{same_paths}
use Rattle.hub_job.specs.laws.Untouched.{path-of_Some}
use Rattle.hub_schedule.specs.declared.slot.WorkingTree.{WorkingTree}
use Rattle.hub_schedule.proofs.slots.find_tree.Goals as goal

pub returns-then-eq : goal.returns-then-eq
returns-then-eq c =
    let t = c.index-trees-place.result in (
      t,
      slice_get_read c.args.trees.now _ c.loop-place.place t refl c.loop-place-test.true c.index-trees-place.is,
      same_paths t.root.now c.args.root.now (sym c.eq.ensures ∙ c.if-eq.true),
    )

pub loop-place-preserved : goal.loop-place-preserved
loop-place-preserved c =
    let ts = c.args.trees.now in
    let n = c.loop-place.place in
    let t = c.index-trees-place.result in
    also-here (λ (t : WorkingTree). t.root.now ≢ c.args.root.now) ts n t (slice_get_read ts _ n t refl c.loop-place-test.true c.index-trees-place.is)
    (λ e. false≢true (sym c.if-eq.false ∙ (c.eq.ensures ∙ path-of_Some t.root.now c.args.root.now (ap (λ p. Some p) e)))) c.loop-place.invariant
