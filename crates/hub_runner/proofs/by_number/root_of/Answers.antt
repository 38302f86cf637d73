use Rattle.std.proofs.Common.{◌≡◌, ap, sym, ◌∙◌}
use Rattle.hub_reconcile.specs.laws.Views.{same_paths}
use Rattle.hub_path.specs.declared.side.Side.TheVariants.{Left, Right}
use Rattle.hub_reconcile.specs.Sync.{root_or_top}
use Rattle.hub_job.specs.Run.{root_at}
use Rattle.hub_job.specs.laws.Roots.{has_own}
use Rattle.hub_runner.proofs.Roots.{no_root}
use Rattle.hub_runner.proofs.by_number.root_of.Goals as goal

pub returns-then-eq : goal.returns-then-eq
returns-then-eq c =
    let P = c.args.profile.now in
    let is : c.root-left.result.now ≡ root_at P Left = sym (ap root_or_top c.root-left.ensures.value) in
    let same = same_paths c.root-left.result.now c.args.root.now (sym c.eq.ensures ∙ c.if-eq.true) in
    (same, has_own P c.root-left.ensures.valid Left c.args.root.now (sym same ∙ is))

pub returns-then-eq-2 : goal.returns-then-eq-2
returns-then-eq-2 c =
    let P = c.args.profile.now in
    let is : c.root-right.result.now ≡ root_at P Right = sym (ap root_or_top c.root-right.ensures.value) in
    let same = same_paths c.root-right.result.now c.args.root.now (sym c.eq-2.ensures ∙ c.if-eq-2.true) in
    (same, has_own P c.root-right.ensures.valid Right c.args.root.now (sym same ∙ is))

pub returns : goal.returns
returns c =
    no_root c.args.profile.now c.root-left.ensures.valid c.root-left.result.now c.root-right.result.now c.args.root.now
    (sym (ap root_or_top c.root-left.ensures.value)) (sym (ap root_or_top c.root-right.ensures.value))
    (sym c.eq.ensures ∙ c.if-eq.false) (sym c.eq-2.ensures ∙ c.if-eq-2.false)
