use Rattle.std.proofs.Common.{List, ap, ◌∙◌}
use Rattle.std.proofs.lemmas.Result.{IfOk-weaker}
use Rattle.hub_path.specs.declared.side.Side.TheVariants.{Left, Right}
use Rattle.hub_reconcile.specs.Items.{items}
use Rattle.hub_reconcile.specs.Picture.{told_by}
use Rattle.hub_reconcile.specs.Sync.{next_archive}
use Rattle.hub_reconcile.specs.View.{View}
use Rattle.hub_reconcile.specs.declared.look.Look.{Look}
use Rattle.hub_job.specs.Job.{view_in}
use Rattle.hub_job.proofs.Plans.{looks_rise_in, shown_by}
use Rattle.hub_job.proofs.planned.ending.Goals as goal

pub new-picture-requires-clause-left : goal.new-picture-requires-clause-left
new-picture-requires-clause-left c = looks_rise_in c.args.profile.now c.args.log.now Left _ _ c.requires.left c.as_slice.ensures.value c.in_ok-left.ensures

pub new-picture-requires-clause-right : goal.new-picture-requires-clause-right
new-picture-requires-clause-right c = looks_rise_in c.args.profile.now c.args.log.now Right _ _ c.requires.right c.as_slice-2.ensures.value c.in_ok-right.ensures

pub returns-clause-items : goal.returns-clause-items
returns-clause-items c =
    IfOk-weaker c.items_and_archive.result _ _
    (λ e h.
    h
    ∙ ap (λ (V : View). items V) (shown_by c.args.profile.now c.args.archive.now c.args.log.now c.new-picture.result c.new-picture.ensures.profile c.new-picture.ensures.archive
    (ap (λ (ls : List Look). told_by ls) (c.new-picture.ensures.left ∙ c.as_slice.ensures.value) ∙ c.in_ok-left.ensures)
    (ap (λ (ls : List Look). told_by ls) (c.new-picture.ensures.right ∙ c.as_slice-2.ensures.value) ∙ c.in_ok-right.ensures)))
    c.items_and_archive.ensures.items

pub returns-clause-archive : goal.returns-clause-archive
returns-clause-archive c =
    IfOk-weaker c.items_and_archive.result _ _
    (λ e h.
    h
    ∙ (ap (λ (V : View). next_archive V c.new-picture.result.archive.now) (shown_by c.args.profile.now c.args.archive.now c.args.log.now c.new-picture.result c.new-picture.ensures.profile c.new-picture.ensures.archive
    (ap (λ (ls : List Look). told_by ls) (c.new-picture.ensures.left ∙ c.as_slice.ensures.value) ∙ c.in_ok-left.ensures)
    (ap (λ (ls : List Look). told_by ls) (c.new-picture.ensures.right ∙ c.as_slice-2.ensures.value) ∙ c.in_ok-right.ensures))
    ∙ ap (next_archive (view_in c.args.profile.now c.args.archive.now c.args.log.now)) c.new-picture.ensures.archive))
    c.items_and_archive.ensures.archive
