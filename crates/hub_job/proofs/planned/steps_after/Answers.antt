use Rattle.std.proofs.Common.{List, ap, ◌∙◌}
use Rattle.hub_path.specs.declared.side.Side.TheVariants.{Left, Right}
use Rattle.std.specs.List.{flat_map}
use Rattle.hub_reconcile.specs.Items.{plan}
use Rattle.hub_reconcile.specs.Picture.{told_by}
use Rattle.hub_reconcile.specs.View.{View}
use Rattle.hub_reconcile.specs.declared.change.Change.{Change}
use Rattle.hub_reconcile.specs.declared.look.Look.{Look}
use Rattle.hub_job.specs.Job.{steps_of}
use Rattle.hub_job.proofs.Plans.{looks_rise_in, shown_by, steps_follow}
use Rattle.hub_job.proofs.planned.steps_after.Goals as goal

pub new-picture-requires-clause-left : goal.new-picture-requires-clause-left
new-picture-requires-clause-left c = looks_rise_in c.args.profile.now c.args.log.now Left _ _ c.requires.left c.as_slice.ensures.value c.in_ok-left.ensures

pub new-picture-requires-clause-right : goal.new-picture-requires-clause-right
new-picture-requires-clause-right c = looks_rise_in c.args.profile.now c.args.log.now Right _ _ c.requires.right c.as_slice-2.ensures.value c.in_ok-right.ensures

pub returns : goal.returns
returns c =
    steps_follow c.args.profile.now c.args.archive.now c.args.log.now _ c.requires.looks c.requires.left c.requires.right
    (c.in_ok-steps_of.ensures
    ∙ ap (λ (cs : List Change). flat_map (λ (c : Change). steps_of c.side c.path c.mark) cs)
    (c.in_ok-changes.ensures
    ∙ ap (λ (V : View). plan V) (shown_by c.args.profile.now c.args.archive.now c.args.log.now c.new-picture.result c.new-picture.ensures.profile c.new-picture.ensures.archive
    (ap (λ (ls : List Look). told_by ls) (c.new-picture.ensures.left ∙ c.as_slice.ensures.value) ∙ c.in_ok-left.ensures)
    (ap (λ (ls : List Look). told_by ls) (c.new-picture.ensures.right ∙ c.as_slice-2.ensures.value) ∙ c.in_ok-right.ensures))))
