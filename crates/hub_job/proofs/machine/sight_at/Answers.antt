use Rattle.std.proofs.Common.{Bool, false, ◌&&◌, List, sym, ap, ◌∙◌}
use Rattle.std.proofs.lemmas.Result.{IfOk-weaker}
use Rattle.hub_path.specs.Path.{Name}
use Rattle.hub_reach.specs.Reach.{writes_at}
use Rattle.hub_reach.specs.laws.General.{reach-below}
use Rattle.hub_tree.specs.Tree.{contents_at, is_directory}
use Rattle.hub_reconcile.specs.Sight.{Sight, directory_or_absent}
use Rattle.hub_job.proofs.Performs.{sees_reached, sees_top, sees_elsewhere}
use Rattle.hub_job.proofs.machine.sight_at.Goals as goal

pub look_with-requires : goal.look_with-requires
look_with-requires c = reach-below c.args.profile.now c.args.path.now (sym c.reaches.ensures ∙ c.if-reaches.true)

pub returns-then-reaches : goal.returns-then-reaches
returns-then-reaches c =
    let P = c.args.profile.now in
    let r = c.args.root.now in
    let d = c.args.path.now in
    IfOk-weaker c.sight_with.result _ _
    (λ s h. h
    ∙ sees_reached P r c.args.tree.now d _ _ _ (sym c.reaches.ensures ∙ c.if-reaches.true) c.in_ok-mark.ensures.mark c.in_ok-mark.ensures.names
    (c.are_told-others.ensures ∙ ap (λ (b : Bool). writes_at P r d && b) c.in_ok-mark.ensures.others))
    c.sight_with.ensures

pub returns-then-is_kept_top : goal.returns-then-is_kept_top
returns-then-is_kept_top c =
    IfOk-weaker c.new.result _ _
    (λ s h. h
    ∙ sees_top c.args.profile.now c.args.root.now c.args.tree.now c.args.path.now _ (sym c.reaches.ensures ∙ c.if-reaches.false) (sym c.is_kept_top.ensures ∙ c.if-is_kept_top.true) c.in_ok-names.ensures.names)
    c.new.ensures

pub returns : goal.returns
returns c =
    let P = c.args.profile.now in
    let d = c.args.path.now in
    IfOk-weaker c.new-3.result _ _
    (λ s h. h
    ∙ ap (λ (ns : List Name). let t : Sight = record { mark = c.parent_mark-mark.result; names = ns; others = false } in t) c.new-2.ensures
    ∙ sees_elsewhere P c.args.root.now c.args.tree.now d _ (sym c.reaches.ensures ∙ c.if-reaches.false) (sym c.is_kept_top.ensures ∙ c.if-is_kept_top.false)
    (c.parent_mark-mark.ensures ∙ ap (λ (b : Bool). directory_or_absent (b && is_directory (contents_at c.args.tree.now d))) c.in_ok-is_parent.ensures))
    c.new-3.ensures
