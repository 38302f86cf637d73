use Rattle.std.proofs.Common.{◌||◌, ◌&&◌, length, sym, ap, ◌∙◌, arith}
use Rattle.std.specs.Prelude.{Bool, List, ◌==◌}
use Rattle.std.specs.List.{list_any}
use Rattle.hub_path.specs.Path.{Path, parent, path_eq}
use Rattle.hub_profile.specs.Parts.{Parts}
use Rattle.hub_reach.specs.Reach.{reach}
use Rattle.hub_job.proofs.Performs.{kept_parent_is, one_passes, past_all}
use Rattle.hub_job.proofs.machine.is_kept_parent.Goals as goal

abbrev counts : Parts → Path → Path → Bool
counts P d s = (length s == 0 || reach P s) && path_eq (parent s) d

pub returns-then-branch : goal.returns-then-branch
returns-then-branch c =
    let P = c.args.profile.now in
    let d = c.args.path.now in
    sym (kept_parent_is P d
    ∙ (ap (λ (ps : List Path). list_any (counts P d) ps) (sym c.paths-kept-items.ensures.value)
    ∙ (sym c.loop-kept.invariant
    ∙ one_passes (counts P d) c.paths-kept-items.result.now c.loop-kept.kept-index c.kept-item.result (omega arith) c.kept-item.is
    (sym c.in_ok-is_reached_child.ensures ∙ c.if-branch.true))))

pub returns : goal.returns
returns c =
    let P = c.args.profile.now in
    let d = c.args.path.now in
    sym (kept_parent_is P d
    ∙ (ap (λ (ps : List Path). list_any (counts P d) ps) (sym c.paths-kept-items.ensures.value)
    ∙ (sym c.loop-kept.invariant
    ∙ ap (λ (ps : List Path). list_any (counts P d) ps) (past_all c.loop-kept.kept-index c.paths-kept-items.result.now (omega arith)))))
