use Rattle.std.proofs.Common.{◌≡◌, ◌∙◌, ap, sym, subst}
use Rattle.std.specs.Prelude.{fold, map}
use Rattle.hub_state.specs.State.{State}
use Rattle.hub_job.specs.declared.outcome.Outcome.{Outcome}
use Rattle.hub_schedule.specs.forms.Left.{AreKept, HasArchives, HasMarks, mark_from, next_value, one_is_left, put_tree}
use Rattle.hub_schedule.proofs.Joined.{joined, was_stopped, went_on}
use Rattle.hub_schedule.proofs.Unreached.{all_kept}
use Rattle.hub_schedule.proofs.schedule.outcome_of.Goals as goal

pub put_archives-requires : goal.put_archives-requires
put_archives-requires c =
    let t = c.requires in
    subst AreKept (sym c.in_ok-jobs.ensures.nexts) (all_kept t.0 t.1 c.args.slots.items c.args.trees.items t.2)

pub returns : goal.returns
returns c =
    let S = c.args.state.now in
    let slots = c.args.slots.items in
    let trees = c.args.trees.items in
    let after = c.put_archives.new.state in
    let o : Outcome = record { state = after; jobs = c.in_ok-jobs.jobs } in
    let put : c.put_trees.new.state ≡ fold put_tree S trees = c.in_ok-put_trees.ensures ∙ ap (λ (s : State). fold put_tree s trees) c.in_ok-after.ensures in
    let there : HasArchives (one_is_left (map next_value slots)) (fold put_tree S trees) after =
    subst (λ (s : State). HasArchives (one_is_left (map next_value slots)) s after) put
    (subst (λ ns. HasArchives (one_is_left ns) c.put_trees.new.state after) c.in_ok-jobs.ensures.nexts c.in_ok-put_archives.ensures.archives) in
    let marks : HasMarks (mark_from (map next_value slots)) (fold put_tree S trees) after =
    subst (λ (s : State). HasMarks (mark_from (map next_value slots)) s after) put
    (subst (λ ns. HasMarks (mark_from ns) c.put_trees.new.state after) c.in_ok-jobs.ensures.nexts c.in_ok-put_archives.ensures.marks) in
    record {
      outcome = record {
        leaves = λ Ps w has table.
            joined S Ps has w slots trees table o c.in_ok-jobs.ensures.ends
            (c.in_ok-put_archives.ensures.replicas ∙ ap (λ (s : State). s.replicas) put) there marks;
        going = went_on slots o c.in_ok-jobs.ensures.ends;
        stopped = was_stopped S slots trees o c.in_ok-jobs.ensures.ends;
      };
      ends = c.in_ok-jobs.ensures.ends;
    }
