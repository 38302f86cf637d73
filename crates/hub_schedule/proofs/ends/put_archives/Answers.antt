use Rattle.std.proofs.Common.{◌∙◌}
use Rattle.hub_schedule.proofs.Marked.{kept_last, kept_rest, marks_rest, there_rest}
use Rattle.hub_schedule.proofs.ends.put_archives.Goals as goal

pub put_next-requires : goal.put_next-requires
put_next-requires c = kept_last c.loop-job.nexts.items c.pop.new.self.items c.in-Some.job c.in-Some.ensures.items c.loop-job.invariant.kept

pub loop-job-preserved : goal.loop-job-preserved
loop-job-preserved c =
    let inv = c.loop-job.invariant in
    let all = c.loop-job.nexts.items in
    let rest = c.pop.new.self.items in
    let last = c.in-Some.ensures.items in
    record {
      replicas = c.in_ok-put_next.ensures.replicas ∙ inv.replicas;
      archives = λ r s one other off.
          there_rest all rest c.in-Some.job c.loop-job.state c.put_next.new.state last c.in_ok-put_next.ensures.archives r s one other off ∙ inv.archives r s one other off;
      marks = λ r s p one other off.
          marks_rest all rest c.in-Some.job c.loop-job.state c.put_next.new.state last c.in_ok-put_next.ensures.marks r s p one other off ∙ inv.marks r s p one other off;
      kept = kept_rest all rest c.in-Some.job last inv.kept;
    }
