use Rattle.std.proofs.Common.{refl}
use Rattle.std.specs.Vec.{vec_len, vec_capacity}
use Rattle.hub_job.proofs.Jobs.{stopped_now, stopped_value}
use Rattle.hub_job.proofs.job.Job.stop.Goals as goal

pub invariant_of-self : goal.invariant_of-self
invariant_of-self c =
    let s = c.self.inside in
    stopped_now s.profile.now s.archive.now s.number s.log.items s.log.items c.stop.new.asked c.stop.new.phase (vec_len s.log) (vec_capacity s.log) c.self.invariant.0.job.run refl
    c.stop.ensures.phase c.stop.ensures.asked

pub returns : goal.returns
returns c =
    let s = c.self.inside in
    stopped_value c.args.self.now s.profile.now s.archive.now s.number s.log.items s.asked c.stop.new.asked s.phase c.stop.new.phase c.self.view_is c.stop.ensures.phase c.stop.ensures.asked
