use Rattle.std.proofs.Common.{vec_len}
use Rattle.hub_starter.proofs.Merging.{AreMergedFrom}
use Rattle.hub_starter.proofs.running.take_over.Given as goal

abbrev pub invariant-loop-job : goal.invariant-loop-job
invariant-loop-job l =
    AreMergedFrom l.numbers l.wave l.initial.all.items l.initial.own.items l.own.items l.all.items

abbrev pub decreases-loop-job : goal.decreases-loop-job
decreases-loop-job l = vec_len l.own
