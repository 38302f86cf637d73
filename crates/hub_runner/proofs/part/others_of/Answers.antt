use Rattle.std.proofs.Common.{List, Vec, Global, ◌+◌, ◌∙◌, ap, sym, subst}
use Rattle.hub_job.specs.JobValue.{JobValue}
use Rattle.hub_runner.specs.Part.{AreOthers}
use Rattle.hub_runner.proofs.Waiting.{others_in, others_out}
use Rattle.hub_runner.proofs.part.others_of.Goals as goal
use Rattle.hub_runner.proofs.part.others_of.Goals.{then-not-is_in+in_ok-waiting+in_ok-push, else-not-is_in}

pub loop-number-preserved : goal.loop-number-preserved
loop-number-preserved c =
    let part = c.args.part.now in
    let n = c.loop-number.number in
    let others = c.loop-number.others.items in
    let are = c.loop-number.invariant in
    let so = λ (Js : List JobValue). AreOthers part (n + 1) Js in
    let items = λ (v : Vec JobValue Global). v.items in
    elim c.if-not-is_in.branch [
      | then-not-is_in+in_ok-waiting+in_ok-push w ↦
          subst so (sym (ap items w.others-is ∙ w.in_ok-push.ensures.items))
          (others_out part n others w.in_ok-waiting.field-0 are w.in_ok-waiting.ensures.number w.in_ok-waiting.ensures.waits)
      | else-not-is_in w ↦
          subst so (sym (ap items w.others-is)) (others_in part n others are (sym c.is_in.ensures ∙ w.if-not-is_in.false))
    ]
