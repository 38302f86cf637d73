-- Entries are told apart by their jobs, their operations and their answers, and those of logs by
-- their sides too.
use Rattle.std.specs.Prelude.{◌&&◌, Bool, nat_eq}
use Rattle.hub_text.specs.Exact.{IsExact}
use Rattle.hub_text.specs.laws.Exact.{both_exact, nat_exact}
use Rattle.hub_path.specs.declared.side.Side.{Side}
use Rattle.hub_job.specs.declared.answer.Answer.{Answer}
use Rattle.hub_job.specs.declared.log.Entry.{Entry}
use Rattle.hub_job.specs.declared.log.Logged.{Logged}
use Rattle.hub_job.specs.declared.op.Op.{Op}

pub entry_exact : {E : Op → Op → Bool} {F : Answer → Answer → Bool} → IsExact E → IsExact F
    → IsExact (λ (x y : Entry). nat_eq x.job y.job && (E x.op y.op && F x.answer y.answer))
entry_exact f g x y =
    let three = both_exact (nat_exact x.job y.job) (both_exact (f x.op y.op) (g x.answer y.answer))
    in (
      λ e i. record { job = (three.0 e).0 i; op = (three.0 e).1.0 i; answer = (three.0 e).1.1 i },
      λ e. three.1 (λ i. (e i).job, (λ i. (e i).op, λ i. (e i).answer)),
    )

pub logged_exact : {E : Side → Side → Bool} {F : Entry → Entry → Bool} → IsExact E → IsExact F
    → IsExact (λ (x y : Logged). E x.side y.side && F x.step y.step)
logged_exact f g x y =
    let two = both_exact (f x.side y.side) (g x.step y.step) in (
      λ e i. record { side = (two.0 e).0 i; step = (two.0 e).1 i },
      λ e. two.1 (λ i. (e i).side, λ i. (e i).step),
    )
