use Rattle.std.proofs.Common.{◌∙◌, sym}
use Rattle.hub_serve.specs.declared.task.Task.TheVariants as task
use Rattle.hub_serve.proofs.Told.{apart-lines, apart-no_numbers, apart-refused, refused-told}
use Rattle.hub_serve.proofs.rounds.report_on_rounds_apart.Goals as goal

pub returns-in-Ok-clause-told : goal.returns-in-Ok-clause-told
returns-in-Ok-clause-told c = λ S ps rs put cs.
    let f = c.in-Ok.ensures in
    let lines = apart-lines S c.args.profiles c.args.rules c.in-Ok.found.lines ps rs put f.lines in
    let of_ps = ps ∙ sym f.profiles in
    let of_rs = rs ∙ sym f.rules in
    c.report_on_cut.ensures.told c.args.reading S (c.cut_apart.ensures.cut S of_ps of_rs lines) (c.cut_apart.ensures.uncut S of_ps of_rs lines) cs

pub returns-in-Err-clause-told : goal.returns-in-Err-clause-told
returns-in-Err-clause-told c = λ S ps rs put cs.
    let e = c.in-Err.fault in
    let refused = apart-refused S c.args.profiles c.args.rules e ps rs c.in-Err.ensures.refused in
    refused-told (task.Rounds c.args.reading) S cs e c.refusal_without_set.result (put, refused) (c.refusal_without_set.ensures.line S (apart-no_numbers S e refused))
