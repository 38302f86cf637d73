use Rattle.hub_serve.proofs.MendInUnison.{of-one-checked, unmended-holds, unmended-read}
use Rattle.hub_serve.proofs.mend_in_unison.check_less_of_one.Goals as goal

pub returns-in-Ok-clause-less : goal.returns-in-Ok-clause-less
returns-in-Ok-clause-less c =
    of-one-checked c.args.bytes.now c.args.with_lines.now _ _ c.check_contents.result c.in_ok-old.ensures.spelled c.in-Ok.ensures.spelled c.check_contents.ensures.less

pub returns-in-Err-clause-faulty : goal.returns-in-Err-clause-faulty
returns-in-Err-clause-faulty c = unmended-holds c.args.bytes.now c.unmended.result c.unmended.ensures

pub returns-in-Err-clause-read : goal.returns-in-Err-clause-read
returns-in-Err-clause-read c = unmended-read c.unmended.result c.unmended.ensures
