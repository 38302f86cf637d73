use Rattle.hub_serve.proofs.MendInUnison.{of-two-checked, unmended-holds, unmended-read}
use Rattle.hub_serve.proofs.mend_in_unison.check_less_of_two.Goals as goal

pub returns-in-Err-clause-faulty : goal.returns-in-Err-clause-faulty
returns-in-Err-clause-faulty c = unmended-holds c.args.bytes.now c.unmended.result c.unmended.ensures

pub returns-in-Err-clause-read : goal.returns-in-Err-clause-read
returns-in-Err-clause-read c = unmended-read c.unmended.result c.unmended.ensures

pub returns-clause-less : goal.returns-clause-less
returns-clause-less c =
    of-two-checked c.args.bytes.now c.args.with_lines.now _ _ _ c.check_readings.result c.new-none.ensures c.in_ok-old.ensures.spelled
    c.in-Ok.ensures.spelled c.check_readings.ensures.less
