use Rattle.hub_state.proofs.reader.take_line_at.Goals as goal

pub returns-in-Err-clause-err : goal.returns-in-Err-clause-err
returns-in-Err-clause-err c = (c.in-Err.fault, c.placed-stop.ensures, c.in-Err.ensures.err)
