use Rattle.std.proofs.Common.{sym, ◌∙◌}
use Rattle.hub_serial.proofs.laws.whenever_they_start_it_is_as_serial.Goals as goal

pub returns : goal.returns
returns c = λ Ps replicas archives R es facts trees starter settled.
    let given = c.a_starter_gives_what_is_due.ensures.given Ps R archives es facts starter in
    let left = c.a_starter_gives_what_is_due.ensures.left Ps R archives es facts starter in
    let serial = c.histories_in_order_are_serial.ensures.serial Ps replicas archives R facts settled given in
    record {
      recorded = serial;
      left = serial.archive ∙ sym left;
      work = c.histories_in_order_are_serial.ensures.work Ps replicas archives R facts trees settled;
    }
