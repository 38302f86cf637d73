use Rattle.hub_serve.proofs.MendInUnison.{both-checked}
use Rattle.hub_serve.proofs.mend_in_unison.check_less.Goals as goal

pub returns-clause-less : goal.returns-clause-less
returns-clause-less c =
    both-checked c.args.bytes.now c.args.with_lines.now c.check_less_of_two.result c.in_ok-check_less_of_one.ensures.less c.check_less_of_two.ensures.less
