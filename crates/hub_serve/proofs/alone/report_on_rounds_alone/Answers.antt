use Rattle.hub_serve.proofs.RunAlone.{beside-no_numbers, cut-made, uncut-made}
use Rattle.hub_serve.proofs.alone.report_on_rounds_alone.Goals as goal

pub returns-in-Ok-clause-planned : goal.returns-in-Ok-clause-planned
returns-in-Ok-clause-planned c =
    cut-made c.args.roster.now c.args.profiles c.args.rules c.args.archives.now c.in-Ok.found c.report_on_cut.result c.in-Ok.ensures.found c.report_on_cut.ensures.told

pub returns-in-Err-clause-planned : goal.returns-in-Err-clause-planned
returns-in-Err-clause-planned c =
    uncut-made c.args.roster.now c.args.profiles c.args.rules c.args.archives.now c.in-Err.fault c.refused.result c.in-Err.ensures.refused
    (λ S. c.refused.ensures.told S (beside-no_numbers c.args.roster.now c.args.profiles c.args.rules c.in-Err.fault c.in-Err.ensures.refused))
