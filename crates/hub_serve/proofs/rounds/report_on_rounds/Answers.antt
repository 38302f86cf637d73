use Rattle.hub_serve.proofs.rounds.report_on_rounds.Goals as goal

pub returns-clause-told : goal.returns-clause-told
returns-clause-told c = c.report_on_cut.ensures.told c.args.reading c.args.set c.cut.ensures.cut c.cut.ensures.uncut
