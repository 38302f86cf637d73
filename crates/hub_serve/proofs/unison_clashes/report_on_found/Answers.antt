use Rattle.hub_serve.specs.declared.unison_question.UnisonQuestion.TheVariants as unison
use Rattle.hub_serve.proofs.UnisonTold.{asked-holds}
use Rattle.hub_serve.proofs.unison_clashes.report_on_found.Goals as goal

pub returns-in-Check-clause-holds : goal.returns-in-Check-clause-holds
returns-in-Check-clause-holds c =
    asked-holds c.args.question unison.Check c.args.archives.now c.args.found c.report_on_first.result c.in-Check.is c.report_on_first.ensures.holds

pub returns-in-Clashes-clause-holds : goal.returns-in-Clashes-clause-holds
returns-in-Clashes-clause-holds c =
    asked-holds c.args.question unison.Clashes c.args.archives.now c.args.found c.report_on_lines.result c.in-Clashes.is c.report_on_lines.ensures.holds

pub returns-in-Graph-clause-holds : goal.returns-in-Graph-clause-holds
returns-in-Graph-clause-holds c =
    asked-holds c.args.question unison.Graph c.args.archives.now c.args.found c.report_on_graph.result c.in-Graph.is c.report_on_graph.ensures.holds

pub returns-clause-holds : goal.returns-clause-holds
returns-clause-holds c =
    asked-holds c.args.question unison.Rounds c.args.archives.now c.args.found c.report_on_cut.result c.in-Rounds.is c.report_on_cut.ensures.holds
