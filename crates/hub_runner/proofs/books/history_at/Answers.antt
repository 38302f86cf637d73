use Rattle.std.proofs.Common.{ap, ◌∙◌}
use Rattle.hub_runner.specs.Settling.{history_or_none}
use Rattle.hub_runner.proofs.Found.{first_of}
use Rattle.hub_runner.proofs.books.history_at.Goals as goal

pub returns-in-Some : goal.returns-in-Some
returns-in-Some c = c.history.ensures.value ∙ ap history_or_none (c.in-Some.ensures ∙ first_of c.args.books.now c.args.root.now)

pub returns-in-None : goal.returns-in-None
returns-in-None c = ap history_or_none (c.in-None.ensures ∙ first_of c.args.books.now c.args.root.now)
