use Rattle.hub_serve.proofs.PlansInUnison.{found-of}
use Rattle.hub_serve.proofs.plan.lines_of.Goals as goal

pub returns-clause-found : goal.returns-clause-found
returns-clause-found c =
    found-of c.profiles_without_lines_are_safe_in_unison.ensures.pair c.rounds_without_lines_are_safe_in_unison.ensures.safe
    c.profiles_without_lines_are_safe_in_unison.ensures.one c.args.profiles c.args.rules c.lines_in_unison.result
    c.lines_in_unison.ensures.valid c.lines_in_unison.ensures.readings c.lines_in_unison.ensures.rules c.lines_in_unison.ensures.lines
