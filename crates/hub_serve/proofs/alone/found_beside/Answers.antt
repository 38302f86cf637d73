use Rattle.std.proofs.Common.{◌∙◌, ap, sym}
use Rattle.hub_serve.specs.Plans.{twice}
use Rattle.hub_serve.proofs.RunAlone.{beside-found}
use Rattle.hub_serve.proofs.alone.found_beside.Goals as goal

pub returns-clause-found : goal.returns-clause-found
returns-clause-found c =
    beside-found c.args.roster.now c.args.profiles c.args.rules c.searched_by_writer.result
    (ap twice (sym c.as_slice.ensures) ∙ c.in_ok-check_names.ensures.different) c.searched_by_writer.ensures.found
