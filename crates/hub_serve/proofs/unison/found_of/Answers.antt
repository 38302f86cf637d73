use Rattle.std.proofs.Common.{◌∙◌, ap, sym}
use Rattle.hub_serve.specs.InUnison.{namesake}
use Rattle.hub_serve.proofs.UnisonFound.{named-found}
use Rattle.hub_serve.proofs.unison.found_of.Goals as goal

pub returns-clause-found : goal.returns-clause-found
returns-clause-found c =
    named-found c.args.profiles c.args.rules c.searched_by_writer.result
    (ap namesake (sym c.as_slice.ensures) ∙ c.in_ok-check_names.ensures.different) c.searched_by_writer.ensures.found
