use Rattle.std.proofs.Common.{◌∙◌, chars}
use Rattle.std.proofs.lemmas.Str.{scalars-chars}
use Rattle.hub_path.specs.laws.NameFacts.{is_name-tests}
use Rattle.hub_path.proofs.name.is_name.Goals as goal

pub returns : goal.returns
returns c = c.passes_tests.ensures ∙ is_name-tests (chars c.args.text.now) (scalars-chars c.args.text.now c.utf8.text)
