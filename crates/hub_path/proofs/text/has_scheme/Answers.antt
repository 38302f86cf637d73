use Rattle.std.proofs.Common.{◌∙◌, ap}
use Rattle.hub_path.specs.Reading.{has_scheme}
use Rattle.hub_path.specs.laws.Ascii.{has_scheme-text}
use Rattle.hub_path.proofs.text.has_scheme.Goals as goal

pub returns : goal.returns
returns c = c.is_scheme_first.ensures ∙ (ap has_scheme c.as_bytes.ensures.value ∙ has_scheme-text c.args.text.now c.utf8.text)
