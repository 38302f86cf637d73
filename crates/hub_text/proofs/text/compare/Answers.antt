use Rattle.std.proofs.Common.{◌∙◌}
use Rattle.hub_text.specs.laws.TextOrder.{cmp-chars}
use Rattle.hub_text.proofs.text.compare.Goals as goal

pub returns : goal.returns
returns c = c.cmp.ensures ∙ cmp-chars c.args.a.now c.args.b.now c.utf8.a c.utf8.b
