use Rattle.std.proofs.lemmas.Bool.Decides.{Decides-eqb}
use Rattle.std.proofs.lemmas.Slice.Eq.{strip_prefix_is}
use Rattle.hub_mend.proofs.Cutting.{rest-is}
use Rattle.hub_mend.proofs.text.rest_after.Goals as goal

pub returns : goal.returns
returns c =
    rest-is c.args.text.now c.args.front.now c.strip_prefix.result
    (strip_prefix_is Decides-eqb c.args.text.now c.args.front.now c.strip_prefix.result c.strip_prefix.ensures.cases)
