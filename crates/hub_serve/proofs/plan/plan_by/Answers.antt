use Rattle.hub_serve.proofs.Planning.{written-of}
use Rattle.hub_serve.proofs.plan.plan_by.Goals as goal

pub returns : goal.returns
returns c =
    written-of c.args.roster.now c.args.found.now c.plan_of.result _ _ _ c.args.archives.now c.as_slice.ensures c.as_slice-2.ensures.value
    c.as_slice-3.ensures c.plan_of.ensures.text c.plan_of.ensures.whole
