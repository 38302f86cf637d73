use Rattle.std.proofs.Common.{◌∙◌, ap}
use Rattle.hub_profile.specs.Parts.{some_passes}
use Rattle.hub_reach.specs.Reach.{covers}
use Rattle.hub_reach.proofs.verbs.is_covered_at.Goals as goal

pub returns-in-Some : goal.returns-in-Some
returns-in-Some c = c.covers.ensures ∙ ap (some_passes (covers c.args.verb)) c.in-Some.ensures

pub returns-in-None : goal.returns-in-None
returns-in-None c = ap (some_passes (covers c.args.verb)) c.in-None.ensures
