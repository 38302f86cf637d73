use Rattle.std.proofs.Common.{◌∙◌, ap}
use Rattle.hub_profile.specs.Parts.{some_passes, is_root_at}
use Rattle.hub_reach.proofs.verbs.is_forced_root.Goals as goal

pub returns-in-Some : goal.returns-in-Some
returns-in-Some c = c.is_root_at.ensures ∙ ap (some_passes (is_root_at c.args.profile.now c.args.root.now)) c.in-Some.ensures

pub returns-in-None : goal.returns-in-None
returns-in-None c = ap (some_passes (is_root_at c.args.profile.now c.args.root.now)) c.in-None.ensures
