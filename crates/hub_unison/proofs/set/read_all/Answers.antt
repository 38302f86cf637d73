use Rattle.hub_unison.specs.ReadingOf.{reading_of}
use Rattle.hub_unison.proofs.BesideRules.{mapped}
use Rattle.hub_unison.proofs.set.read_all.Goals as goal

pub loop-profile-preserved : goal.loop-profile-preserved
loop-profile-preserved c =
    mapped (reading_of c.args.rules.now) c.loop-profile.yielded c.loop-profile.readings _ c.in-Some.profile c.in_ok-read.field-0
    c.loop-profile.invariant c.in_ok-read.ensures c.in_ok-push.ensures.ok
