use Rattle.hub_profile.proofs.Whole.{is_profile_read}
use Rattle.hub_profile.proofs.laws.readings_are_profiles.Goals as goal

pub returns : goal.returns
returns c = is_profile_read
