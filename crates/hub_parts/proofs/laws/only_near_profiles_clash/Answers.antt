use Rattle.hub_parts.proofs.Clashes.{clash-near, plain-wide, wide-plain}
use Rattle.hub_parts.proofs.ListedParts.{near-clashing}
use Rattle.hub_parts.proofs.laws.only_near_profiles_clash.Goals as goal

pub returns-clause-near : goal.returns-clause-near
returns-clause-near c = clash-near

pub returns-clause-listed : goal.returns-clause-listed
returns-clause-listed c = near-clashing

pub returns-clause-wide : goal.returns-clause-wide
returns-clause-wide c = plain-wide

pub returns-clause-plain : goal.returns-clause-plain
returns-clause-plain c = wide-plain
