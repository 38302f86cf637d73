-- What a bundle says that is written for a set.
use Rattle.std.specs.Prelude.{List, [], None}
use Rattle.hub_profile.specs.Parts.{Parts}
use Rattle.hub_profile.specs.declared.rule.Rule.{Rule}
use Rattle.hub_bundle.specs.declared.sections.BundleContents.{BundleContents}

-- These profiles and these rules, and neither a state nor certificates.
abbrev pub contents_of : List Parts → List Rule → BundleContents
contents_of Ps Rs = record { profiles = Ps; rules = Rs; state = None; certificates = [] }
