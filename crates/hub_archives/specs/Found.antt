-- Which bundles keep out the archives that Unison has in some folders.
use Rattle.std.specs.Prelude.{◌≡◌, ℕ, List, slice_get, Some, Ok}
use Rattle.hub_path.specs.Path.{Name, Path}
use Rattle.hub_profile.specs.Parts.{Parts}
use Rattle.hub_profile.specs.Reading.{profile_in}
use Rattle.hub_preferences.specs.Counted.{counted_bundle}
use Rattle.hub_bundle.specs.Bundle.{SectionValue, bundle_reading}
use Rattle.hub_bundle.specs.declared.bundle.Heading.TheVariants as heading
use Rattle.hub_archives.specs.KeptOut.{AllKeepOut, IsHeldBy}
use Rattle.hub_archives.specs.declared.found.HeldArchives.{HeldArchives}

-- The section is this profile.
abbrev pub IsSectionOf : SectionValue → Parts → Type 0
IsSectionOf s P =
    (name : Name) × (s.heading ≡ heading.Profile name) × (profile_in name s.bytes ≡ Ok P)

-- A section keeps out what is in these folders, if it is a profile that can be read; and so do several sections.
abbrev pub KeptOutUnder : List Path → SectionValue → Type 0
KeptOutUnder folders s = (P : Parts) → IsSectionOf s P → AllKeepOut folders P

abbrev pub KeptOutIn : List Path → List SectionValue → Type 0
KeptOutIn folders sections =
    (i : ℕ) (s : SectionValue) → slice_get sections i ≡ Some s → KeptOutUnder folders s

-- The same of the lines of a bundle that count.
abbrev pub AreKeptOut : List Path → List ℕ → Type 0
AreKeptOut folders bytes =
    (sections : List SectionValue) → bundle_reading (counted_bundle bytes) ≡ Ok sections
    → KeptOutIn folders sections

-- The cautious reading of a section, or of one of them, doesn't keep out the folder, which has that path
-- below a root.
abbrev pub IsHeldUnder : List Path → SectionValue → ℕ → Path → Type 0
IsHeldUnder folders s i x = (P : Parts) × IsSectionOf s P × IsHeldBy folders P i x

abbrev pub IsHeldIn : List Path → List SectionValue → HeldArchives → Type 0
IsHeldIn folders sections h =
    (s : SectionValue) × (slice_get sections h.section ≡ Some s)
    × IsHeldUnder folders s h.folder h.path

abbrev pub IsHeld : List Path → List ℕ → HeldArchives → Type 0
IsHeld folders bytes h =
    (sections : List SectionValue) × (bundle_reading (counted_bundle bytes) ≡ Ok sections)
    × IsHeldIn folders sections h
