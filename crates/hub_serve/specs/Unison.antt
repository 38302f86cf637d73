-- What an input spells if its profiles are read for Unison, and what a yes then says.
use Rattle.std.specs.Prelude.{◌≡◌, ℕ, false, List, [], ◌∷◌, length, slice_get, Option, Some, None, Result, Ok, Err, bytes_eq, encode_utf8_all, if◌then◌else◌}
use Rattle.std.specs.List.{flat_map}
use Rattle.hub_path.specs.Path.{Path}
use Rattle.hub_profile.specs.Parts.{Parts}
use Rattle.hub_profile.specs.declared.rule.Rule.{Rule}
use Rattle.hub_apart.specs.WithoutLines.{AreSome}
use Rattle.hub_parts.specs.Anywhere.{IsSafeAnywhereInUnison, KeepsRulesAnywhereInUnison}
use Rattle.hub_parts.specs.InUnison.{parts_read}
use Rattle.hub_parts.specs.Whole.{AreRootsApart}
use Rattle.hub_unison.specs.Matching.{IsMatching, Matching}
use Rattle.hub_unison.specs.UnisonReach.{IsSafeInUnison, reach_by}
use Rattle.hub_unison.specs.Rules.{AreReadForUnison, KeepsRulesInUnison}
use Rattle.hub_unison.specs.Shared.{shared_pairs}
use Rattle.hub_unison.specs.Written.{AreWrittenAs, Written, written_of}
use Rattle.hub_preferences.specs.Counted.{counted_bundle}
use Rattle.hub_profile.specs.Reading.{profile_in}
use Rattle.hub_profile.specs.declared.fault.ProfileFault.{ProfileFault}
use Rattle.hub_bundle.specs.Bundle.{SectionValue}
use Rattle.hub_bundle.specs.declared.bundle.Heading.{Heading}
use Rattle.hub_bundle.specs.declared.bundle.Heading.TheVariants as heading
use Rattle.hub_bundle.specs.declared.sections.BundleContents.{BundleContents}
use Rattle.hub_bundle.specs.Sections.{Spells}
use Rattle.hub_cli.specs.declared.words.Reading.{Reading}
use Rattle.hub_cli.specs.declared.words.Reading.TheVariants.{Plain, Unison}

-- The bytes of a bundle that count, if its profiles are read so. For Unison, comments stand in the
-- place of lines that only hold changes back.
abbrev pub counted_as : Reading → List ℕ → List ℕ
counted_as Plain bytes = bytes
counted_as Unison bytes = counted_bundle bytes

-- The readings for Unison stand in the place of a bundle's own profiles, whatever lines say these. All
-- else is the same.
pub record IsReadForUnison (own c : BundleContents) : Type 0 where
  pub profiles : (Ws : List Written) → AreWrittenAs Ws own.profiles
      → AreReadForUnison Ws own.rules c.profiles
  pub others : c ≡ record own { profiles = c.profiles }

-- What a bundle says, if its profiles are read so.
abbrev pub IsReadAs : Reading → BundleContents → BundleContents → Type 0
IsReadAs Plain own c = c ≡ own
IsReadAs Unison own c = IsReadForUnison own c

-- Which two profiles share an archive of Unison, by their numbers, if the profiles are read so.
abbrev pub archives_as : Reading → List Parts → List (ℕ × ℕ)
archives_as Plain Ps = []
archives_as Unison Ps = shared_pairs Ps

-- The lines that count are a bundle that says this, if its profiles are read so.
abbrev pub SpellsCounted : Reading → List ℕ → BundleContents → Type 0
SpellsCounted reading counted c =
    (own : BundleContents) × Spells counted own × IsReadAs reading own c

-- The bytes are a bundle that says this, if its profiles are read so.
abbrev pub SpellsAs : Reading → List ℕ → BundleContents → Type 0
SpellsAs Plain bytes c = Spells bytes c
SpellsAs Unison bytes c = SpellsCounted Unison (counted_bundle bytes) c

-- The profiles of a bundle's sections, as their lines say them to Unison: what hubsync reads of one
-- stands beside the lines of its section.
abbrev pub written_profile : Result Parts ProfileFault → List ℕ → List Written
written_profile (Ok P) bytes = written_of P bytes ∷ []
written_profile (Err f) bytes = []

abbrev pub written_under : Heading → List ℕ → List Written
written_under (heading.Profile name) bytes = written_profile (profile_in name bytes) bytes
written_under _ bytes = []

abbrev pub written_in : List SectionValue → List Written
written_in sections = flat_map (λ s. written_under s.heading s.bytes) sections

-- The first of some profiles whose name has this text.
abbrev pub first_written : List ℕ → List Written → Option Written
first_written text [] = None
first_written text (W ∷ Ws) =
    if bytes_eq (encode_utf8_all W.parts.name) text then Some W else first_written text Ws

-- The lines that count are a bundle. No two of its own profiles clash in Unison, and Unison breaks
-- none of its rules.
pub record SpellsSafeInUnison (bytes : List ℕ) : Type 0 where
  pub own : BundleContents
  pub spelled : Spells (counted_bundle bytes) own
  pub safe : IsSafeInUnison (written_in spelled.sections)
  pub kept : KeepsRulesInUnison (written_in spelled.sections) own.rules

-- No two of these profiles clash in Unison, and by none Unison breaks one of the rules, wherever the
-- roots lie. So they are safe in Unison, if no different roots of them are nested.
pub record AreSafeTogether (Ws : List Written) (Rs : List Rule) : Type 0 where
  pub anywhere : IsSafeAnywhereInUnison Ws
  pub safe : AreRootsApart (parts_read Ws) [] → IsSafeInUnison Ws
  pub kept : KeepsRulesAnywhereInUnison Ws Rs

-- The lines that count are a bundle, whose own profiles are safe together.
pub record SpellsSafeTogether (bytes : List ℕ) : Type 0 where
  pub own : BundleContents
  pub spelled : Spells (counted_bundle bytes) own
  pub together : AreSafeTogether (written_in spelled.sections) own.rules

-- Of all of these profiles, those of a round, by their numbers, are safe together.
pub record IsSafeRound (all : List Written) (Rs : List Rule) (numbers : List ℕ) : Type 0 where
  pub profiles : List Written
  pub count : length profiles ≡ length numbers
  pub some : AreSome all profiles numbers
  pub together : AreSafeTogether profiles Rs

-- The lines that count are a bundle, and by its first own profile of this name Unison doesn't reach
-- the path.
pub record SpellsUnreachedInUnison (bytes name : List ℕ) (p : Path) : Type 0 where
  pub own : BundleContents
  pub spelled : Spells (counted_bundle bytes) own
  pub W : Written
  pub profile : first_written name (written_in spelled.sections) ≡ Some W
  pub unreached : (m : Matching) → IsMatching m → reach_by m W p ≡ false
