-- What is answered with lines that were found.
use Rattle.std.specs.Prelude.{◌≡◌, ◌⊎◌, ℕ, Bool, List}
use Rattle.hub_apart.specs.UnisonLines.{beside, cautious}
use Rattle.hub_bundle.specs.declared.sections.BundleContents.{BundleContents}
use Rattle.hub_bundle.specs.Sections.{Spells}
use Rattle.hub_cli.specs.Words.{about, mended}
use Rattle.hub_cli.specs.declared.words.Question.TheVariants as ask
use Rattle.hub_cli.specs.declared.words.Reading.{Reading}
use Rattle.hub_cli.specs.declared.words.Reading.TheVariants.{Plain, Unison}
use Rattle.hub_mend.specs.Additions.{mended_text, own_text}
use Rattle.hub_mend.specs.TakesAway.{AllTakeAway}
use Rattle.hub_mend.specs.declared.piece.Piece.{Piece}
use Rattle.hub_preferences.specs.Counted.{counted_bundle}
use Rattle.hub_report.specs.declared.report.Report.{Report}
use Rattle.hub_report.specs.declared.report.Report.TheVariants as answer
use Rattle.hub_serve.specs.Mended.{Mends, MendsInUnison}
use Rattle.hub_serve.specs.Told.{Holds, IsMendedAs, IsTold}

-- The answer with these lines holds, if that is said of the bundle with them.
abbrev pub HoldsWith : List Piece → Bool → Bool → List ℕ → Report → Type 0
HoldsWith pieces as_bundle safe line r =
    (reading : Reading) (bytes : List ℕ) → IsMendedAs reading bytes pieces safe line
    → Holds (mended reading as_bundle) bytes r

-- It holds, if this is so of what the bundle with them says.
abbrev pub HoldsIf : List Piece → Bool → (BundleContents → Type 0) → Report → Type 0
HoldsIf pieces as_bundle IsSo r =
    (bytes : List ℕ) (new : BundleContents) → Mends bytes pieces new → IsSo new
    → Holds (mended Plain as_bundle) bytes r

-- `check` of a bundle that says this is answered so.
abbrev pub CheckTells : Report → BundleContents → Type 0
CheckTells r new = IsTold (about (ask.Check Plain)) new r

-- What the bundle with these lines says only takes away from what the one that they were read of
-- says.
abbrev pub MendsTextOf : BundleContents → List Piece → BundleContents → Type 0
MendsTextOf old pieces new =
    (bytes : List ℕ) → Spells bytes old → bytes ≡ own_text pieces → Mends bytes pieces new

-- The answer holds of a bundle that is cut into these parts; and, for Unison, if that is the answer to
-- `check --unison` of the bundle with the lines.
abbrev pub HoldsOfParts : Reading → Bool → List ℕ → List Piece → Report → Type 0
HoldsOfParts reading as_bundle bytes pieces r =
    bytes ≡ own_text pieces → Holds (mended reading as_bundle) bytes r

abbrev pub HoldsIfChecked : List Piece → Bool → Report → Report → Type 0
HoldsIfChecked pieces as_bundle said r =
    (bytes : List ℕ) → MendsInUnison bytes pieces
    → Holds (about (ask.Check Unison)) (mended_text pieces) said
    → Holds (mended Unison as_bundle) bytes r

-- The answer is that memory is out, or that no lines mend a bundle.
abbrev pub IsUnmended : Report → Type 0
IsUnmended r = (r ≡ answer.OutOfMemory) ⊎ (r ≡ answer.NotMended)

-- It holds where lines for Unison are asked for.
abbrev pub HoldsOfMend : List ℕ → Report → Type 0
HoldsOfMend bytes r = (as_bundle : Bool) → Holds (mended Unison as_bundle) bytes r

-- The profiles of the second bundle only take away from those of the first one, and so do their readings
-- beside the rules, which are the same.
pub record AreLess (old new : BundleContents) : Type 0 where
  pub rules : new.rules ≡ old.rules
  pub own : AllTakeAway old.profiles new.profiles
  pub of_one : AllTakeAway (beside old.rules old.profiles) (beside old.rules new.profiles)

-- By the lines that count both are bundles of which that is so.
pub record LessOfOne (bytes with_lines : List ℕ) : Type 0 where
  pub old : BundleContents
  pub spelled : Spells (counted_bundle bytes) old
  pub new : BundleContents
  pub spelled_with_lines : Spells (counted_bundle with_lines) new
  pub less : AreLess old new

-- By the lines that count both are bundles, and each cautious reading of the second one only takes away
-- from the one in its place.
pub record LessOfTwo (bytes with_lines : List ℕ) : Type 0 where
  pub old : BundleContents
  pub spelled : Spells (counted_bundle bytes) old
  pub new : BundleContents
  pub spelled_with_lines : Spells (counted_bundle with_lines) new
  pub less : AllTakeAway (cautious old.profiles) (cautious new.profiles)
