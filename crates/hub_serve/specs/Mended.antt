-- What a bundle says with lines that were found for its profiles.
use Rattle.std.specs.Prelude.{◌≡◌, ℕ, Bool, true, false, List, ◌++◌, Option, Some, None, if◌then◌else◌}
use Rattle.hub_apart.specs.UnisonLines.{beside, cautious}
use Rattle.hub_bundle.specs.declared.sections.BundleContents.{BundleContents}
use Rattle.hub_bundle.specs.Sections.{Spells}
use Rattle.hub_cli.specs.Words.{Request, about, imported, mended, planned, reach, rounds_alone}
use Rattle.hub_mend.specs.Additions.{mended_text, own_text, shown_lines}
use Rattle.hub_mend.specs.TakesAway.{AllTakeAway}
use Rattle.hub_mend.specs.declared.piece.Piece.{Piece}
use Rattle.hub_preferences.specs.Counted.{counted_bundle}

-- The words ask for such lines.
abbrev pub is_mend : Request → Bool
is_mend (about question) = false
is_mend (reach reading profile path) = false
is_mend imported = false
is_mend planned = false
is_mend rounds_alone = false
is_mend (mended reading as_bundle) = true

abbrev pub asks_mend : Option Request → Bool
asks_mend None = false
asks_mend (Some request) = is_mend request

-- These are the parts of a bundle, and the lines that follow each. The bundle with these lines says
-- this. Each of its profiles only takes away from the one in its place, and the rules are the same.
pub record Mends (bytes : List ℕ) (pieces : List Piece) (new : BundleContents) : Type 0 where
  pub old : BundleContents
  pub spelled : Spells bytes old
  pub cut : bytes ≡ own_text pieces
  pub with_lines : Spells (mended_text pieces) new
  pub takes_away : AllTakeAway old.profiles new.profiles
  pub rules : new.rules ≡ old.rules

-- For Unison: by the lines that count both are bundles, with the same rules. Each own profile of the
-- second one only takes away from the one in its place. So does its cautious reading, by which two
-- profiles are judged, and its reading beside the rules.
pub record TakesAwayInUnison (bytes with_lines : List ℕ) : Type 0 where
  pub old : BundleContents
  pub spelled : Spells (counted_bundle bytes) old
  pub new : BundleContents
  pub spelled_with_lines : Spells (counted_bundle with_lines) new
  pub rules : new.rules ≡ old.rules
  pub own : AllTakeAway old.profiles new.profiles
  pub of_two : AllTakeAway (cautious old.profiles) (cautious new.profiles)
  pub of_one : AllTakeAway (beside old.rules old.profiles) (beside new.rules new.profiles)

-- These are the parts of a bundle, and the lines that follow each; and the bundle with these lines
-- only takes away, for Unison.
pub record MendsInUnison (bytes : List ℕ) (pieces : List Piece) : Type 0 where
  pub cut : bytes ≡ own_text pieces
  pub takes_away : TakesAwayInUnison bytes (mended_text pieces)

-- What is written of that: the bundle with the lines, or the lines and what is said of it.
abbrev pub mend_text : Bool → List Piece → List ℕ → List ℕ
mend_text as_bundle pieces line =
    if as_bundle then mended_text pieces else shown_lines pieces ++ line
