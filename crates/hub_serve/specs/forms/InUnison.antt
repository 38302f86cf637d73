-- What is answered about profiles as Unison may run them.
use Rattle.std.specs.Prelude.{◌≡◌, ◌⊎◌, ⊤, ℕ, List, Some, None, length, string_bytes}
use Rattle.hub_apart.specs.ApartLines.{set_of, with_pairs}
use Rattle.hub_apart.specs.UnisonLines.{beside}
use Rattle.hub_apart.specs.declared.searched.Apart.{Apart}
use Rattle.hub_bundle.specs.declared.sections.BundleContents.{BundleContents}
use Rattle.hub_bundle.specs.Sections.{Spells}
use Rattle.hub_cert.specs.Set.{Members}
use Rattle.hub_cert.specs.declared.fault.CheckFault.{CheckFault}
use Rattle.hub_cert.specs.declared.fault.CheckFault.TheVariants as fault
use Rattle.hub_path.specs.Path.{Name}
use Rattle.hub_cli.specs.Words.{Request}
use Rattle.hub_preferences.specs.Counted.{counted_bundle}
use Rattle.hub_profile.specs.Parts.{Parts}
use Rattle.hub_profile.specs.declared.rule.Rule.{Rule}
use Rattle.hub_report.specs.Archive.{archive_line}
use Rattle.hub_report.specs.InUnison.{unison_line}
use Rattle.hub_report.specs.Refusal.{refusal_line}
use Rattle.hub_report.specs.Rounds.{numbers_text}
use Rattle.hub_report.specs.declared.report.Report.{Report}
use Rattle.hub_report.specs.declared.report.Report.TheVariants as answer
use Rattle.hub_report.specs.declared.rounds.Cut.{Cut}
use Rattle.hub_report.specs.declared.unison_answer.UnisonAnswer.TheVariants.{Refused, Unsearched, SameArchive}
use Rattle.hub_rounds.specs.Numbered.{AreRoundsOfLines}
use Rattle.hub_rounds.specs.declared.numbered.NumberedRounds.{NumberedRounds}
use Rattle.hub_unison.specs.Shared.{shared_pairs}
use Rattle.hub_serve.specs.InUnison.{AreFoundInUnison, are_decided, asked_in_unison, namesake}
use Rattle.hub_serve.specs.Told.{Holds}
use Rattle.hub_serve.specs.declared.unison_question.UnisonQuestion.{UnisonQuestion}

-- The answer holds of these bytes, where this is asked;
abbrev pub HoldsOfBytes : UnisonQuestion → List ℕ → Report → Type 0
HoldsOfBytes q bytes r =
    (request : Request) → asked_in_unison request ≡ Some q → Holds request bytes r

-- of each input whose lines that count are these; and of each whose lines that count say this.
abbrev pub HoldsOfCounted : UnisonQuestion → List ℕ → Report → Type 0
HoldsOfCounted q counted r =
    (bytes : List ℕ) → counted ≡ counted_bundle bytes → HoldsOfBytes q bytes r

abbrev pub HoldsOfOwn : UnisonQuestion → BundleContents → Report → Type 0
HoldsOfOwn q own r =
    (bytes : List ℕ) → Spells (counted_bundle bytes) own → HoldsOfBytes q bytes r

-- It holds where these are the profiles and rules, and these pairs share an archive.
abbrev pub HoldsOfProfiles :
    UnisonQuestion → List Parts → List Rule → List (ℕ × ℕ) → Report → Type 0
HoldsOfProfiles q Ps Rs archives r =
    (own : BundleContents) → own.profiles ≡ Ps → own.rules ≡ Rs → archives ≡ shared_pairs Ps
    → HoldsOfOwn q own r

-- These are the readings of profiles beside rules, the rules, and their lines;
pub record IsSearchedOf (Ps : List Parts) (Rs : List Rule) (found : Apart) : Type 0 where
  pub profiles : found.profiles ≡ beside Rs Ps
  pub rules : found.rules ≡ Rs
  pub lines : AreFoundInUnison Ps Rs found.lines

-- and no two profiles have one name.
pub record IsFoundOf (Ps : List Parts) (Rs : List Rule) (found : Apart) : Type 0 where
  pub profiles : found.profiles ≡ beside Rs Ps
  pub rules : found.rules ≡ Rs
  pub names : namesake Ps ≡ None
  pub lines : AreFoundInUnison Ps Rs found.lines

-- It holds where this is found of the profiles and rules.
abbrev pub HoldsOfFound : UnisonQuestion → List (ℕ × ℕ) → Apart → Report → Type 0
HoldsOfFound q archives found r =
    (own : BundleContents) → IsFoundOf own.profiles own.rules found
    → archives ≡ shared_pairs own.profiles → HoldsOfOwn q own r

-- The line of this fault is told, or of these numbers.
abbrev pub found_members : Apart → Members
found_members found = set_of found.profiles found.rules

abbrev pub TellsLine : Apart → CheckFault → Report → Type 0
TellsLine found e (answer.InUnison (Refused line refusal)) =
    string_bytes line ≡ unison_line (found_members found) e
TellsLine found e answer.OutOfMemory = ⊤
TellsLine found e _ = ⊥

abbrev pub TellsArchive : Apart → ℕ × ℕ → Report → Type 0
TellsArchive found numbers (answer.InUnison (SameArchive line refusal)) =
    string_bytes line ≡ archive_line found.profiles numbers
TellsArchive found numbers answer.OutOfMemory = ⊤
TellsArchive found numbers _ = ⊥

-- Why profiles can't be searched is told.
abbrev pub TellsUnsearched : Members → CheckFault → Report → Type 0
TellsUnsearched S e (answer.InUnison (Unsearched line refusal)) =
    string_bytes line ≡ refusal_line S e
TellsUnsearched S e answer.OutOfMemory = ⊤
TellsUnsearched S e _ = ⊥

-- These are rounds of the profiles, by their lines and those of these pairs.
pub record IsCutOf (archives : List (ℕ × ℕ)) (found : Apart) (c : Cut) : Type 0 where
  pub rounds : NumberedRounds
  pub cut : AreRoundsOfLines (length found.profiles) (with_pairs archives found.lines) rounds
  pub text_is : string_bytes c.text ≡ numbers_text found.profiles rounds
  pub decided_is : c.decided ≡ are_decided (with_pairs archives found.lines) rounds

-- Two of the profiles have this name, or memory is out.
abbrev pub IsSameName : List Parts → CheckFault → Type 0
IsSameName Ps e =
    (e ≡ fault.OutOfMemory) ⊎ ((n : Name) × (namesake Ps ≡ Some n) × (e ≡ fault.SameName n))
