-- What is written to a device of which the first bytes are kept: of it before and after, and of the
-- function that tells its bytes.
use Rattle.std.specs.Prelude.{◌≡◌, ℕ, Bool, List, Option, String, map, string_bytes}
use Rattle.hub_path.specs.Path.{Path}
use Rattle.hub_bundle.specs.declared.part.Part.{Part}
use Rattle.hub_cli.specs.Words.{asked_of}
use Rattle.hub_folder.specs.declared.fault.Untaken.{Untaken}
use Rattle.hub_serve.specs.Serves.{AnswersNothing, ServesOver, WritesText}
use Rattle.hub_text.specs.declared.watched.Watched.{Watched}
use Rattle.hubsync.specs.Bundled.{Disk, ServesBundle, ServesFiles, ServesFolded, ServesParts, ServesSpelled, ServesText, Sources, WritesFault, WritesUntaken}
use Rattle.hubsync.specs.declared.captured.Captured.{Captured}

-- Nothing is written.
abbrev pub WritesNothing : {E : Type 0} → Watched (Captured E) → Watched (Captured E)
    → (E → Option (List ℕ)) → Type 0
WritesNothing output output_after contents =
    contents output_after.device.device ≡ contents output.device.device

-- A text is written with this status.
abbrev pub WritesTextTo : {E : Type 0} → Watched (Captured E) → Watched (Captured E)
    → (E → Option (List ℕ)) → List ℕ → ℕ → ℕ → Type 0
WritesTextTo output output_after contents text status result =
    WritesText (contents output.device.device) (contents output_after.device.device) text status
    output_after.failed result

-- Nothing is answered.
abbrev pub AnswersNothingTo : {E : Type 0} → Watched (Captured E) → Watched (Captured E)
    → (E → Option (List ℕ)) → ℕ → Type 0
AnswersNothingTo output output_after contents status =
    AnswersNothing (contents output.device.device) (contents output_after.device.device) status

-- What is wrong with a file is written, or that memory is out.
abbrev pub ReportsFault : {E : Type 0} → Watched (Captured E) → Watched (Captured E)
    → (E → Option (List ℕ)) → List ℕ → List ℕ → ℕ → Type 0
ReportsFault output output_after contents file reason status =
    WritesFault file reason (contents output.device.device) (contents output_after.device.device)
    output_after.failed status

-- Why a profile can't be told is written, or that memory is out.
abbrev pub ReportsUntaken : {E : Type 0} → Watched (Captured E) → Watched (Captured E)
    → (E → Option (List ℕ)) → Untaken → ℕ → Type 0
ReportsUntaken output output_after contents fault status =
    WritesUntaken fault (contents output.device.device) (contents output_after.device.device)
    output_after.failed status

-- The answer to words is given over a bundle.
abbrev pub ServesBundleTo : {E Z : Type 0} → Watched (Captured E) → Watched (Captured E)
    → (E → Option (List ℕ)) → List (String Z) → List ℕ → ℕ → Type 0
ServesBundleTo output output_after contents words bundle status =
    ServesBundle (asked_of (map string_bytes words)) bundle (contents output.device.device)
    (contents output_after.device.device) output_after.failed status

-- The answer to words is given over the sections that these parts are, which keep out the archives in
-- these folders.
abbrev pub ServesPartsTo : {E Z : Type 0} → Watched (Captured E) → Watched (Captured E)
    → (E → Option (List ℕ)) → List (String Z) → Bool → List Path → List Part → ℕ → Type 0
ServesPartsTo output output_after contents words is_for_unison folders parts status =
    ServesParts (asked_of (map string_bytes words)) is_for_unison folders parts
    (contents output.device.device) (contents output_after.device.device) output_after.failed status

-- The answer to words is given over what stands in the place of the bundle of these parts, which is
-- read for Unison or not.
abbrev pub ServesSpelledTo : {E Z : Type 0} → Watched (Captured E) → Watched (Captured E)
    → (E → Option (List ℕ)) → List (String Z) → Bool → List Path → List Part → List ℕ → ℕ → Type 0
ServesSpelledTo output output_after contents words is_for_unison folders parts bundle status =
    ServesSpelled (asked_of (map string_bytes words)) is_for_unison folders parts bundle
    (contents output.device.device) (contents output_after.device.device) output_after.failed status

-- The same of profiles that are read for Unison.
abbrev pub ServesFoldedTo : {E Z : Type 0} → Watched (Captured E) → Watched (Captured E)
    → (E → Option (List ℕ)) → List (String Z) → List Path → List Part → List ℕ → ℕ → Type 0
ServesFoldedTo output output_after contents words folders parts bundle status =
    ServesFolded (asked_of (map string_bytes words)) folders parts bundle
    (contents output.device.device) (contents output_after.device.device) output_after.failed status

-- The same over the text of folded profiles and rules.
abbrev pub ServesTextTo : {E Z : Type 0} → Watched (Captured E) → Watched (Captured E)
    → (E → Option (List ℕ)) → List (String Z) → List ℕ → ℕ → Type 0
ServesTextTo output output_after contents words text status =
    ServesText (asked_of (map string_bytes words)) text (contents output.device.device)
    (contents output_after.device.device) output_after.failed status

-- The answer to words is given over files.
abbrev pub ServesFilesTo : {E Z : Type 0} → Watched (Captured E) → Watched (Captured E)
    → (E → Option (List ℕ)) → Disk → List (String Z) → Sources → ℕ → Type 0
ServesFilesTo output output_after contents disk words sources status =
    ServesFiles disk (asked_of (map string_bytes words)) sources (contents output.device.device)
    (contents output_after.device.device) output_after.failed status

-- The answer to words is given over an input, of which the same is known.
abbrev pub ServesFor : {D E Z : Type 0} → Watched (Captured D) → Watched (Captured D)
    → Watched (Captured E) → Watched (Captured E) → (D → Option (List ℕ)) → (E → Option (List ℕ))
    → List (String Z) → ℕ → Type 0
ServesFor input input_after output output_after remaining contents words status =
    ServesOver input input_after output output_after (λ d. remaining d.device)
    (λ d. contents d.device) (asked_of (map string_bytes words)) status
