-- What the process does.
use Rattle.std.specs.Prelude.{◌≡◌, ℕ, Bool, false, true, List, Option, String, map, string_bytes}
use Rattle.hub_cli.specs.Words.{are_none, asked_of, files_of, is_strict_of, is_unison_of}
use Rattle.hub_serve.specs.Reads.{Reads as InputReads, reads_between}
use Rattle.hubsync.specs.Bundled.{Disk, ServesInput, ServesNamed, Sources, disk_of}
use Rattle.hubsync.specs.Strict.{Strictly}
use Rattle.hubsync.specs.declared.captured.Captured.{Captured}
use Rattle.hub_text.specs.declared.watched.Watched.{Watched}
use Rattle.hub_folder.specs.Reading.{Folders, Lists, Reads}

-- The files that words name, and whether they have `--unison`.
abbrev pub sources_of : List (List ℕ) → Sources
sources_of words = record { names = files_of words; is_for_unison = is_unison_of words }

-- What is answered to words: over the input if they name no files, else over these files. The
-- status is that of the answer, or what `--strict` makes of it.
pub record AnswersWords (disk : Disk) (words : List (List ℕ)) (remaining old new : Option (List ℕ))
    (of_input : InputReads) (failed : Bool) (status : ℕ) : Type 0 where
  pub by_input : are_none (files_of words) ≡ true
      → Strictly (is_strict_of words)
      (ServesInput (asked_of words) remaining old new of_input failed) status
  pub by_files : are_none (files_of words) ≡ false
      → Strictly (is_strict_of words)
      (ServesNamed disk (asked_of words) (sources_of words) old new failed) status

-- The same of a reader of files, of an input and an output before and after, and of words. The first
-- two functions tell the bytes of the input and of the output.
abbrev pub AnswersOver : {D E F Z : Type 0} → Watched (Captured D) → Watched (Captured D)
    → Watched (Captured E) → Watched (Captured E)
    → (D → Option (List ℕ)) → (E → Option (List ℕ)) → (F → Reads) → (F → Lists)
    → (F → Folders) → F → List (String Z) → ℕ → Type 0
AnswersOver input input_after output output_after remaining contents reads lists folders reader words
    status =
    AnswersWords (disk_of reads lists folders reader) (map string_bytes words)
    (remaining input.device.device) (contents output.device.device)
    (contents output_after.device.device) (reads_between input input_after) output_after.failed status
