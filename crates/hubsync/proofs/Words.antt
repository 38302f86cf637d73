-- What is answered to words.
use Rattle.std.proofs.Common.{◌≡◌, ◌∙◌, inl, inr, ℕ, Bool, true, false, List, Option, Some, None, refl, subst, sym, cond}
use Rattle.std.specs.Prelude.{is_some}
use Rattle.hub_cli.specs.Words.{Request, are_none, asked_of, files_of, is_strict_of}
use Rattle.hub_serve.specs.Reads.{Reads as InputReads}
use Rattle.hub_serve.specs.Serves.{AnswersNothing, ServesInFull, WritesText}
use Rattle.hubsync.specs.Bundled.{Disk, ServesFiles, ServesNamed, Sources, memory_line}
use Rattle.hubsync.specs.Process.{AnswersWords, sources_of}
use Rattle.hubsync.specs.Strict.{Strictly, strict_status_of}

-- a status that `--strict` leaves as it is
pub plainly : {is_strict : Bool} {answers : ℕ → Type 0} {status : ℕ} → answers status → Strictly is_strict answers status
plainly {status = status} said = record { misleads = false; plain = status; answered = said; status_is = refl }

two : (failed : Bool) → ◌≡◌ {A = ℕ} (cond failed 2 2) 2
two true = refl
two false = refl

-- that memory is out is no answer
pub no_answer : {old new : Option (List ℕ)} {failed : Bool} {status : ℕ} → WritesText old new memory_line 2 failed status → AnswersNothing old new status
no_answer {old = old} {new = new} {failed = failed} {status = status} said = record {
  status_is = subst (λ n. status ≡ n) (two failed) said.status_is;
  writes = inr (said.written, said.appends);
}

-- if memory is out, what is asked for doesn't matter
pub named_memory : {disk : Disk} {asked : Option Request} {sources : Sources} {old new : Option (List ℕ)} {failed : Bool} {status : ℕ}
    → WritesText old new memory_line 2 failed status → ServesNamed disk asked sources old new failed status
named_memory said = record { served = λ _. inr (inr said); nothing = λ _. no_answer said }

-- the words ask for something
pub named_asked : {disk : Disk} {asked : Option Request} {sources : Sources} {old new : Option (List ℕ)} {failed : Bool} {status : ℕ}
    → is_some asked ≡ true → ServesFiles disk asked sources old new failed status → ServesNamed disk asked sources old new failed status
named_asked {asked = Some request} is said = record { served = λ _. said; nothing = λ none. cc }
named_asked {asked = None} is said = cc

-- they ask for nothing
pub named_nothing : {disk : Disk} {asked : Option Request} {sources : Sources} {old new : Option (List ℕ)} {failed : Bool} {status : ℕ}
    → asked ≡ None → AnswersNothing old new status → ServesNamed disk asked sources old new failed status
named_nothing {asked = None} is said = record { served = λ some. cc; nothing = λ _. said }
named_nothing {asked = Some request} is said = cc

-- Words that name files and ask for something.
pub by_files : {disk : Disk} (words : List (List ℕ)) {remaining old new : Option (List ℕ)} {of_input : InputReads} {failed : Bool} {status : ℕ}
    (misleads : Bool) (plain : ℕ) → are_none (files_of words) ≡ false → is_some (asked_of words) ≡ true
    → ServesFiles disk (asked_of words) (sources_of words) old new failed plain → status ≡ strict_status_of (is_strict_of words) misleads plain
    → AnswersWords disk words remaining old new of_input failed status
by_files {disk = disk} words {remaining = remaining} {old = old} {new = new} {of_input = of_input} {failed = failed} {status = status} misleads plain some asked said is = record {
  by_input = λ none. let no : true ≡ false = sym none ∙ some in cc;
  by_files = λ _. record { misleads = misleads; plain = plain; answered = named_asked asked said; status_is = is };
}

-- Words that name no files.
pub by_input : {disk : Disk} (words : List (List ℕ)) {remaining old new : Option (List ℕ)} {of_input : InputReads} {failed : Bool} {status : ℕ}
    (misleads : Bool) (plain : ℕ) → are_none (files_of words) ≡ true
    → ServesInFull (asked_of words) remaining old new of_input failed plain → status ≡ strict_status_of (is_strict_of words) misleads plain
    → AnswersWords disk words remaining old new of_input failed status
by_input {disk = disk} words {remaining = remaining} {old = old} {new = new} {of_input = of_input} {failed = failed} {status = status} misleads plain none said is = record {
  by_input = λ _. record { misleads = misleads; plain = plain; answered = inl said; status_is = is };
  by_files = λ some. let no : true ≡ false = sym none ∙ some in cc;
}

-- Memory is out before the words are read.
pub out_of_memory : {disk : Disk} (words : List (List ℕ)) {remaining old new : Option (List ℕ)} {of_input : InputReads} {failed : Bool} {status : ℕ}
    → WritesText old new memory_line 2 failed status → AnswersWords disk words remaining old new of_input failed status
out_of_memory words said = record { by_input = λ _. plainly (inr said); by_files = λ _. plainly (named_memory said) }

-- Words that ask for nothing.
pub nothing_asked : {disk : Disk} (words : List (List ℕ)) {remaining old new : Option (List ℕ)} {of_input : InputReads} {failed : Bool} {status : ℕ}
    → asked_of words ≡ None → ServesInFull (asked_of words) remaining old new of_input failed status
    → AnswersWords disk words remaining old new of_input failed status
nothing_asked words none said = record { by_input = λ _. plainly (inl said); by_files = λ _. plainly (named_nothing none (said.first.nothing none)) }
