-- What all that the program does says of the first line that it writes.
use Rattle.std.proofs.Common.{◌≡◌, ◌⊎◌, inl, inr, ℕ, Bool, false, List, Option, Some, None, subst}
use Rattle.std.specs.Prelude.{codes}
use Rattle.hub_cli.specs.Words.{Request, asked_of}
use Rattle.hub_serve.specs.Reads.{Reads}
use Rattle.hub_serve.specs.Serves.{Answers, AnswersNothing, Serves, ServesInFull, WritesText}
use Rattle.hub_serve.proofs.Answered.{serves-asked, serves-refused}
use Rattle.hub_serve.proofs.Refused.{BreachesShown, OverlapsShown}

pub in-short : (asked : Option Request) (remaining old new : Option (List ℕ)) (reads : Reads) (failed : Bool) (status : ℕ)
    → ServesInFull asked remaining old new reads failed status → Serves asked remaining old new failed status
in-short asked remaining old new reads failed status all = all.first

pub asked-short : OverlapsShown → BreachesShown → (asked : Option Request) (request : Request) (remaining old new : Option (List ℕ)) (reads : Reads) (failed : Bool) (status : ℕ)
    → asked ≡ Some request → Answers request remaining old new reads failed status → Serves asked remaining old new failed status
asked-short overlaps breaches asked request remaining old new reads failed status is a =
    in-short asked remaining old new reads failed status (serves-asked overlaps breaches asked request remaining old new reads failed status is a)

-- Words that are refused say nothing of the reads.
no_reads : Reads
no_reads = record { before = 0; after = 0; was_at_end = false; at_end = false; failed = false }

pub refused-short : {T : Type 0} → OverlapsShown → BreachesShown → (kind none : T) (asked : Option Request) (remaining old new : Option (List ℕ)) (failed : Bool) (status : ℕ)
    → (kind ≡ none) ⊎ (asked ≡ None) → (kind ≡ none → WritesText old new (codes "fault: out of memory\n") 2 failed status) → AnswersNothing old new status
    → Serves asked remaining old new failed status
refused-short overlaps breaches kind none asked remaining old new failed status said memory a =
    in-short asked remaining old new no_reads failed status (serves-refused overlaps breaches kind none asked remaining old new no_reads failed status said memory a)

-- Words that are the same ask for the same.
pub same-short : (words same : List (List ℕ)) (remaining old new : Option (List ℕ)) (failed : Bool) (status : ℕ)
    → words ≡ same → Serves (asked_of words) remaining old new failed status → Serves (asked_of same) remaining old new failed status
same-short words same remaining old new failed status e h = subst (λ ws. Serves (asked_of ws) remaining old new failed status) e h
