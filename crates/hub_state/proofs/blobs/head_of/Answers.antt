use Rattle.std.proofs.Common.{ℕ, List, map, sym, ap, ◌∙◌}
use Rattle.std.specs.FinMap as fin
use Rattle.std.specs.List.{flat_map}
use Rattle.hub_state.specs.Taking.{BlobMap}
use Rattle.hub_state.specs.View.{by_text}
use Rattle.hub_state.specs.Writing.{blob_line, replica_files}
use Rattle.hub_state.proofs.Files.{told_none, told_some, no_entries}
use Rattle.hub_state.proofs.blobs.head_of.Goals as goal

pub returns-in-Some-clause-version : goal.returns-in-Some-clause-version
returns-in-Some-clause-version c =
    let fs : List (List ℕ) = flat_map replica_files (by_text c.args.replicas.now.entries) in
    sym (told_some fs c.in-Some.blobs (sym c.in-Some.is ∙ c.in_ok-found.ensures)).0

pub returns-in-Some-clause-blobs : goal.returns-in-Some-clause-blobs
returns-in-Some-clause-blobs c =
    let fs : List (List ℕ) = flat_map replica_files (by_text c.args.replicas.now.entries) in
    ap (λ (m : BlobMap). map blob_line (fin.entries m)) (told_some fs c.in-Some.blobs (sym c.in-Some.is ∙ c.in_ok-found.ensures)).1

pub returns-in-None-clause-version : goal.returns-in-None-clause-version
returns-in-None-clause-version c =
    let fs : List (List ℕ) = flat_map replica_files (by_text c.args.replicas.now.entries) in
    sym (told_none fs (sym c.in-None.is ∙ c.in_ok-found.ensures))

pub returns-in-None-clause-blobs : goal.returns-in-None-clause-blobs
returns-in-None-clause-blobs c = ap (λ (es : List (List ℕ × List ℕ)). map blob_line es) (no_entries c.new.result c.new.ensures)
