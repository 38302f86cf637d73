-- Entries of a replica that are borrowed from it.
use Rattle.std.specs.Prelude.{◌≡◌, ◌<◌, List, [], ◌∷◌, length, Option, Result, MatchOption, MatchResult}
use Rattle.std.specs.declared.alloc.AllocError.{AllocError}
use Rattle.hub_path.specs.Path.{Path}
use Rattle.hub_tree.specs.declared.contents.Contents.{Contents}
use Rattle.hub_tree.specs.declared.contents.Contents.TheVariants as contents
use Rattle.hub_tree.specs.declared.entries.Stored.{Stored}
use Rattle.hub_tree.specs.declared.entries.Stored.TheVariants.{File, Directory}

abbrev pub stored_contents : Stored → Contents
stored_contents (File blob) = contents.File blob.now
stored_contents Directory = contents.Directory

-- A step with these entries left gives the first of them, and leaves the others. Out of memory
-- leaves none.
abbrev pub TakesEntry : List (Path × Contents) → Option (Result (Path × Stored) AllocError)
    → List (Path × Contents) → Type 0
TakesEntry s r t =
    MatchOption r ((s ≡ []) × (t ≡ []))
    (λ x. MatchResult x (λ e. s ≡ (e.0, stored_contents e.1) ∷ t) (λ _. (0 < length s) × (t ≡ [])))
