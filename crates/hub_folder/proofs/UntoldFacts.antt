-- Which files are missing where lines can't be told.
use Rattle.std.proofs.Common.{◌≡◌, ◌∙◌, ◌++◌, ℕ, zero, suc, ◌+◌, Bool, true, false, nat_le, List, [], ◌∷◌, length, Option, Some, None, Ok, Err, refl, sym, ap, if◌then◌else◌}
use Rattle.hub_include.specs.Files.{Held, Known, found_as}
use Rattle.hub_include.specs.Includes.{Follow, Lines, Placed, Told, add_line, add_lines, add_target, and_then, fault_at, follow, is_open, lines_found, lines_of, placed, without_mark}
use Rattle.hub_include.specs.Targets.{target_of}
use Rattle.hub_include.specs.declared.fault.LinesFault.{LinesFault}
use Rattle.hub_include.specs.declared.fault.LinesFault.TheVariants as fault
use Rattle.hub_include.specs.declared.fault.Why.TheVariants.{Cycle, TooLong}
use Rattle.hub_include.specs.declared.lines.TheConstants as limit
use Rattle.hub_include.specs.declared.target.Target.{Target}
use Rattle.hub_include.specs.declared.target.Target.TheVariants as target
use Rattle.hub_text.specs.declared.line.Line as text
use Rattle.hub_text.specs.Lines as lines
use Rattle.hub_folder.specs.Taken.{Agrees, AreTellable, IsThere, IsUntakenAfter, IsUntakenAlone, IsUntold}
use Rattle.hub_folder.specs.Told.{IsOverLimit}
use Rattle.hub_folder.specs.declared.told.Told as told
use Rattle.std.specs.Result.{is_ok}
use Rattle.std.proofs.lemmas.List.Elements.{All-nil}
use Rattle.hub_folder.specs.Reading.{Reads}
use Rattle.hub_folder.specs.declared.fault.Untaken.{Untaken}
use Rattle.hub_folder.specs.declared.fault.Untaken.TheVariants as untaken

-- There is no file of a profile: a file that is followed has no such fault.
abbrev is_absent : LinesFault → Bool
is_absent fault.NoProfile = true
is_absent (fault.Line f) = false
is_absent (fault.Unread name) = false
is_absent fault.OutOfMemory = false

abbrev is_profileless : Told → Bool
is_profileless (Ok ls) = false
is_profileless (Err e) = is_absent e

abbrev Finds : Follow → Type 0
Finds by = (at : Placed) (f : Held) (done : Lines) → is_profileless (by at f done) ≡ false

finds-target : (by : Follow) (opened : List (List ℕ)) (at : Placed) (done : Lines) (t : Target Held) → Finds by
    → is_profileless (add_target by opened at done t) ≡ false
finds-target by opened at done target.Nothing h = refl
finds-target by opened at done (target.Taken f) h = cases (is_open opened f.name)
  where
    cases : (b : Bool) → is_profileless (if b then Err (fault_at at Cycle) else by at f done) ≡ false
    cases true = refl
    cases false = h at f done
finds-target by opened at done (target.Wrong why) h = refl
finds-target by opened at done (target.Unread name) h = refl

finds-line : (by : Follow) (known : Known) (opened : List (List ℕ)) (done : Lines) (l : Placed) → Finds by
    → is_profileless (add_line by known opened done l) ≡ false
finds-line by known opened done l h = cases (nat_le limit.MOST_LINES (length done))
  where
    cases : (b : Bool) → is_profileless (if b then Err (fault_at l TooLong) else add_target by opened l (done ++ l ∷ []) (target_of known l.text)) ≡ false
    cases true = refl
    cases false = finds-target by opened l (done ++ l ∷ []) (target_of known l.text) h

finds-then : (t : Told) (more : Lines → Told) → is_profileless t ≡ false → ((ls : Lines) → is_profileless (more ls) ≡ false)
    → is_profileless (and_then t more) ≡ false
finds-then (Ok done) more a b = b done
finds-then (Err e) more a b = a

finds-lines : (by : Follow) (known : Known) (opened : List (List ℕ)) (file : List ℕ) (number : ℕ) (ls : List (text.Line (List ℕ))) (done : Lines)
    → Finds by → is_profileless (add_lines by known opened file number ls done) ≡ false
finds-lines by known opened file number [] done h = refl
finds-lines by known opened file number (l ∷ ls) done h =
    finds-then (add_line by known opened done (placed file number l.text)) (λ more. add_lines by known opened file (number + 1) ls more)
    (finds-line by known opened done (placed file number l.text) h)
    (λ more. finds-lines by known opened file (number + 1) ls more h)

finds-follow : (known : Known) (left : ℕ) (opened : List (List ℕ)) → Finds (follow known left opened)
finds-follow known zero opened at f done = refl
finds-follow known (suc left) opened at f done =
    finds-lines (follow known left (opened ++ f.name ∷ [])) known (opened ++ f.name ∷ []) f.name 1 (lines.lines_of (without_mark f.bytes)) done
    (finds-follow known left (opened ++ f.name ∷ []))

true-false : true ≡ false → ⊥
true-false h = cc

absent-found : (known : Known) (name : List ℕ) (held : Option (Option (List ℕ)))
    → is_profileless (lines_found known name (found_as name held)) ≡ true → held ≡ Some None
absent-found known name None h = cc
absent-found known name (Some None) h = refl
absent-found known name (Some (Some bytes)) h =
    let no : is_profileless (lines_found known name (found_as name (Some (Some bytes)))) ≡ false =
    finds-follow known limit.MOST_OPEN [] (placed name 0 []) (record { name = name; bytes = bytes }) [] in
    absurd (true-false (sym h ∙ no))

-- A profile has no lines since its file is missing.
pub is-absent : (known : Known) (name : List ℕ) → lines_of known name ≡ Err fault.NoProfile → known name ≡ Some None
is-absent known name h = absent-found known name (known name) (ap is_profileless h)

-- The lines of a file can't be told after those of others, and that is why.
pub untold-after : (reads : Reads) (place : List ℕ) (taken : ℕ) (known : Known) (before : List (List ℕ)) (name : List ℕ) (e : Untaken)
    → Agrees reads place known → AreTellable known before → IsUntold place known name e → IsUntakenAfter reads place taken before name e
untold-after reads place taken known before name (untaken.File path fault) agrees are h = absurd h
untold-after reads place taken known before name (untaken.Gone path) agrees are h =
    (h.0, (known, agrees, are, agrees name None (is-absent known name h.1)))
untold-after reads place taken known before name (untaken.Folder path fault) agrees are h = absurd h
untold-after reads place taken known before name (untaken.Line path fault) agrees are h = (h.0, (known, agrees, are, h.1))
untold-after reads place taken known before name (untaken.TooManyFiles path) agrees are h = absurd h
untold-after reads place taken known before name (untaken.TooLong path) agrees are h = absurd h
untold-after reads place taken known before name untaken.OutOfMemory agrees are h = tt

-- The same of a file that is there,
pub untold-alone : (reads : Reads) (place : List ℕ) (taken : ℕ) (known : Known) (name : List ℕ) (e : Untaken)
    → Agrees reads place known → IsThere known name → IsUntold place known name e → IsUntakenAlone reads place taken name e
untold-alone reads place taken known name (untaken.File path fault) agrees there h = absurd h
untold-alone reads place taken known name (untaken.Gone path) agrees there h =
    let both : Some None ≡ Some (Some there.0) = sym (is-absent known name h.1) ∙ there.1 in cc
untold-alone reads place taken known name (untaken.Folder path fault) agrees there h = absurd h
untold-alone reads place taken known name (untaken.Line path fault) agrees there h =
    untold-after reads place taken known [] name (untaken.Line path fault) agrees (All-nil (λ n. is_ok (lines_of known n) ≡ true)) h
untold-alone reads place taken known name (untaken.TooManyFiles path) agrees there h = absurd h
untold-alone reads place taken known name (untaken.TooLong path) agrees there h = absurd h
untold-alone reads place taken known name untaken.OutOfMemory agrees there h = tt

-- and of one that is too long.
pub over-alone : (reads : Reads) (place : List ℕ) (taken bytes : ℕ) (name : List ℕ) (t : told.Told) (e : Untaken)
    → IsOverLimit place bytes t e → IsUntakenAfter reads place taken [] name e → IsUntakenAlone reads place taken name e
over-alone reads place taken bytes name t (untaken.File path fault) over h = h
over-alone reads place taken bytes name t (untaken.Gone path) over h = cc
over-alone reads place taken bytes name t (untaken.Folder path fault) over h = h
over-alone reads place taken bytes name t (untaken.Line path fault) over h = h
over-alone reads place taken bytes name t (untaken.TooManyFiles path) over h = h
over-alone reads place taken bytes name t (untaken.TooLong path) over h = h
over-alone reads place taken bytes name t untaken.OutOfMemory over h = h
