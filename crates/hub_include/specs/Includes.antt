-- The lines of a profile, with those of the files that it includes.
use Rattle.std.specs.Prelude.{◌≡◌, ◌⊎◌, Vec, map, ℕ, zero, suc, ◌+◌, Bool, nat_le, List, [], ◌∷◌, ◌++◌, length, drop, Result, Ok, Err, bytes_eq, if◌then◌else◌}
use Rattle.std.specs.List.{list_any}
use Rattle.hub_text.specs.declared.line.Line as text
use Rattle.hub_text.specs.Lines as lines
use denote.Ref.{Bor}
use Rattle.hub_include.specs.declared.fault.LinesFault.{LinesFault}
use Rattle.hub_include.specs.declared.fault.LinesFault.TheVariants as fault
use Rattle.hub_include.specs.declared.fault.Why.{Why}
use Rattle.hub_include.specs.declared.fault.Why.TheVariants.{Cycle, TooDeep, TooLong}
use Rattle.hub_include.specs.declared.folder.Found.{Found}
use Rattle.hub_include.specs.declared.folder.Found.TheVariants as found
use Rattle.hub_include.specs.declared.lines.FileLine.{FileLine}
use Rattle.hub_include.specs.declared.lines.Walk.{Walk}
use Rattle.hub_include.specs.declared.target.Target.{Target}
use Rattle.hub_include.specs.declared.target.Target.TheVariants as target
use Rattle.hub_include.specs.Files.{Held, Known, find, known_of, of_file}
use Rattle.hub_include.specs.declared.folder.File.{File}
use Rattle.hub_include.specs.declared.folder.Folder.{Folder}
use Rattle.hub_include.specs.Targets.{target_of}
use Rattle.hub_include.specs.Words.{begins_with}
use Rattle.hub_include.specs.declared.lines.TheConstants as limit

-- A line with its place: the name of its file, its number there from 1 on, its bytes without the LF.
abbrev pub Placed : Type 0
Placed = FileLine (List ℕ) (List ℕ)

-- The lines so far and those that are added to them, or why these can't be told.
abbrev pub Lines : Type 0
Lines = List Placed

abbrev pub Told : Type 0
Told = Result Lines LinesFault

-- A byte order mark at the beginning of a file is dropped.
abbrev pub mark : List ℕ
mark = 239 ∷ 187 ∷ 191 ∷ []

abbrev pub without_mark : List ℕ → List ℕ
without_mark bytes = if begins_with mark bytes then drop 3 bytes else bytes

-- The fault of a line.
abbrev pub fault_at : Placed → Why → LinesFault
fault_at l why =
    fault.Line (record { file = l.file; number = l.number; text = l.text; why = why })

-- Whether a file of this name is opened.
abbrev pub is_open : List (List ℕ) → List ℕ → Bool
is_open opened name = list_any (λ o. bytes_eq o name) opened

-- How a file is followed: by the line that includes it, and after the lines that are done.
abbrev pub Follow : Type 0
Follow = Placed → Held → Lines → Told

-- After a line what it takes in follows.
abbrev pub add_target : Follow → List (List ℕ) → Placed → Lines → Target Held → Told
add_target follow opened at done target.Nothing = Ok done
add_target follow opened at done (target.Taken f) =
    if is_open opened f.name then Err (fault_at at Cycle) else follow at f done
add_target follow opened at done (target.Wrong why) = Err (fault_at at why)
add_target follow opened at done (target.Unread name) = Err (fault.Unread name)

abbrev pub add_line : Follow → Known → List (List ℕ) → Lines → Placed → Told
add_line follow known opened done l =
    if nat_le limit.MOST_LINES (length done) then Err (fault_at l TooLong)
    else add_target follow opened l (done ++ l ∷ []) (target_of known l.text)

-- After each line the next one, if there is no fault.
abbrev pub and_then : Told → (Lines → Told) → Told
and_then (Ok done) more = more done
and_then (Err e) more = Err e

abbrev pub placed : List ℕ → ℕ → List ℕ → Placed
placed file number line = record { file = file; number = number; text = line }

abbrev pub add_lines : Follow → Known → List (List ℕ) → List ℕ → ℕ → List (text.Line (List ℕ))
    → Lines → Told
add_lines follow known opened file number [] done = Ok done
add_lines follow known opened file number (l ∷ ls) done =
    and_then (add_line follow known opened done (placed file number l.text))
    (λ more. add_lines follow known opened file (number + 1) ls more)

-- The lines of a file. The names of the files that are opened, the outermost first, end with its own.
abbrev pub add_file : Follow → Known → List (List ℕ) → Held → Lines → Told
add_file follow known opened f done =
    add_lines follow known opened f.name 1 (lines.lines_of (without_mark f.bytes)) done

-- Files are followed that deep, and no deeper.
abbrev pub follow : Known → ℕ → List (List ℕ) → Follow
follow known zero opened at f done = Err (fault_at at TooDeep)
follow known (suc left) opened at f done =
    add_file (follow known left (opened ++ f.name ∷ [])) known (opened ++ f.name ∷ []) f done

abbrev pub lines_found : Known → List ℕ → Found Held → Told
lines_found known name (found.There f) =
    follow known limit.MOST_OPEN [] (placed name 0 []) f []
lines_found known name found.Absent = Err fault.NoProfile
lines_found known name found.Unread = Err (fault.Unread name)

-- The lines of a profile: those of its file, and below each line that includes a file the lines of
-- that file, likewise.
abbrev pub lines_of : Known → List ℕ → Told
lines_of known name = lines_found known name (find known name)

-- A borrowed line.
abbrev pub of_line : FileLine (Bor (List ℕ)) (Bor (List ℕ)) → Placed
of_line l = record { file = l.file.now; number = l.number; text = l.text.now }

abbrev pub of_lines : List (FileLine (Bor (List ℕ)) (Bor (List ℕ))) → Lines
of_lines ls = map of_line ls

abbrev pub names_of : List (Bor (List ℕ)) → List (List ℕ)
names_of opened = map (λ o. o.now) opened

-- How a walk follows a file, where so many more may be opened below these.
abbrev pub follow_by : Walk → ℕ → List (Bor (List ℕ)) → Follow
follow_by w left opened = follow (known_of w.folder.now) left (names_of opened)

-- It takes in the lines of a file by the line that includes it, it adds those of an open file, and a
-- line with what this one takes in: all after these lines.
abbrev pub take_by : {Z : Type 0} → Walk → ℕ → List (Bor (List ℕ))
    → FileLine (Bor (List ℕ)) (Bor (List ℕ)) → File (Bor (List ℕ)) (Bor (List ℕ))
    → Vec (FileLine (Bor (List ℕ)) (Bor (List ℕ))) Z → Told
take_by w left opened at f done =
    follow_by w left opened (of_line at) (of_file f) (of_lines done.items)

abbrev pub add_file_by : {Z : Type 0} → Walk → ℕ → List (Bor (List ℕ))
    → File (Bor (List ℕ)) (Bor (List ℕ)) → Vec (FileLine (Bor (List ℕ)) (Bor (List ℕ))) Z → Told
add_file_by w left opened f done =
    add_file (follow_by w left opened) (known_of w.folder.now) (names_of opened) (of_file f)
    (of_lines done.items)

abbrev pub add_line_by : {Z : Type 0} → Walk → ℕ → List (Bor (List ℕ))
    → Vec (FileLine (Bor (List ℕ)) (Bor (List ℕ))) Z → FileLine (Bor (List ℕ)) (Bor (List ℕ))
    → Told
add_line_by w left opened done l =
    add_line (follow_by w left opened) (known_of w.folder.now) (names_of opened)
    (of_lines done.items) (of_line l)

-- These lines are told.
abbrev pub Gives : {Z : Type 0} → Vec (FileLine (Bor (List ℕ)) (Bor (List ℕ))) Z → Told → Type 0
Gives ls told = told ≡ Ok (of_lines ls.items)

-- The lines of the profile in this file of a folder.
abbrev pub lines_in : Folder → List ℕ → Held → Told
lines_in folder name f = follow (known_of folder) limit.MOST_OPEN [] (placed name 0 []) f []

-- The lines can't be told for that fault, or there was no memory.
abbrev pub IsFault : Told → LinesFault → Type 0
IsFault t e = (e ≡ fault.OutOfMemory) ⊎ (t ≡ Err e)
