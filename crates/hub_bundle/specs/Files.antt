-- The bundle that is made of files.
use Rattle.std.specs.Prelude.{ℕ, ◌+◌, ◌-◌, ◌==◌, ◌&&◌, ◌||◌, not, Bool, false, nat_eq, List, [], ◌∷◌, ◌++◌, take, length, Option, Some, None, is_some, codes, if◌then◌else◌}
use Rattle.std.specs.List.{ends_with, flat_map, list_any, position}
use Rattle.std.specs.Option.{option_map}
use Rattle.hub_text.specs.declared.line.Line.{Line}
use Rattle.hub_text.specs.Lines.{lines_of}
use Rattle.hub_bundle.specs.declared.files.FilesFault.{FilesFault}
use Rattle.hub_bundle.specs.declared.files.FilesFault.TheVariants.{File, OutOfMemory}
use Rattle.hub_bundle.specs.declared.part.Kind.{Kind}
use Rattle.hub_bundle.specs.declared.part.Kind.TheVariants.{Profile, Rules, State, Certificates}
use Rattle.hub_bundle.specs.declared.part.Part.{Part}
use Rattle.hub_bundle.specs.declared.part.PartFault.{PartFault}
use Rattle.hub_bundle.specs.declared.part.PartFault.TheVariants.{BadName, HasHeading}

-- What follows the last `/` of a file's path.
abbrev pub base_after : List ℕ → List ℕ → List ℕ
base_after base [] = base
base_after base (b ∷ bs) = if b == 47 then base_after bs bs else base_after base bs

abbrev pub base_of : List ℕ → List ℕ
base_of path = base_after path path

-- A base without the ending of a profile's file.
abbrev pub without_ending : List ℕ → List ℕ
without_ending base =
    if ends_with nat_eq base (codes ".prf") then take (length base - 4) base else base

-- The name of the profile in a file.
abbrev pub profile_name : List ℕ → List ℕ
profile_name path = without_ending (base_of path)

-- What stands before the name of a profile that a machine has: `NAME=`. A name has no `/`.
abbrev pub machine_mark : Option (List ℕ) → List ℕ
machine_mark None = []
machine_mark (Some machine) = machine ++ codes "="

abbrev pub part_machine : Part → Option (List ℕ)
part_machine p = option_map (λ machine. machine.now) p.machine

-- How the heading of a section begins.
abbrev pub heading_word : Kind → List ℕ
heading_word Profile = codes "%profile "
heading_word Rules = codes "%rules"
heading_word State = codes "%state"
heading_word Certificates = codes "%certificates"

-- The name in the heading: only that of a profile has one.
abbrev pub heading_name : Kind → Option (List ℕ) → List ℕ → List ℕ
heading_name Profile machine path = machine_mark machine ++ profile_name path
heading_name Rules machine path = []
heading_name State machine path = []
heading_name Certificates machine path = []

abbrev pub part_name : Part → List ℕ
part_name p = heading_name p.kind (part_machine p) p.file.now

-- Whether the last line has no LF.
abbrev pub lacks_end : List ℕ → Bool
lacks_end bytes = not (length bytes == 0) && not (ends_with nat_eq bytes (10 ∷ []))

-- The LF that ends the last line, if it has none.
abbrev pub line_end : List ℕ → List ℕ
line_end bytes = if lacks_end bytes then 10 ∷ [] else []

-- A section: its heading's line, and the lines of the file.
abbrev pub part_text : Part → List ℕ
part_text p = heading_word p.kind ++ part_name p ++ 10 ∷ p.bytes.now ++ line_end p.bytes.now

-- The bundle: the sections in the order of the files.
abbrev pub bundle_of : List Part → List ℕ
bundle_of parts = flat_map part_text parts

-- A line that begins with `%` is a heading.
abbrev pub is_heading : List ℕ → Bool
is_heading [] = false
is_heading (b ∷ bs) = b == 37

-- The number of the first heading among these lines, from 1 on.
abbrev pub heading_line : List (Line (List ℕ)) → Option ℕ
heading_line ls = option_map (λ i. i + 1) (position (λ l. is_heading l.text) ls)

-- A name that can't stand in a heading has an LF or a CR.
abbrev pub has_break : List ℕ → Bool
has_break name = list_any (λ b. (b == 10) || (b == 13)) name

abbrev pub heading_fault : Option ℕ → Option PartFault
heading_fault None = None
heading_fault (Some n) = Some (HasHeading n)

-- Why a file can't be a section: its name, or a line that would begin another section.
abbrev pub part_fault : Part → Option PartFault
part_fault p =
    if has_break (part_name p) then Some BadName
    else heading_fault (heading_line (lines_of p.bytes.now))

-- The number of the first of these files that can't be a section, from 0 on.
abbrev pub is_faulty : Part → Bool
is_faulty p = is_some (part_fault p)

abbrev pub first_faulty : List Part → Option ℕ
first_faulty parts = position is_faulty parts

-- The file of a fault.
abbrev pub faulty_of : FilesFault → Option ℕ
faulty_of (File n) = Some n
faulty_of OutOfMemory = None
