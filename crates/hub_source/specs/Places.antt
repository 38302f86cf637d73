-- Where the lines of an input are.
use Rattle.std.specs.Prelude.{ℕ, Bool, ◌&&◌, ◌==◌, ◌-◌, nat_lt, List, Option, None, is_some, slice_get, if◌then◌else◌}
use Rattle.hub_source.specs.declared.source.SourceLine.{SourceLine}
use Rattle.hub_source.specs.declared.source.LinePlace.{LinePlace}

-- The first line of a section is its heading. Those before the first heading are of no section.
abbrev pub heads_section : SourceLine → Bool
heads_section l = nat_lt 0 l.section && l.number == 0

-- The file of its section is known.
abbrev pub has_file : SourceLine → Bool
has_file l = is_some l.file

-- The line of that number, from 1 on.
abbrev pub line_at : List SourceLine → ℕ → Option SourceLine
line_at ls n = if n == 0 then None else slice_get ls (n - 1)

-- A line of a file is named by its number there, and each other one by its number in the input.
abbrev pub line_place : SourceLine → LinePlace
line_place l = record { file = l.file; number = if has_file l then l.file_number else l.at }
