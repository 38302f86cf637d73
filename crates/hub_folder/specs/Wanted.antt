-- The files that lines ask for.
use Rattle.std.specs.Prelude.{◌≡◌, None, string_bytes}
use Rattle.hub_include.specs.Files.{known_of}
use Rattle.hub_include.specs.declared.folder.Folder.{Folder}
use Rattle.hub_folder.specs.declared.wanted.Wanted.{Wanted}

-- Nobody has looked for this file.
abbrev pub IsUnknown : Folder → Wanted → Type 0
IsUnknown folder w = known_of folder (string_bytes w.name) ≡ None
