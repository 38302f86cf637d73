-- What errors of the system say of files.
use Rattle.std.specs.Prelude.{◌≤◌, ℕ, List, Option, None, Some, length}
use Rattle.std.specs.IoError.{error_kind}
use Rattle.std.specs.declared.io.Error.{Error}
use Rattle.std.specs.declared.io.ErrorKind.{ErrorKind}
use Rattle.std.specs.declared.io.ErrorKind.TheVariants as kind
use Rattle.hub_bundle.specs.declared.input.TheConstants.{READ_TURNS}
use Rattle.hub_folder.specs.declared.reader.ReadFault.TheVariants.{Missing, ReadFailed}
use Rattle.hub_folder.specs.declared.reader.Unread.{Unread}
use Rattle.hub_folder.specs.declared.reader.Unread.TheVariants.{File, OutOfMemory}

-- Why a file wasn't read, if a call gave an error of this kind, or none that is known.
abbrev pub unread_of_kind : ErrorKind → Option Error → Unread
unread_of_kind kind.OutOfMemory error = OutOfMemory
unread_of_kind kind.NotFound error = File (Missing error)
unread_of_kind _ error = File (ReadFailed error)

abbrev pub unread_of : Option Error → Unread
unread_of None = File (ReadFailed None)
unread_of (Some error) = unread_of_kind (error_kind error) (Some error)

-- So many bytes that they may not be read to their end.
abbrev pub IsTooLong : List ℕ → Type 0
IsTooLong bytes = READ_TURNS ≤ length bytes
