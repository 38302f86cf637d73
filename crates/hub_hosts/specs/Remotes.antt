-- Roots on other machines, and the paths that stand for them.
use Rattle.std.specs.Prelude.{◌≡◌, false, ℕ, ◌==◌, ◌-◌, Bool, not, ◌&&◌, ◌||◌, nat_eq, List, [], ◌++◌, length, take, drop, Option, Some, None, is_some, codes, if◌then◌else◌}
use Rattle.std.specs.List.{ends_with, find, list_any}
use Rattle.std.specs.Option.{option_map, option_or}
use denote.Ref.{Bor}
use Rattle.hub_hosts.specs.Drives.{begins_with_drive, below_of, is_on_drive, is_top, of_below, text_of}
use Rattle.hub_hosts.specs.Table.{Row, has_row, is_for, is_same_name, slash}
use Rattle.hub_hosts.specs.Words.{before, begins_with, from_first, host_in, skip_end}
use Rattle.hub_hosts.specs.declared.drive.Below.{Below}
use Rattle.hub_hosts.specs.declared.remote.Local.{Local}
use Rattle.hub_hosts.specs.declared.remote.Remote.{Remote}

abbrev pub digits : List ℕ
digits = codes "0123456789"

-- A name without its port, which is a `:` and digits at its end.
abbrev pub without_port : List ℕ → List ℕ
without_port name =
    if ends_with nat_eq (skip_end digits name) (codes ":")
    then take (length (skip_end digits name) - 1) (skip_end digits name) else name

-- A path of a host is absolute after a slash, and if it begins with a drive of Windows. Else it is
-- relative to a home.
abbrev pub is_absolute : List ℕ → Bool
is_absolute path = begins_with slash path || begins_with_drive path

-- The root of this name and this path, which a slash precedes.
abbrev pub remote_at : List ℕ → List ℕ → Remote (List ℕ)
remote_at name path = record {
  name = without_port name;
  is_in_home = not (is_absolute (drop 1 path));
  below = below_of (drop 1 path);
}

-- The root that follows `://`: its name ends before the first slash.
abbrev pub remote_in : List ℕ → Remote (List ℕ)
remote_in text = remote_at (before text (from_first slash text)) (from_first slash text)

-- The root on another machine that a text is.
abbrev pub remote_of : List ℕ → Option (Remote (List ℕ))
remote_of root =
    if begins_with (codes "ssh://") root then Some (remote_in (drop 6 root))
    else (if begins_with (codes "socket://") root then Some (remote_in (drop 9 root)) else None)

-- A root here is a path that begins with one slash, or with a drive.
abbrev pub is_local : List ℕ → Bool
is_local root =
    (begins_with slash root && not (begins_with (codes "//") root)) || begins_with_drive root

-- It is on a drive.
abbrev pub is_local_drive : List ℕ → Bool
is_local_drive root = is_local root && is_on_drive (below_of root)

-- The root that this one of a profile of the machine is: what `ssh://`, the machine's name, a slash
-- and it say together.
abbrev pub remote_on : List ℕ → List ℕ → Remote (List ℕ)
remote_on machine root = record {
  name = without_port machine;
  is_in_home = false;
  below = below_of root;
}

-- The root on another machine that the root of a profile is. The roots here of a profile of another
-- machine are on that one.
abbrev pub remote_for : Option (List ℕ) → List ℕ → Option (Remote (List ℕ))
remote_for None root = remote_of root
remote_for (Some machine) root =
    if is_local root then Some (remote_on machine root) else remote_of root

-- The path of the row for this name,
abbrev pub path_for : List Row → List ℕ → Bool → Option (List ℕ)
path_for rows name in_home = option_map (λ row. row.path) (find (is_for name in_home) rows)

-- and that for a root: its name with the user comes first, then that of the host alone.
abbrev pub base_for : List Row → Remote (List ℕ) → Option (List ℕ)
base_for rows r =
    option_or (path_for rows r.name r.is_in_home) (path_for rows (host_in r.name) r.is_in_home)

-- A row marks a host as one that folds names, whichever user it names, be it for a home or not.
abbrev pub marks : List ℕ → Row → Bool
marks host row = row.folds_names && is_same_name (host_in row.name) host

abbrev pub folds_at : List Row → List ℕ → Bool
folds_at rows host = list_any (marks host) rows

-- Names fold on each drive of Windows.
abbrev pub folds_there : List Row → Remote (List ℕ) → Bool
folds_there rows r = is_on_drive r.below || folds_at rows (host_in r.name)

abbrev pub folds_remote : List Row → List ℕ → Option (Remote (List ℕ)) → Bool
folds_remote rows root None = is_local_drive root
folds_remote rows root (Some r) = folds_there rows r

-- A root of a profile of this machine is on a drive, or on a host that a row of the table marks as
-- one that folds names.
abbrev pub folds_names : List Row → Option (List ℕ) → List ℕ → Bool
folds_names rows machine root = folds_remote rows root (remote_for machine root)

-- The table has a row for the roots here of profiles of this machine.
abbrev pub has_machine : List Row → List ℕ → Bool
has_machine rows machine = is_some (base_for rows (remote_on machine slash))

-- The table has a row for this machine, by the name that others call it: its `/` is `/` here.
abbrev pub is_own : Row → Bool
is_own row = not row.is_for_home && length row.path == 0

abbrev pub has_own_row : List Row → Bool
has_own_row rows = list_any is_own rows

-- The host of a row is this machine: a row for it has the path `/`.
abbrev pub is_own_of : List ℕ → Row → Bool
is_own_of host row = is_own row && is_same_name (host_in row.name) host

abbrev pub is_here : List Row → Row → Bool
is_here rows row = list_any (is_own_of (host_in row.name)) rows

-- It is the host of a machine that an operand names, maybe with a user and a port.
abbrev pub is_of : List ℕ → Row → Bool
is_of machine row = is_same_name (host_in row.name) (host_in (without_port machine))

-- The path of a name below a folder. The folder's path has no slash at its end, so that of `/` is
-- empty.
abbrev pub folder_path : List ℕ → List ℕ
folder_path base = if length base == 0 then slash else base

abbrev pub path_below : List ℕ → Below (List ℕ) → List ℕ
path_below base below =
    if is_top below then folder_path base else base ++ slash ++ text_of below

abbrev pub local : List ℕ → Below (List ℕ) → Local (List ℕ)
local base below = record { base = base; below = below }

-- A root here on a drive, which is below the `/` of this machine.
abbrev pub local_drive : List ℕ → Option (Local (List ℕ))
local_drive root = if is_local_drive root then Some (local [] (below_of root)) else None

abbrev pub local_of : List Row → List ℕ → Option (Remote (List ℕ)) → Option (Local (List ℕ))
local_of rows root None = local_drive root
local_of rows root (Some r) = option_map (λ base. local base r.below) (base_for rows r)

-- The path that stands for a root of a profile of this machine, if the table has the root's host,
-- or if it is one here on a drive.
abbrev pub path_of_local : Local (List ℕ) → List ℕ
path_of_local l = path_below l.base l.below

abbrev pub path_of : List Row → Option (List ℕ) → List ℕ → Option (List ℕ)
path_of rows machine root = option_map path_of_local (local_of rows root (remote_for machine root))

-- Borrowed values.
abbrev pub machine_in : Option (Bor (List ℕ)) → Option (List ℕ)
machine_in machine = option_map (λ name. name.now) machine

abbrev pub of_remote : Remote (Bor (List ℕ)) → Remote (List ℕ)
of_remote r =
    record { name = r.name.now; is_in_home = r.is_in_home; below = of_below r.below }

abbrev pub of_local : Local (Bor (List ℕ)) → Local (List ℕ)
of_local l = record { base = l.base.now; below = of_below l.below }

-- If the table has neither the remote's name nor its host, it holds.
abbrev pub IfUnknown : List Row → Remote (List ℕ) → Type 0 → Type 0
IfUnknown rows r C =
    has_row rows r.name r.is_in_home ≡ false → has_row rows (host_in r.name) r.is_in_home ≡ false
    → C
