-- Which texts are profiles, and the first fault of each other text.
use Rattle.std.specs.Prelude.{◌≡◌, ℕ, Bool, true, false, not, ◌&&◌, ◌||◌, ◌==◌, ◌+◌, nat_le, List, [], ◌∷◌, ◌++◌, length, map, Option, Some, None, Result, Ok, Err, if◌then◌else◌, codes}
use Rattle.std.specs.List.{list_any}
use Rattle.hub_path.specs.Path.{Name, Path, path_eq, is_over}
use Rattle.hub_path.specs.Reading.{path_reading, root_reading, begins_with_slash, without_last_slash}
use Rattle.hub_path.specs.declared.fault.PathFault.{PathFault}
use Rattle.hub_path.specs.declared.fault.PathFault.TheVariants.{LeadingSlash}
use Rattle.hub_glob.specs.Specification.{Specification}
use Rattle.hub_glob.specs.Reading.{spec_reading}
use Rattle.hub_glob.specs.declared.fault.GlobFault.{GlobFault}
use Rattle.hub_profile.specs.Faults.{FailsAs}
use Rattle.hub_profile.specs.Parts.{Parts}
use Rattle.hub_profile.specs.Said.{Said, nothing_said}
use Rattle.hub_profile.specs.Protection.{repeats, is_left_out, is_forced, is_preferred, side_where, bars_at}
use Rattle.hub_profile.specs.Arrow.{has_arrow, spec_and_root}
use Rattle.hub_profile.specs.PartialLines.{partial_line, partials_of}
use Rattle.hub_profile.specs.Foreign.{foreign_fault}
use Rattle.hub_profile.specs.LineByLine.{Table, lines_reading, if_text, look_up}
use Rattle.hub_profile.specs.declared.key.Key.{Key}
use Rattle.hub_profile.specs.declared.key.Key.TheVariants as key
use Rattle.hub_profile.specs.declared.bars.Bars.{Bars}
use Rattle.hub_profile.specs.declared.protection.Protection.{Protection}
use Rattle.hub_profile.specs.declared.protection.ProtectionLine.{ProtectionLine}
use Rattle.hub_profile.specs.declared.protection.Protection.TheVariants.{Force, Prefer, Bar}
use Rattle.hub_profile.specs.declared.fault.Fault.{Fault}
use Rattle.hub_profile.specs.declared.fault.Fault.TheVariants as fault
use Rattle.hub_profile.specs.declared.fault.ProfileFault.{ProfileFault}
use Rattle.hub_profile.specs.declared.draft.TheConstants.{PATH_LINES, PATTERN_LINES, PARTIAL_LINES}

-- What `nodeletion`, `noupdate` and `nocreation` forbid at their root: `noupdate` forbids deletions
-- too. The preferences whose names end in `partial` forbid the same on some paths.
abbrev pub no_deletion : Bars
no_deletion = record { create = false; update = false; delete = true }

abbrev pub no_update : Bars
no_update = record { create = false; update = true; delete = true }

abbrev pub no_creation : Bars
no_creation = record { create = true; update = false; delete = false }

-- The preferences of a profile, by their names. The last ones are accepted without effect.
abbrev pub keys : List (List ℕ × Key)
keys =
    (codes "root", key.Root)
    ∷ (codes "path", key.Path)
    ∷ (codes "ignore", key.Ignore)
    ∷ (codes "ignorenot", key.IgnoreNot)
    ∷ (codes "force", key.Protect Force)
    ∷ (codes "prefer", key.Protect Prefer)
    ∷ (codes "nodeletion", key.Protect (Bar no_deletion))
    ∷ (codes "noupdate", key.Protect (Bar no_update))
    ∷ (codes "nocreation", key.Protect (Bar no_creation))
    ∷ (codes "nodeletionpartial", key.Partial no_deletion)
    ∷ (codes "noupdatepartial", key.Partial no_update)
    ∷ (codes "nocreationpartial", key.Partial no_creation)
    ∷ (codes "auto", key.NoEffect)
    ∷ (codes "batch", key.NoEffect)
    ∷ (codes "confirmbigdel", key.NoEffect)
    ∷ (codes "contactquietly", key.NoEffect)
    ∷ (codes "fastcheck", key.NoEffect)
    ∷ (codes "group", key.NoEffect)
    ∷ (codes "key", key.NoEffect)
    ∷ (codes "label", key.NoEffect)
    ∷ (codes "log", key.NoEffect)
    ∷ (codes "logfile", key.NoEffect)
    ∷ (codes "owner", key.NoEffect)
    ∷ (codes "perms", key.NoEffect)
    ∷ (codes "silent", key.NoEffect)
    ∷ (codes "terse", key.NoEffect)
    ∷ (codes "times", key.NoEffect)
    ∷ []

-- The value of a `path` line: an empty one means the whole replica. A slash at its start is
-- reported first; then one slash at the end is dropped.
abbrev pub kept_reading : List ℕ → Result Path PathFault
kept_reading cs =
    if length cs == 0 then Ok []
    else (if begins_with_slash cs then Err LeadingSlash else path_reading (without_last_slash cs))

abbrev pub with_root : Said → Result Path PathFault → Result Said Fault
with_root said (Ok root) = Ok (record said { roots = said.roots ++ root ∷ [] })
with_root said (Err e) = Err (fault.BadPath e)

abbrev pub with_path : Said → Result Path PathFault → Result Said Fault
with_path said (Ok path) = Ok (record said { paths = said.paths ++ path ∷ [] })
with_path said (Err e) = Err (fault.BadPath e)

abbrev pub with_ignore : Said → Result Specification GlobFault → Result Said Fault
with_ignore said (Ok spec) = Ok (record said { ignore = said.ignore ++ spec ∷ [] })
with_ignore said (Err e) = Err (fault.BadPattern e)

abbrev pub with_ignorenot : Said → Result Specification GlobFault → Result Said Fault
with_ignorenot said (Ok spec) = Ok (record said { ignorenot = said.ignorenot ++ spec ∷ [] })
with_ignorenot said (Err e) = Err (fault.BadPattern e)

abbrev pub has_all_paths : Said → Bool
has_all_paths said = nat_le PATH_LINES (length said.paths)

-- `ignore` and `ignorenot` lines are counted together.
abbrev pub has_all_patterns : Said → Bool
has_all_patterns said = nat_le PATTERN_LINES (length said.ignore + length said.ignorenot)

abbrev pub protection_line : ℕ → Protection → Path → ProtectionLine
protection_line n p root = record { line = n; protection = p; root = root }

abbrev pub with_protected : Protection → Said → ℕ → Result Path PathFault → Result Said Fault
with_protected p said n (Ok root) =
    Ok (record said { protections = said.protections ++ protection_line n p root ∷ [] })
with_protected p said n (Err e) = Err (fault.BadPath e)

-- A line that protects a root: that it repeats another is reported first, then a value that is left
-- out.
abbrev pub protection_added : Protection → Said → ℕ → List ℕ → Result Said Fault
protection_added p said n v =
    if repeats p said.protections then Err fault.Repeated
    else
    (if is_left_out p v then Err fault.LeftOutValue else with_protected p said n (root_reading v))

-- `nodeletionpartial`, `noupdatepartial` and `nocreationpartial` lines are counted together.
abbrev pub has_all_partials : Said → Bool
has_all_partials said = nat_le PARTIAL_LINES (length said.partials)

-- The fault of the specification is reported before that of the root.
abbrev pub with_partial :
    Bars → Said → ℕ → Result Specification GlobFault → Result Path PathFault → Result Said Fault
with_partial bars said n (Ok spec) (Ok root) =
    Ok (record said { partials = said.partials ++ partial_line n bars spec root ∷ [] })
with_partial bars said n (Ok spec) (Err e) = Err (fault.BadPath e)
with_partial bars said n (Err e) root = Err (fault.BadPattern e)

abbrev pub with_spec_and_root : Bars → Said → ℕ → List ℕ × List ℕ → Result Said Fault
with_spec_and_root bars said n pair =
    with_partial bars said n (spec_reading pair.0) (root_reading pair.1)

-- A line that bars changes on some paths of a root: that there are enough of them is reported
-- first, then that the value has no arrow.
abbrev pub partial_added : Bars → Said → ℕ → List ℕ → Result Said Fault
partial_added bars said n v =
    if has_all_partials said then Err fault.TooMany
    else (if has_arrow v then with_spec_and_root bars said n (spec_and_root v)
    else Err fault.NoArrow)

abbrev pub root_added : Said → List ℕ → Result Said Fault
root_added said v = with_root said (root_reading v)

abbrev pub path_added : Said → List ℕ → Result Said Fault
path_added said v =
    if has_all_paths said then Err fault.TooMany else with_path said (kept_reading v)

abbrev pub ignore_added : Said → List ℕ → Result Said Fault
ignore_added said v =
    if has_all_patterns said then Err fault.TooMany else with_ignore said (spec_reading v)

abbrev pub ignorenot_added : Said → List ℕ → Result Said Fault
ignorenot_added said v =
    if has_all_patterns said then Err fault.TooMany else with_ignorenot said (spec_reading v)

-- What a value on the line of that number adds, or its fault, preference by preference.
abbrev pub with_value : Key → Said → ℕ → List ℕ → Result Said Fault
with_value key.Root said n v = root_added said v
with_value key.Path said n v = path_added said v
with_value key.Ignore said n v = ignore_added said v
with_value key.IgnoreNot said n v = ignorenot_added said v
with_value (key.Protect p) said n v = protection_added p said n v
with_value (key.Partial bars) said n v = partial_added bars said n v
with_value key.NoEffect said n v = Ok said

-- What is said once a value of that preference was added, and the fault of a value that is not.
abbrev pub AddsValue : Key → Said → ℕ → List ℕ → Said → Type 0
AddsValue key said n v more = with_value key said n v ≡ Ok more

abbrev pub RefusesValue : Key → Said → ℕ → List ℕ → Fault → Type 0
RefusesValue key said n v = FailsAs (with_value key said n v)

abbrev pub with_key : Option Key → Table Said
with_key (Some k) said n name v = with_value k said n v
with_key None said n name v = Err (fault.UnknownPreference name)

abbrev pub with_preference : Table Said
with_preference said n name v = with_key (look_up name keys) said n name v

-- What is wrong with the roots of a profile: no line of it is at fault.
abbrev pub roots_fault : List Path → Option Fault
roots_fault [] = Some fault.RootCount
roots_fault (r ∷ []) = Some fault.RootCount
roots_fault (r ∷ s ∷ []) =
    if path_eq r s then Some fault.SameRoots
    else (if is_over r s || is_over s r then Some fault.RootsNested else None)
roots_fault (r ∷ s ∷ t ∷ rs) = Some fault.RootCount

-- A path lies properly below another one.
abbrev pub is_properly_below : Path → Path → Bool
is_properly_below s t = is_over t s && not (path_eq t s)

-- A value adds something to the profile: it is neither equal to an earlier one nor properly below
-- any.
abbrev pub adds : List Path → List Path → Path → Bool
adds all earlier s = not (list_any (path_eq s) earlier) && not (list_any (is_properly_below s) all)

-- Of the values that stand after the earlier ones, those that add something.
abbrev pub kept_after : List Path → List Path → List Path → List Path
kept_after all earlier [] = []
kept_after all earlier (s ∷ ss) =
    if adds all earlier s then s ∷ kept_after all (earlier ++ s ∷ []) ss
    else kept_after all (earlier ++ s ∷ []) ss

abbrev pub kept : List Path → List Path
kept all = kept_after all [] all

-- With no value, the whole replica is kept.
abbrev pub or_whole : List Path → List Path
or_whole [] = [] ∷ []
or_whole (s ∷ ss) = s ∷ ss

-- The profile of that name whose lines say this.
abbrev pub profile : Name → Said → Parts
profile name said = record {
  name = name;
  roots = said.roots;
  paths = or_whole (kept said.paths);
  ignore = said.ignore;
  ignorenot = said.ignorenot;
  force = side_where (is_forced said.protections) said.roots;
  prefer = side_where (is_preferred said.protections) said.roots;
  bars = map (bars_at said.protections) said.roots;
  partial = partials_of said.roots said.partials;
}

-- A fault of the roots is at line 0; without one, the later fault counts.
abbrev pub or_later : Option Fault → Option ProfileFault → Option ProfileFault
or_later None later = later
or_later (Some f) later = Some (record { line = 0; fault = f })

-- What is wrong with what all lines say: with the roots first, then the lowest line that names
-- another root.
abbrev pub whole_fault : Said → Option ProfileFault
whole_fault said =
    or_later (roots_fault said.roots) (foreign_fault said.roots said.protections said.partials)

abbrev pub unless_fault : {T : Type 0} → Option ProfileFault → T → Result T ProfileFault
unless_fault None x = Ok x
unless_fault (Some f) x = Err f

abbrev pub finished : Name → Said → Result Parts ProfileFault
finished name said = unless_fault (whole_fault said) (profile name said)

abbrev pub if_said : Name → Result Said ProfileFault → Result Parts ProfileFault
if_said name (Ok said) = finished name said
if_said name (Err f) = Err f

-- What a text says, or its first fault.
abbrev pub profile_reading : Name → List ℕ → Result Parts ProfileFault
profile_reading name cs = if_said name (lines_reading with_preference nothing_said cs)

abbrev pub profile_in : Name → List ℕ → Result Parts ProfileFault
profile_in name bytes = if_text (profile_reading name) bytes
