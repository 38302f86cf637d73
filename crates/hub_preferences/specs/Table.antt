-- The preferences of Unison, and what its lines do.
use Rattle.std.specs.Prelude.{◌≡◌, true, ℕ, List, [], ◌∷◌, Option, map, codes}
use Rattle.std.specs.Option.{option_map, option_or}
use denote.Ref.{Bor}
use Rattle.hub_profile.specs.LineByLine.{are_words, look_up}
use Rattle.hub_preferences.specs.declared.table.Effect.{Effect}
use Rattle.hub_preferences.specs.declared.table.Effect.TheVariants as effect
use Rattle.hub_preferences.specs.declared.table.Meaning.{Meaning}
use Rattle.hub_preferences.specs.declared.table.Rule.{Rule}
use Rattle.hub_preferences.specs.declared.table.Rule.TheVariants as rule
use Rattle.hub_preferences.specs.declared.table.Preference.{Preference}

-- What becomes of the lines, and what they do.
abbrev pub means : Rule → Effect → Meaning
means r e = record { rule = r; effect = e }

-- By these, Unison changes less, or with some values more.
abbrev pub changes : List (List ℕ × Meaning)
changes =
    (codes "copyonconflict", means rule.LeftOutIfOff effect.AddsChanges)
    ∷ (codes "fat", means rule.LeftOutIfOff effect.AddsChanges)
    ∷ (codes "force", means rule.Force effect.HoldsBack)
    ∷ (codes "forcepartial", means rule.OverridesForce effect.AddsChanges)
    ∷ (codes "ignore", means rule.Ignore effect.HoldsBack)
    ∷ (codes "ignorearchives", means rule.LeftOut effect.HoldsBack)
    ∷ (codes "ignorecase", means rule.LeftOutIfOff effect.AddsChanges)
    ∷ (codes "ignorelocks", means rule.LeftOutIfOff effect.AddsChanges)
    ∷ (codes "ignorenot", means rule.IgnoreNot effect.AddsChanges)
    ∷ (codes "immutable", means rule.LeftOut effect.HoldsBack)
    ∷ (codes "immutablenot", means rule.LeftOut effect.NoInfluence)
    ∷ (codes "links", means rule.LeftOut effect.HoldsBack)
    ∷ (codes "maxerrors", means rule.LeftOut effect.HoldsBack)
    ∷ (codes "maxsizethreshold", means rule.LeftOut effect.HoldsBack)
    ∷ (codes "mountpoint", means rule.LeftOut effect.HoldsBack)
    ∷ (codes "nocreationpartial", means rule.PartialBar effect.HoldsBack)
    ∷ (codes "nodeletionpartial", means rule.PartialBar effect.HoldsBack)
    ∷ (codes "noupdatepartial", means rule.PartialBar effect.HoldsBack)
    ∷ (codes "prefer", means rule.LeftOut effect.NoInfluence)
    ∷ (codes "preferpartial", means rule.OverridesForce effect.AddsChanges)
    ∷ (codes "rsrc", means rule.LeftOutIfOff effect.AddsChanges)
    ∷ (codes "unicode", means rule.LeftOutIfOff effect.AddsChanges)
    ∷ []

-- By these, Unison writes outside what it synchronizes.
abbrev pub elsewhere : List (List ℕ × Meaning)
elsewhere =
    (codes "addprefsto", means rule.LeftOutIfName effect.WritesElsewhere)
    ∷ (codes "backup", means rule.LeftOut effect.WritesElsewhere)
    ∷ (codes "backupcurr", means rule.LeftOut effect.WritesElsewhere)
    ∷ (codes "backupcurrent", means rule.LeftOut effect.WritesElsewhere)
    ∷ (codes "backupcurrentnot", means rule.LeftOut effect.WritesElsewhere)
    ∷ (codes "backupcurrnot", means rule.LeftOut effect.WritesElsewhere)
    ∷ (codes "backupdir", means rule.Stays effect.WritesElsewhere)
    ∷ (codes "backuploc", means rule.LeftOutIfCentral effect.WritesElsewhere)
    ∷ (codes "backuplocation", means rule.LeftOutIfCentral effect.WritesElsewhere)
    ∷ (codes "backupnot", means rule.LeftOut effect.WritesElsewhere)
    ∷ (codes "backupprefix", means rule.LeftOutIfName effect.WritesElsewhere)
    ∷ (codes "backups", means rule.LeftOutIfOff effect.WritesElsewhere)
    ∷ (codes "backupsuffix", means rule.LeftOutIfName effect.WritesElsewhere)
    ∷ (codes "backupversions", means rule.LeftOut effect.WritesElsewhere)
    ∷ (codes "copyprog", means rule.LeftOut effect.WritesElsewhere)
    ∷ (codes "copyprogrest", means rule.LeftOut effect.WritesElsewhere)
    ∷ (codes "copythreshold", means rule.LeftOut effect.WritesElsewhere)
    ∷ (codes "logfile", means rule.LeftOutIfApart effect.WritesElsewhere)
    ∷ (codes "maxbackups", means rule.LeftOut effect.WritesElsewhere)
    ∷ (codes "mirror", means rule.LeftOut effect.WritesElsewhere)
    ∷ (codes "servercmd", means rule.LeftOut effect.WritesElsewhere)
    ∷ (codes "sshargs", means rule.LeftOut effect.WritesElsewhere)
    ∷ (codes "sshcmd", means rule.LeftOut effect.WritesElsewhere)
    ∷ []

-- Their lines are left out, and have no influence.
abbrev pub without_influence : List (List ℕ) → List (List ℕ × Meaning)
without_influence names = map (λ (name : List ℕ). (name, means rule.LeftOut effect.NoInfluence)) names

-- These are about connections, and about how files are copied.
abbrev pub transfers : List (List ℕ × Meaning)
transfers = without_influence
    (codes "acl"
    ∷ codes "addversionno"
    ∷ codes "clientHostName"
    ∷ codes "copymax"
    ∷ codes "copyquoterem"
    ∷ codes "halfduplex"
    ∷ codes "host"
    ∷ codes "killserver"
    ∷ codes "maxthreads"
    ∷ codes "rsync"
    ∷ codes "stream"
    ∷ codes "xattrignore"
    ∷ codes "xattrignorenot"
    ∷ codes "xattrs"
    ∷ codes "xferbycopying"
    ∷ [])

-- These are about what is shown and asked, about when Unison runs, and about how it finds changes.
abbrev pub displays : List (List ℕ × Meaning)
displays = without_influence
    (codes "color"
    ∷ codes "confirmbigdeletes"
    ∷ codes "confirmmerge"
    ∷ codes "debug"
    ∷ codes "diff"
    ∷ codes "dontchmod"
    ∷ codes "dumbtty"
    ∷ codes "fastercheckUNSAFE"
    ∷ codes "height"
    ∷ codes "ignoreinodenumbers"
    ∷ codes "numericids"
    ∷ codes "pretendwin"
    ∷ codes "repeat"
    ∷ codes "retry"
    ∷ codes "showarchive"
    ∷ codes "sortbysize"
    ∷ codes "sortfirst"
    ∷ codes "sortlast"
    ∷ codes "sortnewfirst"
    ∷ codes "watch"
    ∷ [])

-- Their lines stay: the plain reader reads them, or refuses them.
abbrev pub staying : List (List ℕ × Meaning)
staying =
    (codes "atomic", means rule.Stays effect.AddsChanges)
    ∷ (codes "auto", means rule.Stays effect.NoInfluence)
    ∷ (codes "batch", means rule.Stays effect.NoInfluence)
    ∷ (codes "confirmbigdel", means rule.Stays effect.NoInfluence)
    ∷ (codes "contactquietly", means rule.Stays effect.NoInfluence)
    ∷ (codes "doc", means rule.Stays effect.HoldsBack)
    ∷ (codes "dumparchives", means rule.Stays effect.HoldsBack)
    ∷ (codes "fastcheck", means rule.Stays effect.NoInfluence)
    ∷ (codes "follow", means rule.Stays effect.AddsChanges)
    ∷ (codes "group", means rule.Stays effect.NoInfluence)
    ∷ (codes "i", means rule.Stays effect.HoldsBack)
    ∷ (codes "include", means rule.Stays effect.AddsChanges)
    ∷ (codes "key", means rule.Stays effect.NoInfluence)
    ∷ (codes "label", means rule.Stays effect.NoInfluence)
    ∷ (codes "listen", means rule.Stays effect.HoldsBack)
    ∷ (codes "log", means rule.Stays effect.NoInfluence)
    ∷ (codes "merge", means rule.Stays effect.AddsChanges)
    ∷ (codes "nocreation", means rule.Stays effect.HoldsBack)
    ∷ (codes "nodeletion", means rule.Stays effect.HoldsBack)
    ∷ (codes "noupdate", means rule.Stays effect.HoldsBack)
    ∷ (codes "owner", means rule.Stays effect.NoInfluence)
    ∷ (codes "path", means rule.Stays effect.AddsChanges)
    ∷ (codes "perms", means rule.Stays effect.NoInfluence)
    ∷ (codes "root", means rule.Stays effect.AddsChanges)
    ∷ (codes "rootalias", means rule.Stays effect.AddsChanges)
    ∷ (codes "selftest", means rule.Stays effect.HoldsBack)
    ∷ (codes "silent", means rule.Stays effect.NoInfluence)
    ∷ (codes "socket", means rule.Stays effect.HoldsBack)
    ∷ (codes "source", means rule.Stays effect.AddsChanges)
    ∷ (codes "terse", means rule.Stays effect.NoInfluence)
    ∷ (codes "testserver", means rule.Stays effect.HoldsBack)
    ∷ (codes "times", means rule.Stays effect.NoInfluence)
    ∷ (codes "ui", means rule.Stays effect.HoldsBack)
    ∷ (codes "version", means rule.Stays effect.HoldsBack)
    ∷ []

-- What is said of the preference of that name in these tables, from the last one on.
abbrev pub idle_meaning : List ℕ → Option Meaning
idle_meaning name = option_or (look_up name transfers) (look_up name displays)

abbrev pub quiet_meaning : List ℕ → Option Meaning
quiet_meaning name = option_or (look_up name elsewhere) (idle_meaning name)

abbrev pub other_meaning : List ℕ → Option Meaning
other_meaning name = option_or (look_up name changes) (quiet_meaning name)

-- What is said of the preference of that name, if Unison has one. No two tables have one name.
abbrev pub meaning_named : List ℕ → Option Meaning
meaning_named name = option_or (look_up name staying) (other_meaning name)

-- What Unison may do by the lines that set it.
abbrev pub effect_named : List ℕ → Option Effect
effect_named name = option_map (λ (m : Meaning). m.effect) (meaning_named name)

-- The rows of a table in code, by what their names point to.
abbrev pub meanings_of : List (Bor (List ℕ) × Preference) → List (List ℕ × Meaning)
meanings_of rows =
    map (λ (row : Bor (List ℕ) × Preference). (row.0.now, means row.1.rule row.1.effect)) rows

-- This is beside the name in the table of ASCII words that these rows are, if the name is there.
abbrev pub IsLookedUp : List (Bor (List ℕ) × Preference) → List ℕ → Option Meaning → Type 0
IsLookedUp rows name m =
    (table : List (List ℕ × Meaning)) → meanings_of rows ≡ table → are_words table ≡ true
    → m ≡ look_up name table
