-- Worked values of a cautious reading. What Unison does was observed with 2.52.1.
use Rattle.std.specs.Prelude.{⊤, ◌≡◌, ℕ, List, [], ◌∷◌, ◌++◌, Some, None, codes, refl}
use Rattle.std.specs.Str.{is_utf8, chars}
use Rattle.hub_path.specs.declared.fault.PathFault.TheVariants as path
use Rattle.hub_profile.specs.declared.fault.Fault.{Fault}
use Rattle.hub_profile.specs.declared.fault.Fault.TheVariants as fault
use Rattle.hub_preferences.specs.Counted.{counted_bundle}
use Rattle.hub_preferences.specs.Findings.{findings_of, fault_alone}
use Rattle.hub_preferences.specs.Table.{effect_named}
use Rattle.hub_preferences.specs.declared.table.Effect.TheVariants.{AddsChanges, HoldsBack, NoInfluence, WritesElsewhere}
use Rattle.hub_preferences.specs.declared.finding.Finding.{Finding}
use Rattle.hub_preferences.specs.declared.finding.Outcome.TheVariants.{LeftOut, Refused}

-- What these examples compute.
computed : ⊤
unfolding is_utf8 chars lib.Utf8.encode
computed = tt

-- The bundle of one profile with these lines, and what counts of it.
abbrev counted_of : List ℕ → List ℕ
counted_of lines = counted_bundle (codes "%profile p\n" ++ lines)

abbrev of : List ℕ → List ℕ
of lines = codes "%profile p\n" ++ lines

nothing : counted_bundle [] ≡ []
nothing = refl

-- What the plain reader reads stays, and so do comments, blank lines, CR and a last line without LF.
plain_lines_stay : counted_of (codes "root = /a\r\n# b\n\n times = true") ≡ of (codes "root = /a\r\n# b\n\n times = true")
unfolding computed
plain_lines_stay = refl

-- It decides conflicts alone, whatever its value is.
prefer_is_left_out : counted_of (codes "prefer = newer\nprefer = /a\n") ≡ of (codes "#refer = newer\n#refer = /a\n")
unfolding computed
prefer_is_left_out = refl

-- Blanks around a name, and none around the `=`.
blanks_dont_matter : counted_of (codes " \tlinks=false\nmaxerrors\t= 3\r\n") ≡ of (codes "#\tlinks=false\n#axerrors\t= 3\r\n")
unfolding computed
blanks_dont_matter = refl

-- Unison takes no start of a name, and no other case: such lines stay, and are refused.
other_spellings_stay : counted_of (codes "link = false\nLinks = false\n-links = false\nlinks\n") ≡ of (codes "link = false\nLinks = false\n-links = false\nlinks\n")
unfolding computed
other_spellings_stay = refl

-- Of several `force` lines the last one counts.
last_force_counts : counted_of (codes "force = /a\npath = x\nforce = /b\n") ≡ of (codes "#orce = /a\npath = x\nforce = /b\n")
unfolding computed
last_force_counts = refl

last_force_names_no_root : counted_of (codes "force = /a\nforce = newer\n") ≡ of (codes "#orce = /a\n#orce = newer\n")
unfolding computed
last_force_names_no_root = refl

earlier_force_names_no_root : counted_of (codes "force =\nforce = /a\n") ≡ of (codes "#orce =\nforce = /a\n")
unfolding computed
earlier_force_names_no_root = refl

-- Wherever it stands.
force_is_overridden : counted_of (codes "force = /a\nforcepartial = Name x -> /b\n") ≡ of (codes "#orce = /a\n#orcepartial = Name x -> /b\n")
unfolding computed
force_is_overridden = refl

force_below_is_overridden : counted_of (codes "preferpartial = Name x -> newer\nforce = /a\n") ≡ of (codes "#referpartial = Name x -> newer\n#orce = /a\n")
unfolding computed
force_below_is_overridden = refl

-- Another profile's lines don't matter.
profiles_are_apart : counted_bundle (codes "%profile p\nforce = /a\n%profile q\nforcepartial = Name x -> /b\nforce = /c\n%profile r\nforce = /d\n") ≡ codes "%profile p\nforce = /a\n%profile q\n#orcepartial = Name x -> /b\n#orce = /c\n%profile r\nforce = /d\n"
unfolding computed
profiles_are_apart = refl

-- An `ignore` line whose pattern the plain reader can't read.
unread_ignore : counted_of (codes "ignore = Name a\nignore = Regex b\nignore = Name [!c]*\n") ≡ of (codes "ignore = Name a\n#gnore = Regex b\n#gnore = Name [!c]*\n")
unfolding computed
unread_ignore = refl

-- With such an `ignorenot` line nothing is ignored.
unread_ignorenot : counted_of (codes "ignore = Name a\nignorenot = Name b\nignorenot = Regex c\nignore = Name d\n") ≡ of (codes "#gnore = Name a\nignorenot = Name b\n#gnorenot = Regex c\n#gnore = Name d\n")
unfolding computed
unread_ignorenot = refl

-- A bar counts if Unison sees its one arrow, between spaces, and the plain reader reads its pattern.
bars : counted_of (codes "noupdatepartial = Name a -> /r\nnocreationpartial = Name a  ->  /r\nnodeletionpartial = Name {f,g} -> /r\n") ≡ of (codes "noupdatepartial = Name a -> /r\nnocreationpartial = Name a  ->  /r\nnodeletionpartial = Name {f,g} -> /r\n")
unfolding computed
bars = refl

unseen_arrows : counted_of (codes "noupdatepartial = Name a->/r\nnoupdatepartial = Name a ->/r\nnoupdatepartial = Name a-> /r\nnoupdatepartial = Name a\t->\t/r\nnoupdatepartial = Name a -> b -> /r\nnoupdatepartial = Name a\n") ≡ of (codes "#oupdatepartial = Name a->/r\n#oupdatepartial = Name a ->/r\n#oupdatepartial = Name a-> /r\n#oupdatepartial = Name a\t->\t/r\n#oupdatepartial = Name a -> b -> /r\n#oupdatepartial = Name a\n")
unfolding computed
unseen_arrows = refl

unread_bar : counted_of (codes "noupdatepartial = Regex a -> /r\n") ≡ of (codes "#oupdatepartial = Regex a -> /r\n")
unfolding computed
unread_bar = refl

-- Values that decide.
off_is_left_out : counted_of (codes "rsrc = false\nrsrc = true\nrsrc = default\nignorecase = false\nignorecase = true\nbackups = false\nbackups = true\n") ≡ of (codes "#src = false\nrsrc = true\n#src = default\n#gnorecase = false\nignorecase = true\n#ackups = false\nbackups = true\n")
unfolding computed
off_is_left_out = refl

central_is_left_out : counted_of (codes "backuplocation = central\nbackuplocation = local\nbackuploc = local\n") ≡ of (codes "#ackuplocation = central\nbackuplocation = local\nbackuploc = local\n")
unfolding computed
central_is_left_out = refl

-- Unison takes names that are empty or `.` for nothing. The plain reader drops a slash at the end.
other_spellings : counted_of (codes "path = ./a\npath=a//b\n path = ./a//b/. \r\npath = .\n") ≡ of (codes "path = a/\npath = a/b/\npath = a/b/\npath = \n")
unfolding computed
other_spellings = refl

-- What Unison refuses stays, and so do a name that begins with a blank, other lines, and what is read as it is.
spellings_that_stay : counted_of (codes "path = /a\npath = ./..\npath = ./ a\npath = a/\npath =\npath = a\\b\nroot = /a//b\nignore = Path ./a\n") ≡ of (codes "path = /a\npath = ./..\npath = ./ a\npath = a/\npath =\npath = a\\b\nroot = /a//b\nignore = Path ./a\n")
unfolding computed
spellings_that_stay = refl

-- What adds writes or names stays, so the plain reader refuses it.
refused_lines_stay : counted_of (codes "follow = Path a\nmerge = Name * -> m\natomic = Name d\nrootalias = //a//b -> //c//d\ncopyonconflict = true\nfat = true\nunicode = true\nignorelocks = true\nbackupdir = /a/b\ninclude c\n") ≡ of (codes "follow = Path a\nmerge = Name * -> m\natomic = Name d\nrootalias = //a//b -> //c//d\ncopyonconflict = true\nfat = true\nunicode = true\nignorelocks = true\nbackupdir = /a/b\ninclude c\n")
unfolding computed
refused_lines_stay = refl

-- A prefix or a suffix with a `/` moves the copies to another folder: the line stays, and is refused.
-- So is a file for new lines that isn't named alone. On some hosts `\` and `:` separate names, too.
parts_of_names : counted_of (codes "backupprefix = .bak.$VERSION.\nbackupsuffix = ~\naddprefsto = common\nbackupprefix =\n") ≡ of (codes "#ackupprefix = .bak.$VERSION.\n#ackupsuffix = ~\n#ddprefsto = common\n#ackupprefix =\n")
unfolding computed
parts_of_names = refl

separators_are_refused : counted_of (codes "backupprefix = ../../../hub/docs/$VERSION.\nbackupprefix = sub/$VERSION.\nbackupsuffix = /$VERSION\naddprefsto = /hub/l\naddprefsto = ..\\l\nbackupsuffix = :x\n") ≡ of (codes "backupprefix = ../../../hub/docs/$VERSION.\nbackupprefix = sub/$VERSION.\nbackupsuffix = /$VERSION\naddprefsto = /hub/l\naddprefsto = ..\\l\nbackupsuffix = :x\n")
unfolding computed
separators_are_refused = refl

-- A log in Unison's own folder, or at a place outside of all roots, doesn't count.
abbrev two_profiles : List ℕ → List ℕ
two_profiles lines = codes "%profile a\nroot = /srv/hub\nroot = /srv/a\n%profile b\nroot = /srv/b\n" ++ lines

apart_logs : counted_bundle (two_profiles (codes "logfile = my.log\nlogfile = /srv/log\nlogfile = /srv/hub2/log/\nlogfile = /srv\nlogfile = /x/srv/hub/l\n")) ≡ two_profiles (codes "#ogfile = my.log\n#ogfile = /srv/log\n#ogfile = /srv/hub2/log/\n#ogfile = /srv\n#ogfile = /x/srv/hub/l\n")
unfolding computed
apart_logs = refl

-- One in a root of any profile is refused, and so is one of which it can't be known: by another spelling
-- of the root, or a place that depends on where Unison's folder is.
logs_in_roots : counted_bundle (two_profiles (codes "logfile = /srv/hub/docs/l\nlogfile=/srv/a\n logfile = /srv/b/l\r\n")) ≡ two_profiles (codes "logfile in a root =\nlogfile in a root =\nlogfile in a root =\n")
unfolding computed
logs_in_roots = refl

unknown_logs : counted_bundle (two_profiles (codes "logfile = ../l\nlogfile = sub/l\nlogfile = ./l\nlogfile =\nlogfile = ..\nlogfile = /srv/./hub/l\nlogfile = /srv//hub/l\nlogfile = /x/../srv/hub/l\nlogfile = //srv/hub/l\nlogfile = C:\\hub\\l\n")) ≡ two_profiles (codes "logfile in a root =\nlogfile in a root =\nlogfile in a root =\nlogfile in a root =\nlogfile in a root =\nlogfile in a root =\nlogfile in a root =\nlogfile in a root =\nlogfile in a root =\nlogfile in a root =\n")
unfolding computed
unknown_logs = refl

-- The root of a profile below counts, too, and `/` is over each place.
roots_below_count : counted_bundle (codes "%profile a\nlogfile = /srv/b/l\nroot = /srv/a\n%profile b\nroot = /srv/b/\n") ≡ codes "%profile a\nlogfile in a root =\nroot = /srv/a\n%profile b\nroot = /srv/b/\n"
unfolding computed
roots_below_count = refl

top_root : counted_bundle (codes "%profile a\nroot = /\nlogfile = /l\nlogfile = l\n") ≡ codes "%profile a\nroot = /\nlogfile in a root =\n#ogfile = l\n"
unfolding computed
top_root = refl

-- A folder for the copies is refused wherever it is: below a root of another host it has another name
-- here.
folders_for_copies_stay : counted_bundle (two_profiles (codes "backupdir = /srv/hub/b\nbackupdir = /srv\nbackupdir = /srv/hub2\nbackupdir = /x\n")) ≡ two_profiles (codes "backupdir = /srv/hub/b\nbackupdir = /srv\nbackupdir = /srv/hub2\nbackupdir = /x\n")
unfolding computed
folders_for_copies_stay = refl

-- No line of another section changes, nor one above all headings.
other_sections_stay : counted_bundle (codes "prefer = a\n%rules\nprefer = a\n%state\nlinks = false\n%profile\nlinks = false\n%certificates\nforce = newer") ≡ codes "prefer = a\n%rules\nprefer = a\n%state\nlinks = false\n%profile\nlinks = false\n%certificates\nforce = newer"
unfolding computed
other_sections_stay = refl

-- What is found in the bundle of one profile with these lines. The first of them has number 2.
abbrev found_in : List ℕ → List Finding
found_in lines = findings_of (codes "%profile p\n" ++ lines)

abbrev left_out : ℕ → Finding
left_out n = record { line = n; outcome = LeftOut }

abbrev refused : ℕ → Fault → Finding
refused n f = record { line = n; outcome = Refused f }

nothing_found : findings_of [] ≡ []
nothing_found = refl

-- Lines that count as they stand, also where a root is missing.
plain_lines : found_in (codes "root = /a\r\n# b\n\n times = true") ≡ []
unfolding computed
plain_lines = refl

-- All lines are found, in their order, and not the first alone.
all_are_found : found_in (codes "follow = Path a\nprefer = newer\npath = /b\nroot\n") ≡ refused 2 (fault.UnknownPreference (codes "follow")) ∷ left_out 3 ∷ refused 4 (fault.BadPath path.LeadingSlash) ∷ refused 5 fault.NoEquals ∷ []
unfolding computed
all_are_found = refl

-- In all profiles, and in no other section.
profiles_alone : findings_of (codes "follow = a\n%rules\nfollow = a\n%profile p\n%profile q\nfollow = a\n%state\nfollow = a\n") ≡ refused 6 (fault.UnknownPreference (codes "follow")) ∷ []
unfolding computed
profiles_alone = refl

-- A line that is left out is not refused, whatever the plain reader says of it.
left_out_alone : fault_alone (codes "prefer = newer") ≡ Some fault.LeftOutValue
unfolding computed
left_out_alone = refl

left_out_is_not_refused : found_in (codes "prefer = newer\n") ≡ left_out 2 ∷ []
unfolding computed
left_out_is_not_refused = refl

-- A second `force` line is not refused by itself, but the first one is left out then.
last_force_stays : found_in (codes "force = /a\nforce = b\n") ≡ left_out 2 ∷ refused 3 (fault.BadPath path.NotAbsolute) ∷ []
unfolding computed
last_force_stays = refl

-- Neither a third root nor a root that is neither of the two is found.
roots_together : found_in (codes "root = /a\nroot = /b\nroot = /c\nnodeletion = /d\n") ≡ []
unfolding computed
roots_together = refl

-- A line that isn't text.
not_text : found_in (255 ∷ []) ≡ refused 2 fault.NotUtf8 ∷ []
unfolding computed
not_text = refl

includes_are_refused : found_in (codes "include c\nsource c\n") ≡ refused 2 fault.IncludeLeftOut ∷ refused 3 fault.IncludeLeftOut ∷ []
unfolding computed
includes_are_refused = refl

-- A line is refused by what stands in its place.
other_spellings_are_read : found_in (codes "path = ./a\npath = a//b\npath = ./..\n") ≡ refused 4 (fault.BadPath path.DotName) ∷ []
unfolding computed
other_spellings_are_read = refl

-- A log in a root is refused by what stands in its place.
logs_are_found : found_in (codes "root = /srv/hub\nlogfile = /srv/hub/l\nlogfile = /srv/l\nbackupprefix = a/b\n") ≡ refused 3 (fault.UnknownPreference (codes "logfile in a root")) ∷ left_out 4 ∷ refused 5 (fault.UnknownPreference (codes "backupprefix")) ∷ []
unfolding computed
logs_are_found = refl

-- What Unison may do by a line, by the name of its preference.
backups_write_elsewhere : effect_named (codes "backup") ≡ Some WritesElsewhere
backups_write_elsewhere = refl

other_effects : (effect_named (codes "force") ≡ Some HoldsBack) × (effect_named (codes "height") ≡ Some NoInfluence) × (effect_named (codes "follow") ≡ Some AddsChanges) × (effect_named (codes "Backup") ≡ None)
other_effects = (refl, refl, refl, refl)
