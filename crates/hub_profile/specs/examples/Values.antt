-- Worked examples.
use Rattle.std.specs.Prelude.{◌≡◌, ℕ, Bool, true, false, map, List, [], ◌∷◌, ◌++◌, Option, Some, None, Result, Ok, Err, codes, refl}
use Rattle.std.specs.Str.{is_utf8, chars}
use Rattle.hub_path.specs.Path.{Path, path_of}
use Rattle.hub_path.specs.declared.fault.PathFault.TheVariants as path
use Rattle.hub_glob.specs.declared.piece.Piece.TheVariants.{Lit, Run}
use Rattle.hub_glob.specs.declared.piece.Part.TheVariants.{One}
use Rattle.hub_glob.specs.declared.path_spec.Kind.TheVariants as kind
use Rattle.hub_glob.specs.declared.fault.GlobFault.{GlobFault}
use Rattle.hub_glob.specs.declared.fault.GlobFault.TheVariants as glob
use Rattle.hub_profile.specs.Facts.{are_roots, are_kept}
use Rattle.hub_profile.specs.Parts.{Parts, IsProfile}
use Rattle.hub_profile.specs.Lines.{trimmed_line}
use Rattle.hub_profile.specs.LineByLine.{lines_reading}
use Rattle.hub_profile.specs.Said.{Said, nothing_said}
use Rattle.hub_profile.specs.Protection.{no_bars}
use Rattle.hub_profile.specs.declared.bars.Bars.{Bars}
use Rattle.hub_profile.specs.Arrow.{has_arrow, spec_and_root}
use Rattle.hub_profile.specs.declared.partial.Partial.{Partial}
use Rattle.hub_path.specs.declared.side.Side.{Side}
use Rattle.hub_path.specs.declared.side.Side.TheVariants.{Left, Right}
use Rattle.hub_profile.specs.Reading.{with_preference, kept, or_whole, profile, profile_reading, profile_in}
use Rattle.hub_profile.specs.Rules.{rules_reading, rules_in}
use Rattle.hub_profile.specs.declared.rule.Rule.{Rule}
use Rattle.hub_profile.specs.declared.verb.Verb.{Verb}
use Rattle.hub_profile.specs.declared.verb.Verb.TheVariants.{Create, Update, Delete}
use Rattle.hub_glob.specs.Specification.{Specification}
use Rattle.hub_profile.specs.declared.fault.Fault.{Fault}
use Rattle.hub_profile.specs.declared.fault.Fault.TheVariants as fault
use Rattle.hub_profile.specs.declared.fault.ProfileFault.{ProfileFault}

abbrev fault_of : {T : Type 0} → Result T ProfileFault → Option ProfileFault
fault_of (Ok x) = None
fault_of (Err f) = Some f

-- The fault of a text.
abbrev faulty : List ℕ → Option ProfileFault
faulty t = fault_of (profile_reading [] t)

-- Two roots, and a third line.
abbrev third : List ℕ → Option ProfileFault
third t = faulty (codes "root = /srv/hub\nroot = /srv/s1\n" ++ t)

-- What the lines of a text say, whose roots may be missing.
abbrev said_or : Result Said ProfileFault → Said
said_or (Ok said) = said
said_or (Err f) = nothing_said

abbrev said_in : List ℕ → Said
said_in t = said_or (lines_reading with_preference nothing_said t)

-- The kept values of a profile.
abbrev kept_in : List ℕ → List Path
kept_in t = or_whole (kept (said_in t).paths)

abbrev at : ℕ → Fault → Option ProfileFault
at n f = Some (record { line = n; fault = f })

two_roots_are_enough : third [] ≡ None
two_roots_are_enough = refl

a_path_is_read : third (codes "path = a\n") ≡ None
a_path_is_read = refl

an_include_is_left_out : third (codes "include common") ≡ at 3 fault.IncludeLeftOut
an_include_is_left_out = refl

an_include_may_be_alone : third (codes "source?") ≡ at 3 fault.IncludeLeftOut
an_include_may_be_alone = refl

-- it stands before the fault that there is no `=`, and before that of the name
an_include_may_have_an_equals_later : third (codes "include a = b") ≡ at 3 fault.IncludeLeftOut
an_include_may_have_an_equals_later = refl

a_setting_may_be_named_include : third (codes "include = b")
    ≡ at 3 (fault.UnknownPreference (codes "include"))
a_setting_may_be_named_include = refl

the_first_word_ends_at_a_blank : third (codes "include=x")
    ≡ at 3 (fault.UnknownPreference (codes "include"))
the_first_word_ends_at_a_blank = refl

an_unknown_preference_is_named : third (codes "sshargs = -C")
    ≡ at 3 (fault.UnknownPreference (codes "sshargs"))
an_unknown_preference_is_named = refl

a_name_may_be_empty : third (codes "= a") ≡ at 3 (fault.UnknownPreference [])
a_name_may_be_empty = refl

a_line_has_an_equals : third (codes "path a") ≡ at 3 fault.NoEquals
a_line_has_an_equals = refl

a_path_begins_without_a_slash : third (codes "path = /a") ≡ at 3 (fault.BadPath path.LeadingSlash)
a_path_begins_without_a_slash = refl

-- the slash at the start is tested before the one at the end is dropped
a_slash_alone_is_no_path : third (codes "path = /") ≡ at 3 (fault.BadPath path.LeadingSlash)
a_slash_alone_is_no_path = refl

one_slash_at_the_end_is_dropped : third (codes "path = a//") ≡ at 3 (fault.BadPath path.EmptyName)
one_slash_at_the_end_is_dropped = refl

a_third_root_is_too_many : third (codes "root = /srv/s2") ≡ at 0 fault.RootCount
a_third_root_is_too_many = refl

-- a line's fault comes before one of the whole
a_later_line_comes_before_the_whole : faulty (codes "root = /srv\npath = a\npath = ..")
    ≡ at 3 (fault.BadPath path.DotName)
a_later_line_comes_before_the_whole = refl

the_lowest_line_is_told : faulty (codes "# p\n\nx\npath = /a") ≡ at 3 fault.NoEquals
the_lowest_line_is_told = refl

a_root_is_on_this_machine : faulty (codes "root = ssh://h/d") ≡ at 1 (fault.BadPath path.RemoteRoot)
a_root_is_on_this_machine = refl

no_text_has_no_roots : faulty [] ≡ at 0 fault.RootCount
no_text_has_no_roots = refl

the_roots_differ : faulty (codes "root = /srv\nroot = /srv/") ≡ at 0 fault.SameRoots
the_roots_differ = refl

no_root_is_within_the_other : faulty (codes "root = /srv/hub\nroot = /srv") ≡ at 0 fault.RootsNested
no_root_is_within_the_other = refl

-- LF, then one CR at the very end, then spaces and tabs
a_cr_goes_before_the_blanks : map trimmed_line
    (codes "x \r" ∷ codes "x\r " ∷ codes "x\r\r" ∷ codes " \r " ∷ [])
    ≡ codes "x" ∷ codes "x\r" ∷ codes "x\r" ∷ codes "\r" ∷ []
a_cr_goes_before_the_blanks = refl

a_cr_makes_no_blank_line : faulty (codes " \r ") ≡ at 1 fault.NoEquals
a_cr_makes_no_blank_line = refl

a_cr_is_a_character_of_a_value : third (codes "path = a\rb")
    ≡ at 3 (fault.BadPath path.BadCharacter)
a_cr_is_a_character_of_a_value = refl

-- a byte order mark is a character like others
a_mark_belongs_to_the_name : faulty (65279 ∷ codes "root = /a")
    ≡ at 1 (fault.UnknownPreference (65279 ∷ codes "root"))
a_mark_belongs_to_the_name = refl

-- An equal value and one below another add nothing, before and after it.
values_below_add_nothing : kept_in (codes "path = a/b\npath = c/\npath = a\npath = c")
    ≡ path_of (codes "c") ∷ path_of (codes "a") ∷ []
values_below_add_nothing = refl

no_value_is_the_whole_replica : kept_in (codes "root = /a") ≡ [] ∷ []
no_value_is_the_whole_replica = refl

an_empty_value_is_the_whole_replica : kept_in (codes "path = a\npath =") ≡ [] ∷ []
an_empty_value_is_the_whole_replica = refl

abbrev eight_times : List ℕ → List ℕ
eight_times t = t ++ t ++ t ++ t ++ t ++ t ++ t ++ t

-- 64 lines may be there, also lines that add nothing
many_lines_are_read : third (eight_times (eight_times (codes "path=a\n"))) ≡ None
many_lines_are_read = refl

-- the 65th is too many, whatever its value
one_more_line_is_too_many : third (eight_times (eight_times (codes "path=a\n"))
    ++ codes "path = /a") ≡ at 67 fault.TooMany
one_more_line_is_too_many = refl

abbrev bad_pattern : GlobFault → Option ProfileFault
bad_pattern e = at 3 (fault.BadPattern e)

-- The value of a pattern line is a path specification.
patterns_are_faulty : map (λ v. third (codes "ignore = " ++ v))
    (codes "Foo x" ∷ codes "Regex x" ∷ codes "Name" ∷ codes "Name [ab" ∷ codes "Name {a,{b}}"
    ∷ codes "Name a/b" ∷ codes "Path /a" ∷ codes "" ∷ codes "Name a]" ∷ [])
    ≡ bad_pattern glob.NoKind ∷ bad_pattern glob.RegexLeftOut ∷ bad_pattern glob.EmptyPattern
    ∷ bad_pattern glob.OpenBracket ∷ bad_pattern glob.NestedBraces
    ∷ bad_pattern glob.SlashInName ∷ bad_pattern glob.LeadingSlash ∷ bad_pattern glob.NoKind
    ∷ None ∷ []
patterns_are_faulty = refl

an_exception_is_a_pattern_too : third (codes "ignorenot = Name \\a") ≡ bad_pattern glob.BadEscape
an_exception_is_a_pattern_too = refl

ignored_is_no_preference : third (codes "ignored = Name a")
    ≡ at 3 (fault.UnknownPreference (codes "ignored"))
ignored_is_no_preference = refl

abbrev pattern_lines : List ℕ
pattern_lines = codes "ignore=Name a\nignorenot=Name a\n"

-- 64 lines of both kinds together may be there
many_patterns_are_read : third (eight_times
    (pattern_lines ++ pattern_lines ++ pattern_lines ++ pattern_lines)) ≡ None
many_patterns_are_read = refl

-- the 65th is too many, of either kind and whatever its value
one_more_pattern_is_too_many : map (λ t. third
    (eight_times (pattern_lines ++ pattern_lines ++ pattern_lines ++ pattern_lines) ++ t))
    (codes "ignore = Foo" ∷ codes "ignorenot = Name a" ∷ codes "path = a" ∷ [])
    ≡ at 67 fault.TooMany ∷ at 67 fault.TooMany ∷ None ∷ []
one_more_pattern_is_too_many = refl

abbrev four_patterns : Parts
four_patterns =
    profile []
    (said_in (codes "ignore = Name *~\nignorenot=Path b/\nignore = BelowPath a\nignore = Name *~"))

-- Specifications stand in the order of their lines, also those that add nothing.
patterns_are_kept_in_order : four_patterns.ignore ∷ four_patterns.ignorenot ∷ []
    ≡ (record { kind = kind.Name; pattern = One Run ∷ One (Lit 126) ∷ [] }
    ∷ record { kind = kind.BelowPath; pattern = One (Lit 97) ∷ [] }
    ∷ record { kind = kind.Name; pattern = One Run ∷ One (Lit 126) ∷ [] } ∷ [])
    ∷ (record { kind = kind.Path; pattern = One (Lit 98) ∷ One (Lit 47) ∷ [] } ∷ []) ∷ []
patterns_are_kept_in_order = refl

-- Values of `force` and `prefer` that are left out, also in place of a root.
left_out_values_are_told : map third (codes "force = newer" ∷ codes "force = older"
    ∷ codes "prefer = newer" ∷ codes "prefer=older" ∷ codes "force = newest"
    ∷ codes "nodeletion = newer" ∷ [])
    ≡ at 3 fault.LeftOutValue ∷ at 3 fault.LeftOutValue ∷ at 3 fault.LeftOutValue
    ∷ at 3 fault.LeftOutValue ∷ at 3 (fault.BadPath path.NotAbsolute)
    ∷ at 3 (fault.BadPath path.NotAbsolute) ∷ []
left_out_values_are_told = refl

-- The value is a root: it is read as on a `root` line.
protected_roots_are_read : map third (codes "force =" ∷ codes "prefer = ssh://h/d"
    ∷ codes "nocreation = srv" ∷ codes "noupdate = /srv//hub" ∷ codes "nodeletion = /srv/hub/" ∷ [])
    ≡ at 3 (fault.BadPath path.Empty) ∷ at 3 (fault.BadPath path.RemoteRoot)
    ∷ at 3 (fault.BadPath path.NotAbsolute) ∷ at 3 (fault.BadPath path.EmptyName) ∷ None ∷ []
protected_roots_are_read = refl

-- A second line is reported whatever its value; `force` and `prefer` are counted apart, and a bar
-- may be repeated.
second_lines_are_told : map (λ v. third (codes "force = /srv/hub\n" ++ v))
    (codes "force = newer" ∷ codes "force = x" ∷ codes "prefer = /srv/hub\nprefer = /srv/hub"
    ∷ codes "prefer = /srv/hub" ∷ codes "noupdate = /srv/hub\nnoupdate = /srv/hub" ∷ [])
    ≡ at 4 fault.Repeated ∷ at 4 fault.Repeated ∷ at 5 fault.Repeated ∷ None ∷ None ∷ []
second_lines_are_told = refl

-- A root that is protected is one of the two: the parent of one is not.
other_roots_are_told : map third (codes "force = /srv/s2" ∷ codes "prefer = /srv"
    ∷ codes "noupdate = /srv/hub/a" ∷ codes "nocreation = /srv/hub2"
    ∷ codes "path = a\nnodeletion = /srv/s3\nforce = /srv/s2" ∷ [])
    ≡ at 3 fault.NotARoot ∷ at 3 fault.NotARoot ∷ at 3 fault.NotARoot ∷ at 3 fault.NotARoot
    ∷ at 4 fault.NotARoot ∷ []
other_roots_are_told = refl

-- It is reported after the faults of lines and of the two roots.
other_roots_come_last : map faulty (codes "force = /srv/s2\nroot = /srv/hub"
    ∷ codes "force = /b\nroot = /a\nroot = /a" ∷ codes "force = /b\nroot = /a\nroot = /a/c"
    ∷ codes "force = /b\nroot = /a\nroot = /c\npath = /" ∷ codes "force = /b\nroot = /a\nroot = /b"
    ∷ [])
    ≡ at 0 fault.RootCount ∷ at 0 fault.SameRoots ∷ at 0 fault.RootsNested
    ∷ at 4 (fault.BadPath path.LeadingSlash) ∷ None ∷ []
other_roots_come_last = refl

-- Names without effect take each value.
names_are_accepted : map (λ n. third (n ++ codes " = = x\n" ++ n ++ codes " ="))
    (codes "auto" ∷ codes "batch" ∷ codes "confirmbigdel" ∷ codes "contactquietly"
    ∷ codes "fastcheck" ∷ codes "group" ∷ codes "key" ∷ codes "label" ∷ codes "log"
    ∷ codes "logfile" ∷ codes "owner" ∷ codes "perms" ∷ codes "silent" ∷ codes "terse"
    ∷ codes "times" ∷ [])
    ≡ None ∷ None ∷ None ∷ None ∷ None ∷ None ∷ None ∷ None ∷ None ∷ None ∷ None ∷ None ∷ None
    ∷ None ∷ None ∷ []
names_are_accepted = refl

names_need_an_equals : map third (codes "batch" ∷ codes "times true" ∷ codes "Batch = x" ∷ [])
    ≡ at 3 fault.NoEquals ∷ at 3 fault.NoEquals ∷ at 3 (fault.UnknownPreference (codes "Batch"))
    ∷ []
names_need_an_equals = refl

-- Other names of Unison's are left out.
names_are_unknown : map (λ n. third (n ++ codes " = x"))
    (codes "newer" ∷ codes "older" ∷ codes "merge" ∷ codes "backup" ∷ codes "follow"
    ∷ codes "mountpoint" ∷ codes "ignorecase" ∷ codes "forcepartial" ∷ codes "preferpartial" ∷ [])
    ≡ map (λ n. at 3 (fault.UnknownPreference n))
    (codes "newer" ∷ codes "older" ∷ codes "merge" ∷ codes "backup" ∷ codes "follow"
    ∷ codes "mountpoint" ∷ codes "ignorecase" ∷ codes "forcepartial" ∷ codes "preferpartial"
    ∷ [])
names_are_unknown = refl

-- A profile with two roots and these lines.
abbrev with_roots : List ℕ → Parts
with_roots t = profile [] (said_in (codes "root = /srv/hub\nroot = /srv/s1\n" ++ t))

sides_are_read : map (λ t. (with_roots t).force ∷ (with_roots t).prefer ∷ [])
    (codes "" ∷ codes "force = /srv/hub" ∷ codes "force = /srv/s1/" ∷ codes "prefer = /srv/s1"
    ∷ codes "prefer = /srv/hub\nforce = /srv/s1" ∷ codes "noupdate = /srv/hub" ∷ [])
    ≡ (None ∷ None ∷ []) ∷ (Some Left ∷ None ∷ []) ∷ (Some Right ∷ None ∷ [])
    ∷ (None ∷ Some Right ∷ []) ∷ (Some Right ∷ Some Left ∷ []) ∷ (None ∷ None ∷ []) ∷ []
sides_are_read = refl

abbrev bars : (create update delete : Bool) → Bars
bars create update delete = record { create = create; update = update; delete = delete }

-- `noupdate` forbids deletions too; `force` and `prefer` are no bars.
bars_are_read : map (λ t. (with_roots t).bars)
    (codes "nodeletion = /srv/hub" ∷ codes "noupdate = /srv/s1" ∷ codes "nocreation = /srv/hub/"
    ∷ codes "noupdate = /srv/s1\nnocreation = /srv/s1"
    ∷ codes "nodeletion = /srv/s1\nnodeletion = /srv/hub\nnodeletion = /srv/s1"
    ∷ codes "force = /srv/hub\nprefer = /srv/s1" ∷ [])
    ≡ (bars false false true ∷ no_bars ∷ []) ∷ (no_bars ∷ bars false true true ∷ [])
    ∷ (bars true false false ∷ no_bars ∷ []) ∷ (no_bars ∷ bars true true true ∷ [])
    ∷ (bars false false true ∷ bars false false true ∷ []) ∷ (no_bars ∷ no_bars ∷ []) ∷ []
bars_are_read = refl

-- A value is cut at its last arrow, and the blanks around both parts are dropped.
cuts_are_read : map spec_and_root (codes "Path a->/srv/hub" ∷ codes "Path a -> b -> /srv/hub"
    ∷ codes " -> /srv/hub" ∷ codes "Path a ->" ∷ codes "->" ∷ codes "a -->\t/b" ∷ codes "a ->> /b"
    ∷ codes "->->" ∷ [])
    ≡ (codes "Path a", codes "/srv/hub") ∷ (codes "Path a -> b", codes "/srv/hub")
    ∷ (codes "", codes "/srv/hub") ∷ (codes "Path a", codes "") ∷ (codes "", codes "")
    ∷ (codes "a -", codes "/b") ∷ (codes "a", codes "> /b") ∷ (codes "->", codes "") ∷ []
cuts_are_read = refl

arrows_are_found : map has_arrow (codes "Path a->/srv/hub" ∷ codes "->" ∷ codes "" ∷ codes "-"
    ∷ codes ">" ∷ codes "a - > /b" ∷ codes "a >- /b" ∷ codes "a => /b" ∷ [])
    ≡ true ∷ true ∷ false ∷ false ∷ false ∷ false ∷ false ∷ false ∷ []
arrows_are_found = refl

-- Of one line the arrow is missed first, then the specification is at fault, then the root.
partial_values_are_faulty : map (λ v. third (codes "noupdatepartial = " ++ v))
    (codes "Path a" ∷ codes "" ∷ codes "Foo a" ∷ codes "-> /srv/hub" ∷ codes "Foo -> srv"
    ∷ codes "Path /a -> srv" ∷ codes "Path a ->" ∷ codes "Path a -> srv"
    ∷ codes "Path a -> ssh://h/d" ∷ codes "Path a -> newer" ∷ codes "Path a->/srv/hub"
    ∷ codes "Path a -> b -> /srv/hub/" ∷ [])
    ≡ at 3 fault.NoArrow ∷ at 3 fault.NoArrow ∷ at 3 fault.NoArrow ∷ bad_pattern glob.NoKind
    ∷ bad_pattern glob.NoKind ∷ bad_pattern glob.LeadingSlash ∷ at 3 (fault.BadPath path.Empty)
    ∷ at 3 (fault.BadPath path.NotAbsolute) ∷ at 3 (fault.BadPath path.RemoteRoot)
    ∷ at 3 (fault.BadPath path.NotAbsolute) ∷ None ∷ None ∷ []
partial_values_are_faulty = refl

abbrev partial_lines : List ℕ
partial_lines =
    codes "nodeletionpartial=Name a->/srv/s1\nnoupdatepartial=Name a->/srv/s1\n"
    ++ codes "nocreationpartial=Name a->/srv/s1\nnoupdatepartial=Name a->/srv/hub\n"

-- 64 lines of the three kinds together may be there
many_partials_are_read : third (eight_times (partial_lines ++ partial_lines)) ≡ None
many_partials_are_read = refl

-- the 65th is too many, of each kind and whatever its value; lines of other kinds are not counted
one_more_partial_is_too_many : map (λ t. third (eight_times (partial_lines ++ partial_lines) ++ t))
    (codes "nodeletionpartial = Foo" ∷ codes "noupdatepartial = Name a -> /srv/hub"
    ∷ codes "nocreationpartial =" ∷ codes "nocreation = /srv/hub\nignore = Name a\npath = a" ∷ [])
    ≡ at 67 fault.TooMany ∷ at 67 fault.TooMany ∷ at 67 fault.TooMany ∷ None ∷ []
one_more_partial_is_too_many = refl

-- The lowest line that names another root is reported, of either kind.
other_partial_roots_are_told : map third
    (codes "noupdatepartial = Path a -> /srv/s3" ∷ codes "noupdatepartial = Path a -> /srv"
    ∷ codes "nocreation = /srv/hub\nnodeletionpartial = Path a -> /srv/s3\nforce = /srv/s3"
    ∷ codes "noupdate = /srv/s3\nnodeletionpartial = Path a -> /srv/s3"
    ∷ codes "nodeletionpartial = Path a -> /srv/hub\nnodeletionpartial = Path a -> /srv/s3" ∷ [])
    ≡ at 3 fault.NotARoot ∷ at 3 fault.NotARoot ∷ at 4 fault.NotARoot ∷ at 3 fault.NotARoot
    ∷ at 4 fault.NotARoot ∷ []
other_partial_roots_are_told = refl

other_partial_roots_come_last : map faulty
    (codes "noupdatepartial = Path a -> /b\nroot = /a"
    ∷ codes "noupdatepartial = Path a -> /b\nroot = /a\nroot = /a"
    ∷ codes "noupdatepartial = Path a -> /b\nroot = /a\nroot = /a/c"
    ∷ codes "noupdatepartial = Path a -> /b\nroot = /a\nroot = /c\npath = /"
    ∷ codes "noupdatepartial = Path a -> /b\nroot = /a\nroot = /b" ∷ [])
    ≡ at 0 fault.RootCount ∷ at 0 fault.SameRoots ∷ at 0 fault.RootsNested
    ∷ at 4 (fault.BadPath path.LeadingSlash) ∷ None ∷ []
other_partial_roots_come_last = refl

abbrev below_a : Specification
below_a = record { kind = kind.BelowPath; pattern = One (Lit 97) ∷ [] }

abbrev partial_bar : Side → Bars → Partial
partial_bar side b = record { side = side; bars = b; spec = below_a }

-- Bars on paths stand in the order of their lines, also those that add nothing, and are none of the
-- bars on a root.
partials_are_read :
    (with_roots
    (codes "nocreationpartial = BelowPath a -> /srv/s1/\n"
    ++ codes "nodeletionpartial = BelowPath a -> /srv/hub\n"
    ++ codes "noupdatepartial = BelowPath a->/srv/s1\n"
    ++ codes "nodeletionpartial = BelowPath a -> /srv/hub")).partial
    ≡ partial_bar Right (bars true false false) ∷ partial_bar Left (bars false false true)
    ∷ partial_bar Right (bars false true true) ∷ partial_bar Left (bars false false true) ∷ []
partials_are_read = refl

partials_bar_no_root :
    (with_roots
    (codes
    "noupdatepartial = BelowPath a -> /srv/hub\nnocreationpartial = BelowPath a -> /srv/s1")).bars
    ≡ no_bars ∷ no_bars ∷ []
partials_bar_no_root = refl

roots_apart : map are_roots ((path_of (codes "srv/hub") ∷ path_of (codes "srv/s1") ∷ [])
    ∷ (path_of (codes "srv") ∷ path_of (codes "srv/hub") ∷ [])
    ∷ (path_of (codes "srv") ∷ path_of (codes "srv") ∷ []) ∷ []) ≡ true ∷ false ∷ false ∷ []
roots_apart = refl

values_apart : map are_kept (([] ∷ []) ∷ (path_of (codes "a") ∷ path_of (codes "b") ∷ [])
    ∷ (path_of (codes "a/b") ∷ path_of (codes "a") ∷ []) ∷ [] ∷ [])
    ≡ true ∷ true ∷ false ∷ false ∷ []
values_apart = refl

abbrev two_values : Parts
two_values =
    profile (codes "p") (said_in (codes "root = /srv/hub\nroot = /srv/s1\npath = a\npath = b/c"))

two_values_read : profile_reading (codes "p")
    (codes "\troot=/srv/hub \r\nroot = /srv/s1/\n#path = x\n\npath = a\npath = b/c/\n")
    ≡ Ok (record {
      name = codes "p";
      roots =
          path_of (codes "srv/hub") ∷ path_of (codes "srv/s1") ∷ [];
      paths =
          path_of (codes "a") ∷ path_of (codes "b/c") ∷ [];
      ignore = [];
      ignorenot = [];
      force =
          None;
      prefer = None;
      bars = no_bars ∷ no_bars ∷ [];
      partial = [];
    })
two_values_read = refl

two_values_hold : IsProfile two_values
two_values_hold = record { roots = refl; paths = refl }

bytes_are_text : profile_in (codes "p") (255 ∷ [])
    ≡ Err (record { line = 0; fault = fault.NotUtf8 })
unfolding is_utf8 chars
bytes_are_text = refl

-- Blank lines and comments are no rules.
no_rules : rules_in (codes " \t\n# root = /a\n\r\n") ≡ Ok []
unfolding is_utf8 chars lib.Utf8.encode
no_rules = refl

-- The fault of a rules text.
abbrev rules_fault : List ℕ → Option ProfileFault
rules_fault t = fault_of (rules_reading t)

abbrev rule : List ℕ → Verb → Specification → Rule
rule root verb spec = record { root = path_of root; verb = verb; spec = spec }

-- A rule is for the last root above it, and has one kind of change; rules stand in the order of
-- their lines.
rules_are_numbered : rules_reading
    (codes "root = /srv/hub\nnolose = BelowPath a\n\nnochange=BelowPath a\n"
    ++ codes "root = /srv/s1/\n# root = /x\nnonew = BelowPath a\nnolose = BelowPath a")
    ≡ Ok (rule (codes "srv/hub") Delete below_a ∷ rule (codes "srv/hub") Update below_a
    ∷ rule (codes "srv/s1") Create below_a ∷ rule (codes "srv/s1") Delete below_a ∷ [])
rules_are_numbered = refl

-- A root without rules is read, and says nothing.
roots_are_no_rules : rules_reading (codes "root = /a\nroot = /b\nroot = /a") ≡ Ok []
roots_are_no_rules = refl

rules_are_faulty : map rules_fault (codes "nolose = BelowPath a\nroot = /a" ∷ codes "nonew = Foo"
    ∷ codes "root = /a\nnonew = Foo" ∷ codes "root = /a\nnochange = Path /b" ∷ codes "root = a"
    ∷ codes "root = newer" ∷ codes "root" ∷ codes "include x" ∷ [])
    ≡ at 1 fault.RuleBeforeRoot ∷ at 1 fault.RuleBeforeRoot ∷ at 2 (fault.BadPattern glob.NoKind)
    ∷ at 2 (fault.BadPattern glob.LeadingSlash) ∷ at 1 (fault.BadPath path.NotAbsolute)
    ∷ at 1 (fault.BadPath path.NotAbsolute) ∷ at 1 fault.NoEquals ∷ at 1 fault.IncludeLeftOut
    ∷ []
rules_are_faulty = refl

-- The preferences of a profile are no names of rules, nor the other way round.
rules_have_names_of_their_own : map (λ n. rules_fault (n ++ codes " = /a"))
    (codes "path" ∷ codes "ignore" ∷ codes "force" ∷ codes "nodeletion" ∷ codes "batch" ∷ codes ""
    ∷ [])
    ≡ map (λ n. at 1 (fault.UnknownPreference n))
    (codes "path" ∷ codes "ignore" ∷ codes "force" ∷ codes "nodeletion" ∷ codes "batch"
    ∷ codes "" ∷ [])
rules_have_names_of_their_own = refl

profiles_have_no_rules : map (λ n. third (n ++ codes " = Name a"))
    (codes "nolose" ∷ codes "nochange" ∷ codes "nonew" ∷ [])
    ≡ map (λ n. at 3 (fault.UnknownPreference n))
    (codes "nolose" ∷ codes "nochange" ∷ codes "nonew" ∷ [])
profiles_have_no_rules = refl

-- 64 rules may be there; the 65th is too many, whatever its value. `root` lines are not counted.
rules_are_counted : map (λ t. rules_fault
    (codes "root = /a\n" ++ eight_times (eight_times (codes "nonew=Name a\n")) ++ t))
    (codes "" ∷ codes "root = /b" ∷ codes "nolose = Foo" ∷ codes "root = b" ∷ [])
    ≡ None ∷ None ∷ at 66 fault.TooMany ∷ at 66 (fault.BadPath path.NotAbsolute) ∷ []
rules_are_counted = refl

rules_are_text : rules_in (codes "root = /a" ++ 255 ∷ [])
    ≡ Err (record { line = 0; fault = fault.NotUtf8 })
unfolding is_utf8 chars lib.Utf8.encode
rules_are_text = refl
