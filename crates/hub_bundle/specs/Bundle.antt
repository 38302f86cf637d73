-- Which bytes are bundles, what their sections are, and the first fault of all others.
use Rattle.std.specs.Prelude.{ℕ, ◌+◌, Bool, true, false, ◌||◌, ◌==◌, nat_eq, List, [], ◌∷◌, ◌++◌, drop, length, Option, Some, None, Result, Ok, Err, if◌then◌else◌, codes, bytes_eq}
use Rattle.std.specs.List.{list_any, list_all, starts_with}
use Rattle.std.specs.Str.{is_utf8, chars}
use Rattle.hub_text.specs.declared.line.Line.{Line}
use Rattle.hub_text.specs.Lines.{lines_of, line_text, without_last_cr}
use Rattle.hub_path.specs.Path.{Name}
use Rattle.hub_path.specs.Reading.{name_reading}
use Rattle.hub_path.specs.declared.fault.PathFault.{PathFault}
use Rattle.hub_bundle.specs.declared.bundle.Heading.{Heading}
use Rattle.hub_bundle.specs.declared.bundle.Heading.TheVariants.{Profile, Rules, State, Certificates}
use Rattle.hub_bundle.specs.declared.bundle.BundleFault.{BundleFault}
use Rattle.hub_bundle.specs.declared.bundle.BundleFault.TheVariants.{NoSection, UnknownSection, BadName, SectionTwice, OutOfMemory}
use Rattle.hub_bundle.specs.declared.bundle.BundleLineFault.{BundleLineFault}
use Rattle.hub_bundle.specs.Files.{is_heading}

-- A section as contracts see it: what its heading says, and the bytes below it.
pub record SectionValue : Type 0 where
  pub heading : Heading
  pub bytes : List ℕ

-- What follows a section: nothing, or a heading.
abbrev pub follows_section : List ℕ → Bool
follows_section [] = true
follows_section (b ∷ bs) = b == 37

-- The bytes of these lines up to the next heading.
abbrev pub bytes_before_heading : List (Line (List ℕ)) → List ℕ
bytes_before_heading [] = []
bytes_before_heading (l ∷ ls) =
    if is_heading l.text then [] else line_text l ++ bytes_before_heading ls

-- A section as it is written: the number of its heading's line, the heading, and the bytes below
-- it.
pub record Written : Type 0 where
  pub line : ℕ
  pub heading : List ℕ
  pub bytes : List ℕ

-- The sections of these lines, the first of which has the number n.
abbrev pub written : ℕ → List (Line (List ℕ)) → List Written
written n [] = []
written n (l ∷ ls) =
    if is_heading l.text
    then record { line = n; heading = without_last_cr l.text; bytes = bytes_before_heading ls }
    ∷ written (n + 1) ls
    else written (n + 1) ls

-- A blank line has nothing but spaces, tabs and CR.
abbrev pub is_ignorable : ℕ → Bool
is_ignorable b = b == 32 || b == 9 || b == 13

-- The first line before all headings that isn't blank.
abbrev pub stray_line : ℕ → List (Line (List ℕ)) → Option ℕ
stray_line n [] = None
stray_line n (l ∷ ls) =
    if is_heading l.text then None else (if list_all is_ignorable l.text then stray_line (n + 1) ls
    else Some n)

-- A profile's heading is this word, one space, and the profile's name up to the end of the line.
abbrev pub profile_word : List ℕ
profile_word = codes "%profile "

abbrev pub profile_or_fault : Result Name PathFault → Result Heading BundleFault
profile_or_fault (Ok n) = Ok (Profile n)
profile_or_fault (Err e) = Err BadName

abbrev pub profile_heading_reading : List ℕ → Result Heading BundleFault
profile_heading_reading bytes =
    if is_utf8 bytes then profile_or_fault (name_reading (chars bytes)) else Err BadName

-- The other kinds of sections have a heading without a name.
abbrev pub heading_once : List ℕ → Option Heading
heading_once l =
    if bytes_eq l (codes "%rules") then Some Rules
    else (if bytes_eq l (codes "%state") then Some State
    else (if bytes_eq l (codes "%certificates") then Some Certificates else None))

abbrev pub known_or_fault : Option Heading → Result Heading BundleFault
known_or_fault (Some h) = Ok h
known_or_fault None = Err UnknownSection

-- What a heading says by itself.
abbrev pub heading_reading : List ℕ → Result Heading BundleFault
heading_reading l =
    if starts_with nat_eq l profile_word then profile_heading_reading (drop (length profile_word) l)
    else known_or_fault (heading_once l)

abbrev pub is_rules : Heading → Bool
is_rules (Profile n) = false
is_rules Rules = true
is_rules State = false
is_rules Certificates = false

abbrev pub is_state : Heading → Bool
is_state (Profile n) = false
is_state Rules = false
is_state State = true
is_state Certificates = false

abbrev pub is_certificates : Heading → Bool
is_certificates (Profile n) = false
is_certificates Rules = false
is_certificates State = false
is_certificates Certificates = true

-- Profiles may be many; another kind of section is repeated if there is one above.
abbrev pub is_repeated : List SectionValue → Heading → Bool
is_repeated above (Profile n) = false
is_repeated above Rules = list_any (λ s. is_rules s.heading) above
is_repeated above State = list_any (λ s. is_state s.heading) above
is_repeated above Certificates = list_any (λ s. is_certificates s.heading) above

-- What a heading says below these sections.
abbrev pub heading_below : List SectionValue → Result Heading BundleFault
    → Result Heading BundleFault
heading_below above (Ok h) = if is_repeated above h then Err SectionTwice else Ok h
heading_below above (Err f) = Err f

-- What follows a heading: its section and those below it, or its fault.
abbrev pub after_heading : Written → Result Heading BundleFault
    → (SectionValue → Result (List SectionValue) BundleLineFault)
    → Result (List SectionValue) BundleLineFault
after_heading w (Ok h) later = later (record { heading = h; bytes = w.bytes })
after_heading w (Err f) later = Err (record { line = w.line; fault = f })

-- These sections and then those that are written, or the fault of the first heading that has one.
abbrev pub sections_reading : List SectionValue → List Written
    → Result (List SectionValue) BundleLineFault
sections_reading above [] = Ok above
sections_reading above (w ∷ ws) =
    after_heading w (heading_below above (heading_reading w.heading))
    (λ s. sections_reading (above ++ s ∷ []) ws)

abbrev pub unless_stray : Option ℕ → Result (List SectionValue) BundleLineFault
    → Result (List SectionValue) BundleLineFault
unless_stray None later = later
unless_stray (Some n) later = Err (record { line = n; fault = NoSection })

-- What a bundle says, or its first fault: a line above all sections, then the headings from the
-- first.
abbrev pub bundle_reading : List ℕ → Result (List SectionValue) BundleLineFault
bundle_reading bytes =
    unless_stray (stray_line 1 (lines_of bytes)) (sections_reading [] (written 1 (lines_of bytes)))

-- Out of memory has line 0.
abbrev pub out_of_memory : BundleLineFault
out_of_memory = record { line = 0; fault = OutOfMemory }
