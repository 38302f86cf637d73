-- What a cautious reading finds in the profiles of a bundle: lines that it leaves out, and lines that
-- the plain reader refuses.
use Rattle.std.specs.Prelude.{ℕ, ◌+◌, not, ◌&&◌, List, [], ◌∷◌, ◌++◌, Option, Some, None, Result, Ok, Err, if◌then◌else◌}
use Rattle.std.specs.Option.{option_map}
use Rattle.hub_text.specs.declared.line.Line.{Line}
use Rattle.hub_text.specs.Lines.{lines_of}
use Rattle.hub_bundle.specs.Files.{is_heading}
use Rattle.hub_profile.specs.Parts.{Parts}
use Rattle.hub_profile.specs.Reading.{profile_in}
use Rattle.hub_profile.specs.declared.fault.Fault.{Fault}
use Rattle.hub_profile.specs.declared.fault.Fault.TheVariants.{RootCount}
use Rattle.hub_profile.specs.declared.fault.ProfileFault.{ProfileFault}
use Rattle.hub_preferences.specs.Counted.{is_left_out, section_at, no_profile}
use Rattle.hub_path.specs.Path.{Path}
use Rattle.hub_preferences.specs.Places.{roots_in}
use Rattle.hub_preferences.specs.Spellings.{other_spelling, or_spelling}
use Rattle.hub_preferences.specs.declared.finding.Finding.{Finding}
use Rattle.hub_preferences.specs.declared.finding.Outcome.{Outcome}
use Rattle.hub_preferences.specs.declared.finding.Outcome.TheVariants.{LeftOut, Refused}
use Rattle.hub_preferences.specs.declared.section.Section.{Section}

-- A profile of one line never has two roots, which isn't the line's fault.
abbrev pub fault_but_roots : Fault → Option Fault
fault_but_roots RootCount = None
fault_but_roots f = Some f

abbrev pub fault_of_reading : Result Parts ProfileFault → Option Fault
fault_of_reading (Ok P) = None
fault_of_reading (Err e) = fault_but_roots e.fault

-- The fault for which the plain reader refuses a line by itself: that of the profile whose text is
-- this line alone. The profile's name doesn't matter.
abbrev pub fault_alone : List ℕ → Option Fault
fault_alone l = fault_of_reading (profile_in [] l)

-- What is refused of the lines that count: those of profiles, but for their headings, in the plain
-- reader's spelling.
abbrev pub refusal : List Path → Section → List ℕ → Option Outcome
refusal roots s l =
    if s.is_profile && not (is_heading l)
    then option_map Refused (fault_alone (or_spelling (other_spelling roots l) l))
    else None

-- What becomes of a line, if it neither counts as it stands nor is in another section.
abbrev pub outcome_of : List Path → Section → List ℕ → List (Line (List ℕ)) → Option Outcome
outcome_of roots s l below =
    if is_left_out roots s l below then Some LeftOut else refusal roots s l

-- What is found on the line of that number.
abbrev pub findings_on : ℕ → Option Outcome → List Finding
findings_on n None = []
findings_on n (Some o) = record { line = n; outcome = o } ∷ []

-- What is found on these lines, where the first one has that number, and is in a section or begins
-- one.
abbrev pub findings_from : List Path → Section → ℕ → List (Line (List ℕ)) → List Finding
findings_from roots s n [] = []
findings_from roots s n (l ∷ ls) =
    findings_on n (outcome_of roots (section_at roots s l.text ls) l.text ls)
    ++ findings_from roots (section_at roots s l.text ls) (n + 1) ls

-- The findings of a bundle, in the order of its lines. The first line has number 1.
abbrev pub findings_of : List ℕ → List Finding
findings_of bytes = findings_from (roots_in bytes) no_profile 1 (lines_of bytes)
