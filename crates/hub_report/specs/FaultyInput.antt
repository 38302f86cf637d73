-- The text of the answer to an input that can't be read or isn't a bundle.
use Rattle.std.specs.Prelude.{ℕ, List, ◌++◌, Option, None, codes, encode_utf8_all}
use Rattle.std.specs.Fmt.{decimal}
use Rattle.hub_path.specs.Path.{Name}
use Rattle.hub_bundle.specs.Input.{unread_fault}
use Rattle.hub_bundle.specs.declared.input.InputFault.{InputFault}
use Rattle.hub_bundle.specs.declared.sections.SectionFault.{SectionFault}
use Rattle.hub_bundle.specs.declared.sections.SectionFault.TheVariants.{OfProfile, OfRules}
use Rattle.hub_bundle.specs.declared.sections.SectionFault.TheVariants.{OfState, OfCertificates}
use Rattle.hub_profile.specs.declared.fault.ProfileFault.{ProfileFault}
use Rattle.hub_report.specs.declared.faulty_input.FaultyInput.{FaultyInput}
use Rattle.hub_report.specs.declared.faulty_input.FaultyInput.TheVariants.{Unread, BadBundle}
use Rattle.hub_report.specs.declared.faulty_input.FaultyInput.TheVariants.{BadSection}
use Rattle.hub_report.specs.Faults.{bundle_fault_name, fault_line, input_fault_name}
use Rattle.hub_report.specs.Faults.{profile_fault_name, section_fault_name}

-- A line of the bundle or of a section, counted from the one below its heading.
abbrev pub line_place : List ℕ → ℕ → List ℕ
line_place part line = part ++ (codes " line " ++ decimal line)

abbrev pub profile_place : Name → ℕ → List ℕ
profile_place name line = line_place (codes "profile " ++ encode_utf8_all name) line

abbrev pub section_place : SectionFault → List ℕ
section_place (OfProfile name f) = profile_place name f.line
section_place (OfRules f) = line_place (codes "rules") f.line
section_place (OfState f) = line_place (codes "state") f.line
section_place (OfCertificates line) = line_place (codes "certificates") line

-- The line of a fault of a profile of that name, and of a fault of any section.
abbrev pub profile_fault_line : Name → ProfileFault → List ℕ
profile_fault_line name f = fault_line (profile_place name f.line) (profile_fault_name f.fault)

abbrev pub section_fault_line : SectionFault → List ℕ
section_fault_line f = fault_line (section_place f) (section_fault_name f)

-- The place of the fault of an input, and what the fault is called.
abbrev pub fault_place_in : FaultyInput → List ℕ
fault_place_in (Unread f) = codes "bundle line 0"
fault_place_in (BadBundle f) = line_place (codes "bundle") f.line
fault_place_in (BadSection f) = section_place f

abbrev pub fault_name_in : FaultyInput → List ℕ
fault_name_in (Unread f) = input_fault_name f
fault_name_in (BadBundle f) = bundle_fault_name f.fault
fault_name_in (BadSection f) = section_fault_name f

-- The text is the line of the fault.
abbrev pub text_of : FaultyInput → List ℕ
text_of a = fault_line (fault_place_in a) (fault_name_in a)

-- Why the input wasn't read to its end, if that is the fault: a read failed, or there were too
-- many.
abbrev pub unread_in : FaultyInput → Option InputFault
unread_in (Unread f) = unread_fault f
unread_in (BadBundle f) = None
unread_in (BadSection f) = None
