-- Worked values of the lines of faults.
use Rattle.std.specs.Prelude.{◌≡◌, codes, refl}
use Rattle.hub_path.specs.declared.fault.PathFault.TheVariants.{DotName, LeadingSlash}
use Rattle.hub_glob.specs.declared.fault.GlobFault.TheVariants.{BadRange}
use Rattle.hub_profile.specs.declared.fault.Fault.TheVariants.{BadPattern, UnknownPreference}
use Rattle.hub_profile.specs.declared.fault.Fault.TheVariants as profile
use Rattle.hub_state.specs.declared.fault.Fault.TheVariants.{NoParent}
use Rattle.hub_report.specs.declared.reach_answer.ReachAnswer.TheVariants.{BadPath}
use Rattle.hub_report.specs.declared.report.Report.TheVariants.{Reach}
use Rattle.hub_report.specs.Faults.{fault_line, profile_fault_name, state_fault_name}
use Rattle.hub_report.specs.Report.{text_of}
use lib.Utf8.{encode}

a_path_that_is_none : text_of (Reach (BadPath LeadingSlash)) ≡ codes "fault: path: LeadingSlash\n"
a_path_that_is_none = refl

a_preference_is_named_as_it_was_written :
    fault_line (codes "profile p line 3") (profile_fault_name (UnknownPreference (codes "sshargs")))
    ≡ codes "fault: profile p line 3: UnknownPreference sshargs\n"
unfolding encode
a_preference_is_named_as_it_was_written = refl

the_fault_of_a_path_follows_its_kind :
    fault_line (codes "profile p line 3") (profile_fault_name (profile.BadPath DotName))
    ≡ codes "fault: profile p line 3: BadPath DotName\n"
the_fault_of_a_path_follows_its_kind = refl

the_fault_of_a_pattern_follows_its_kind :
    fault_line (codes "profile p line 3") (profile_fault_name (BadPattern BadRange))
    ≡ codes "fault: profile p line 3: BadPattern BadRange\n"
the_fault_of_a_pattern_follows_its_kind = refl

the_fault_of_a_state_has_one_word :
    fault_line (codes "state line 3") (state_fault_name NoParent)
    ≡ codes "fault: state line 3: NoParent\n"
the_fault_of_a_state_has_one_word = refl
