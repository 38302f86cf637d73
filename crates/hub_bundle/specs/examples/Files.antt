-- Worked values of the bundle that is made of files.
use Rattle.std.specs.Prelude.{◌≡◌, codes, refl, Some, None}
use Rattle.hub_text.specs.Lines.{lines_of}
use Rattle.hub_bundle.specs.Files.{heading_line, heading_name, line_end, profile_name}
use Rattle.hub_bundle.specs.declared.part.Kind.TheVariants.{Profile, Rules}

a_profile_is_named_by_its_file : profile_name (codes "/home/anna/.unison/docs.prf") ≡ codes "docs"
a_profile_is_named_by_its_file = refl

a_file_of_this_folder : profile_name (codes "docs.prf") ≡ codes "docs"
a_file_of_this_folder = refl

only_the_last_ending_goes : profile_name (codes "a.prf/docs.prf.prf") ≡ codes "docs.prf"
only_the_last_ending_goes = refl

a_file_without_the_ending : profile_name (codes "b/docs") ≡ codes "docs"
a_file_without_the_ending = refl

a_profile_of_a_machine : heading_name Profile (Some (codes "pc")) (codes "/hosts/pc/docs.prf")
    ≡ codes "pc=docs"
a_profile_of_a_machine = refl

a_profile_of_none : heading_name Profile None (codes "a=b/docs.prf") ≡ codes "docs"
a_profile_of_none = refl

rules_have_no_name : heading_name Rules (Some (codes "pc")) (codes "rules") ≡ codes ""
rules_have_no_name = refl

a_line_end_is_added : line_end (codes "root = /a") ≡ codes "\n"
a_line_end_is_added = refl

a_line_end_is_not_added_twice : line_end (codes "root = /a\n") ≡ codes ""
a_line_end_is_not_added_twice = refl

an_empty_file_has_no_line : line_end (codes "") ≡ codes ""
an_empty_file_has_no_line = refl

a_heading_on_the_second_line : heading_line (lines_of (codes "a\n%b\nc")) ≡ Some 2
a_heading_on_the_second_line = refl

a_percent_within_a_line : heading_line (lines_of (codes "a%\n b%")) ≡ None
a_percent_within_a_line = refl
