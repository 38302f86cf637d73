-- Worked values of the reading of bundles.
use Rattle.std.specs.Prelude.{⊤, ◌≡◌, ℕ, List, [], ◌∷◌, ◌++◌, Result, Ok, Err, codes, replicate, refl}
use Rattle.std.specs.Str.{is_utf8, chars}
use Rattle.hub_bundle.specs.declared.bundle.Heading.TheVariants.{Profile, Rules, State, Certificates}
use Rattle.hub_bundle.specs.declared.bundle.BundleFault.{BundleFault}
use Rattle.hub_bundle.specs.declared.bundle.BundleFault.TheVariants as fault
use Rattle.hub_bundle.specs.declared.bundle.BundleLineFault.{BundleLineFault}
use Rattle.hub_bundle.specs.Bundle.{SectionValue, bundle_reading}

-- What these examples compute.
computed : ⊤
unfolding is_utf8 chars lib.Utf8.encode
computed = tt

abbrev at : ℕ → BundleFault → Result (List SectionValue) BundleLineFault
at n f = Err (record { line = n; fault = f })

abbrev profile : List ℕ → List ℕ → SectionValue
profile name bytes = record { heading = Profile name; bytes = bytes }

nothing : bundle_reading [] ≡ Ok []
nothing = refl

only_blanks : bundle_reading (codes " \t\r\n\n") ≡ Ok []
only_blanks = refl

-- blank lines come before the first heading; a CR ends a heading; the last line has no LF
two_profiles : bundle_reading
    (codes " \t\n%profile docs\r\nroot = /srv/hub\r\n\n%profile photos\nx")
    ≡ Ok (profile (codes "docs") (codes "root = /srv/hub\r\n\n")
    ∷ profile (codes "photos") (codes "x") ∷ [])
unfolding computed
two_profiles = refl

-- sections may be empty, a heading may end the input, and two profiles may have one name
empty_sections : bundle_reading (codes "%profile a b\n%profile a b\n%profile c")
    ≡ Ok (profile (codes "a b") [] ∷ profile (codes "a b") [] ∷ profile (codes "c") [] ∷ [])
unfolding computed
empty_sections = refl

-- a `%` inside a line begins no section, and a section's text keeps its last LF
percent_inside : bundle_reading (codes "%profile a%\n %profile b\n\n")
    ≡ Ok (profile (codes "a%") (codes " %profile b\n\n") ∷ [])
unfolding computed
percent_inside = refl

-- only one CR is dropped, and one at the end of a section stays
one_cr_is_dropped : bundle_reading (codes "%profile a\r\r\n") ≡ at 1 fault.BadName
unfolding computed
one_cr_is_dropped = refl

crs_in_a_section_stay : bundle_reading (codes "%profile a\n\r")
    ≡ Ok (profile (codes "a") (codes "\r") ∷ [])
unfolding computed
crs_in_a_section_stay = refl

a_comment_is_no_blank_line : bundle_reading (codes "\n\n# x\n%what\n") ≡ at 3 fault.NoSection
a_comment_is_no_blank_line = refl

a_blank_before_a_percent : bundle_reading (codes " %profile a\n") ≡ at 1 fault.NoSection
a_blank_before_a_percent = refl

-- a byte order mark is no blank
a_mark_is_no_blank : bundle_reading (239 ∷ 187 ∷ 191 ∷ codes "%profile a\n") ≡ at 1 fault.NoSection
a_mark_is_no_blank = refl

a_nul_is_no_blank : bundle_reading (0 ∷ []) ≡ at 1 fault.NoSection
a_nul_is_no_blank = refl

-- the lowest faulty heading is told, after what stands above all sections
an_unknown_heading : bundle_reading (codes "%profile a\nx\n%rules \n%profile ..\n")
    ≡ at 3 fault.UnknownSection
unfolding computed
an_unknown_heading = refl

other_kinds_are_unknown : bundle_reading (codes "%jobs\n") ≡ at 1 fault.UnknownSection
other_kinds_are_unknown = refl

a_blank_behind_the_word : bundle_reading (codes "%state \n") ≡ at 1 fault.UnknownSection
a_blank_behind_the_word = refl

-- the kinds without a name stand in any order, and a CR ends their heading too
all_kinds : bundle_reading (codes "%certificates\nx\n%state\r\nend\r\n%rules\r\n%profile a\n")
    ≡ Ok (record { heading = Certificates; bytes = codes "x\n" }
    ∷ record { heading = State; bytes = codes "end\r\n" }
    ∷ record { heading = Rules; bytes = [] } ∷ profile (codes "a") [] ∷ [])
unfolding computed
all_kinds = refl

rules_twice : bundle_reading (codes "%rules\n%certificates\n%rules\n%rules \n")
    ≡ at 3 fault.SectionTwice
rules_twice = refl

states_twice : bundle_reading (codes "%state\n%certificates\n%profile a\n%state")
    ≡ at 4 fault.SectionTwice
unfolding computed
states_twice = refl

certificates_twice : bundle_reading (codes "%certificates\n%certificates") ≡ at 2 fault.SectionTwice
certificates_twice = refl

-- a fault above comes first
a_fault_above_a_second_section : bundle_reading (codes "%rules\n%rule\n%rules\n")
    ≡ at 2 fault.UnknownSection
a_fault_above_a_second_section = refl

no_space_behind_the_word : bundle_reading (codes "%profile\n") ≡ at 1 fault.UnknownSection
no_space_behind_the_word = refl

no_name : bundle_reading (codes "%profile \n") ≡ at 1 fault.BadName
unfolding computed
no_name = refl

a_name_begins_with_a_space : bundle_reading (codes "%profile  e")
    ≡ Ok (profile (codes " e") [] ∷ [])
unfolding computed
a_name_begins_with_a_space = refl

a_bad_name_below_another_section : bundle_reading (codes "%profile a\n\n%profile ..\r\n%what")
    ≡ at 3 fault.BadName
unfolding computed
a_bad_name_below_another_section = refl

no_text : bundle_reading (codes "%profile " ++ 255 ∷ []) ≡ at 1 fault.BadName
unfolding computed
no_text = refl

a_percent_alone : bundle_reading (codes "%") ≡ at 1 fault.UnknownSection
a_percent_alone = refl

-- a name takes at most 255 bytes
a_long_name : bundle_reading (codes "%profile " ++ replicate 255 97)
    ≡ Ok (profile (replicate 255 97) [] ∷ [])
unfolding computed
a_long_name = refl

a_name_too_long : bundle_reading (codes "%profile " ++ replicate 256 97) ≡ at 1 fault.BadName
unfolding computed
a_name_too_long = refl
