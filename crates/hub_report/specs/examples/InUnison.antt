-- Worked values of the lines of what clashes in Unison, and of rounds of numbers.
use Rattle.std.specs.Prelude.{⊤, ◌≡◌, [], ◌∷◌, ◌++◌, codes, refl}
use Rattle.std.specs.Fmt.{decimal}
use Rattle.std.specs.Str.{chars}
use Rattle.hub_path.specs.declared.side.Side.TheVariants.{Left}
use Rattle.hub_profile.specs.Parts.{Parts}
use Rattle.hub_cert.specs.declared.fault.CheckFault.{CheckFault}
use Rattle.hub_cert.specs.declared.fault.CheckFault.TheVariants as fault
use Rattle.hub_cert.specs.declared.goal.Goal.TheVariants as goal
use Rattle.hub_cert.specs.declared.goal.Place.TheVariants.{Archive, Replica}
use Rattle.hub_rounds.specs.declared.placing.Obstacle.TheVariants.{Breach}
use Rattle.hub_search.specs.declared.reached.TheConstants.{STAGES}
use Rattle.hub_report.specs.InUnison.{all_lines_in, unison_line_in}
use Rattle.hub_report.specs.Rounds.{left_out_line, number_line}
use Rattle.hub_report.specs.examples.Jobs.{profile_of}
use lib.Utf8.{encode}

-- What these examples compute.
computed : ⊤
unfolding chars encode
computed = tt

abbrev docs : Parts
docs = profile_of (codes "docs") (codes "srv/hub") (codes "srv/s1")

abbrev lists : Parts
lists = profile_of (codes "lists") (codes "srv/hub") (codes "srv/s4")

abbrev nested : CheckFault
nested = fault.Missing (goal.Clash 0 1 Archive)

a_clash_that_is_too_large_names_both_profiles_and_the_place :
    unison_line_in (docs ∷ lists ∷ []) [] (fault.TooLarge (goal.Clash 1 0 (Replica Left)))
    ≡ codes "too large: lists writes at /srv/hub, docs reaches: more than "
    ++ (decimal STAGES ++ codes " stages\n")
unfolding computed
a_clash_that_is_too_large_names_both_profiles_and_the_place = refl

a_breach_that_is_too_large_names_the_profile_and_the_rule :
    unison_line_in (docs ∷ lists ∷ []) [] (fault.TooLarge (goal.Breach 1 2))
    ≡ codes "too large: lists, rule "
    ++ (decimal 2 ++ (codes ": more than " ++ (decimal STAGES ++ codes " stages\n")))
unfolding computed
a_breach_that_is_too_large_names_the_profile_and_the_rule = refl

archives_are_below_nested_roots :
    all_lines_in (docs ∷ lists ∷ []) [] (nested ∷ []) ((0, 1) ∷ [])
    ≡ codes "nested roots: docs and lists\n"
    ++ codes "same archive: docs and lists have the roots /srv/hub and /srv/s1\n"
unfolding computed
archives_are_below_nested_roots = refl

a_number_in_a_round_is_shown_by_its_name :
    number_line (docs ∷ lists ∷ []) (codes "2") 1 ≡ codes "round 2 lists\n"
unfolding computed
a_number_in_a_round_is_shown_by_its_name = refl

a_number_that_is_left_out_is_shown_with_the_rule :
    left_out_line (docs ∷ lists ∷ []) (record { number = 0; reason = Breach 3 })
    ≡ codes "breach " ++ (decimal 3 ++ codes " docs\n")
unfolding computed
a_number_that_is_left_out_is_shown_with_the_rule = refl
