-- Worked values of plans.
use Rattle.std.specs.Prelude.{⊤, ◌≡◌, [], ◌∷◌, codes, false, refl, true}
use Rattle.std.specs.Str.{chars}
use Rattle.hub_path.specs.Path.{path_of}
use Rattle.hub_path.specs.declared.side.Side.TheVariants.{Left}
use Rattle.hub_profile.specs.Parts.{Parts}
use Rattle.hub_profile.specs.declared.fault.Fault.TheVariants as profile
use Rattle.hub_cert.specs.declared.fault.CheckFault.{CheckFault}
use Rattle.hub_cert.specs.declared.fault.CheckFault.TheVariants as fault
use Rattle.hub_cert.specs.declared.goal.Goal.TheVariants as goal
use Rattle.hub_cert.specs.declared.goal.Place.TheVariants.{Archive, Replica}
use Rattle.hub_report.specs.Plan.{is_whole, order_of, why_in}
use Rattle.hub_report.specs.declared.plan.Roster.{Roster}
use Rattle.hub_report.specs.examples.Jobs.{profile_of}
use lib.Utf8.{encode}

-- What these examples compute.
computed : ⊤
unfolding chars encode
computed = tt

abbrev docs : Parts
docs = profile_of (codes "docs") (codes "srv/hub") (codes "srv/s1")

abbrev lists : Parts
lists = profile_of (codes "lists") (codes "srv/hub") (codes "srv/s4")

-- docs and lists are read, and win between them isn't.
abbrev pub roster : Roster
roster = record {
  names = codes "docs" ∷ codes "win" ∷ codes "lists" ∷ [];
  numbers = 1 ∷ 3 ∷ [];
  unread = (record { number = 2; fault = record { line = 0; fault = profile.RootCount } }) ∷ [];
}

abbrev overlap : CheckFault
overlap = fault.Overlap 1 0 (Replica Left) (path_of (codes "docs")) (path_of (codes "docs"))

abbrev breach : CheckFault
breach = fault.Breach 0 0 (path_of (codes "docs"))

a_clash_is_told_as_by_clashes :
    why_in (docs ∷ lists ∷ []) [] overlap
    ≡ codes "overlap: lists writes docs at /srv/hub, docs reaches docs\n"
unfolding computed
a_clash_is_told_as_by_clashes = refl

nested_roots :
    why_in (docs ∷ lists ∷ []) [] (fault.Missing (goal.Clash 0 1 Archive))
    ≡ codes "nested roots: docs and lists\n"
unfolding computed
nested_roots = refl

clashing_profiles_are_in_the_order_and_one_that_is_not_read_is_last :
    order_of roster [] (overlap ∷ []) ≡ 1 ∷ 3 ∷ 2 ∷ []
clashing_profiles_are_in_the_order_and_one_that_is_not_read_is_last = refl

a_profile_that_breaks_a_rule_is_in_no_order : order_of roster [] (breach ∷ []) ≡ 3 ∷ 2 ∷ []
a_profile_that_breaks_a_rule_is_in_no_order = refl

a_clash_refuses_none : is_whole roster [] (overlap ∷ []) ≡ true
a_clash_refuses_none = refl

a_breach_refuses_one : is_whole roster [] (overlap ∷ breach ∷ []) ≡ false
a_breach_refuses_one = refl
