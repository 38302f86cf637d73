-- Worked values of profiles that run alone.
use Rattle.std.specs.Prelude.{⊤, ◌≡◌, [], ◌∷◌, codes, false, refl, true}
use Rattle.std.specs.Fmt.{digits}
use Rattle.std.specs.Str.{chars}
use Rattle.hub_profile.specs.declared.fault.Fault.TheVariants as profile
use Rattle.hub_profile.specs.declared.rule.Rule.{Rule}
use Rattle.hub_report.specs.Alone.{alone_lines, are_known}
use Rattle.hub_report.specs.declared.plan.Roster.{Roster}
use Rattle.hub_report.specs.examples.Plan.{roster}
use lib.Utf8.{encode}

-- What these examples compute.
computed : ⊤
unfolding chars digits encode
computed = tt

one_that_is_not_read_runs_alone :
    alone_lines roster [] ≡ codes "alone win\nwhy line 0: RootCount\n"
unfolding computed
one_that_is_not_read_runs_alone = refl

beside_rules_it_is_unchecked : (R : Rule)
    → alone_lines roster (R ∷ []) ≡ codes "alone win\nwhy line 0: RootCount\nunchecked win\n"
unfolding computed
beside_rules_it_is_unchecked R = refl

without_rules_all_is_known : are_known roster [] ≡ true
without_rules_all_is_known = refl

beside_rules_it_is_not_known : (R : Rule) → are_known roster (R ∷ []) ≡ false
beside_rules_it_is_not_known R = refl

if_all_are_read_all_is_known :
    (R : Rule) → are_known (record roster { unread = [] }) (R ∷ []) ≡ true
if_all_are_read_all_is_known R = refl
