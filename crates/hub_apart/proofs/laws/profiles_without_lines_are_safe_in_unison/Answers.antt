use Rattle.hub_apart.proofs.InUnison.{alone-keeps, never}
use Rattle.hub_apart.proofs.NestedClashes.{Counting}
use Rattle.hub_apart.proofs.NestedBreaches.{RuleCounting}
use Rattle.hub_apart.proofs.laws.profiles_without_lines_are_safe_in_unison.Goals as goal

pub returns-clause-pair : goal.returns-clause-pair
returns-clause-pair c =
    let counting : Counting = record {
      apart = c.clashes_are_counted_from_the_upper_root.ensures.apart;
      apart_second = c.clashes_are_counted_from_the_upper_root.ensures.apart_second;
      first = c.clashes_are_counted_from_the_upper_root.ensures.first;
      second = c.clashes_are_counted_from_the_upper_root.ensures.second;
    } in
    let ruling : RuleCounting = record {
      apart = c.breaches_are_counted_from_the_upper_root.ensures.apart;
      breach = c.breaches_are_counted_from_the_upper_root.ensures.breach;
    } in
    never c.only_near_profiles_clash.ensures.near c.a_set_is_safe_anywhere.ensures.safe c.faults_say_what_is_unsafe.ensures.rest
    c.certificates_make_a_set_safe.ensures counting ruling c.readings_keep_rules_at_any_roots.ensures

pub returns-clause-one : goal.returns-clause-one
returns-clause-one c =
    let counting : Counting = record {
      apart = c.clashes_are_counted_from_the_upper_root.ensures.apart;
      apart_second = c.clashes_are_counted_from_the_upper_root.ensures.apart_second;
      first = c.clashes_are_counted_from_the_upper_root.ensures.first;
      second = c.clashes_are_counted_from_the_upper_root.ensures.second;
    } in
    let ruling : RuleCounting = record {
      apart = c.breaches_are_counted_from_the_upper_root.ensures.apart;
      breach = c.breaches_are_counted_from_the_upper_root.ensures.breach;
    } in
    alone-keeps c.only_near_profiles_clash.ensures.near c.a_set_is_safe_anywhere.ensures.safe c.faults_say_what_is_unsafe.ensures.rest
    c.certificates_make_a_set_safe.ensures counting ruling c.readings_keep_rules_at_any_roots.ensures
