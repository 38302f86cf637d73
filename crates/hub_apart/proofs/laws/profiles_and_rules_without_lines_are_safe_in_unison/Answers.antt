use Rattle.hub_apart.proofs.InUnison.{all-kept, all-safe}
use Rattle.hub_apart.proofs.laws.profiles_and_rules_without_lines_are_safe_in_unison.Goals as goal

pub returns-clause-anywhere : goal.returns-clause-anywhere
returns-clause-anywhere c = all-safe c.profiles_without_lines_are_safe_in_unison.ensures.pair

pub returns-clause-safe : goal.returns-clause-safe
returns-clause-safe c = λ Ws Rs h archives apart.
    c.a_set_is_safe_anywhere.ensures.unison Ws apart
    (all-safe c.profiles_without_lines_are_safe_in_unison.ensures.pair Ws Rs h archives)

pub returns-clause-kept : goal.returns-clause-kept
returns-clause-kept c = all-kept c.profiles_without_lines_are_safe_in_unison.ensures.one
