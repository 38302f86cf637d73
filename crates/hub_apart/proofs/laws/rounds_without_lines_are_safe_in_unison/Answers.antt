use Rattle.hub_apart.proofs.InUnison.{some-kept, some-safe}
use Rattle.hub_apart.proofs.laws.rounds_without_lines_are_safe_in_unison.Goals as goal

pub returns-clause-anywhere : goal.returns-clause-anywhere
returns-clause-anywhere c = some-safe c.profiles_without_lines_are_safe_in_unison.ensures.pair

pub returns-clause-safe : goal.returns-clause-safe
returns-clause-safe c = λ Ws Vs Rs es numbers h some none archives apart.
    c.a_set_is_safe_anywhere.ensures.unison Vs apart
    (some-safe c.profiles_without_lines_are_safe_in_unison.ensures.pair Ws Vs Rs es numbers h some none archives)

pub returns-clause-kept : goal.returns-clause-kept
returns-clause-kept c = some-kept c.profiles_without_lines_are_safe_in_unison.ensures.one
