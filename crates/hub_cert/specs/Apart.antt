-- Goals that the kept values of their profiles rule out by themselves, whatever is ignored.
use Rattle.std.specs.Prelude.{Bool, not}
use Rattle.std.specs.List.{list_all}
use Rattle.hub_profile.specs.Parts.{some_passes}
use Rattle.hub_reach.specs.Apart.{are_near}
use Rattle.hub_fronts.specs.Fronts.{may_meet_one}
use Rattle.hub_cert.specs.Aim.{Aim, Breaching, Clashing}
use Rattle.hub_cert.specs.Goals.{aim_of, goals}
use Rattle.hub_cert.specs.Set.{Members}
use Rattle.hub_cert.specs.declared.goal.Goal.{Goal}

-- No kept value of one profile is over one of the other; or the literal prefix of the rule's pattern
-- differs from each kept value.
abbrev pub is_apart : Aim → Bool
is_apart (Clashing W Q place) = not (are_near W.paths Q.paths)
is_apart (Breaching P R) = not (may_meet_one R.spec P.paths)

abbrev pub is_apart_goal : Members → Goal → Bool
is_apart_goal S g = some_passes is_apart (aim_of S g)

-- Kept values alone rule out each goal of the set.
abbrev pub is_apart_set : Members → Bool
is_apart_set S = list_all (is_apart_goal S) (goals S)
