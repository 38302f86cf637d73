use Rattle.hub_preferences.proofs.Same.{stands, heading_same, other_same}
use Rattle.hub_preferences.proofs.laws.only_lines_of_profiles_change.Goals as goal

pub returns-clause-other : goal.returns-clause-other
returns-clause-other c = λ rs s l below h. stands rs s l below (other_same rs s l.text below h)

pub returns-clause-heading : goal.returns-clause-heading
returns-clause-heading c = λ rs s l below h. stands rs s l below (heading_same rs s l.text below h)
