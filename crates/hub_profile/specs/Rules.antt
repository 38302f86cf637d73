-- Which texts are rules, and the first fault of each other text.
use Rattle.std.specs.Prelude.{ℕ, Bool, nat_le, List, [], ◌∷◌, ◌++◌, length, Option, Some, None, Result, Ok, Err, if◌then◌else◌, codes}
use Rattle.hub_path.specs.Path.{Path}
use Rattle.hub_path.specs.Reading.{root_reading}
use Rattle.hub_path.specs.declared.fault.PathFault.{PathFault}
use Rattle.hub_glob.specs.Specification.{Specification}
use Rattle.hub_glob.specs.Reading.{spec_reading}
use Rattle.hub_glob.specs.declared.fault.GlobFault.{GlobFault}
use Rattle.hub_profile.specs.LineByLine.{Table, lines_reading, if_text, look_up}
use Rattle.hub_profile.specs.declared.verb.Verb.{Verb}
use Rattle.hub_profile.specs.declared.verb.Verb.TheVariants.{Create, Update, Delete}
use Rattle.hub_profile.specs.declared.rule.Rule.{Rule}
use Rattle.hub_profile.specs.declared.rules.TheConstants.{RULES}
use Rattle.hub_profile.specs.declared.rule_key.RuleKey.{RuleKey}
use Rattle.hub_profile.specs.declared.rule_key.RuleKey.TheVariants as key
use Rattle.hub_profile.specs.declared.fault.Fault.{Fault}
use Rattle.hub_profile.specs.declared.fault.Fault.TheVariants as fault
use Rattle.hub_profile.specs.declared.fault.ProfileFault.{ProfileFault}

-- What the lines say so far: the last root, which the next rules are for, and the rules.
pub record RulesSaid : Type 0 where
  pub root : Option Path
  pub rules : List Rule

abbrev pub no_rules_said : RulesSaid
no_rules_said = record { root = None; rules = [] }

-- The names of a rules text: `nolose` forbids deletions, `nochange` updates, and `nonew` creations.
abbrev pub rule_keys : List (List ℕ × RuleKey)
rule_keys =
    (codes "root", key.Root)
    ∷ (codes "nolose", key.Forbid Delete)
    ∷ (codes "nochange", key.Forbid Update)
    ∷ (codes "nonew", key.Forbid Create)
    ∷ []

abbrev pub with_rules_root : RulesSaid → Result Path PathFault → Result RulesSaid Fault
with_rules_root said (Ok root) = Ok (record said { root = Some root })
with_rules_root said (Err e) = Err (fault.BadPath e)

abbrev pub rule_of : Path → Verb → Specification → Rule
rule_of root verb spec = record { root = root; verb = verb; spec = spec }

abbrev pub with_spec :
    RulesSaid → Path → Verb → Result Specification GlobFault → Result RulesSaid Fault
with_spec said root verb (Ok spec) =
    Ok (record said { rules = said.rules ++ rule_of root verb spec ∷ [] })
with_spec said root verb (Err e) = Err (fault.BadPattern e)

abbrev pub has_all_rules : RulesSaid → Bool
has_all_rules said = nat_le RULES (length said.rules)

-- A rule is for the last root above it.
abbrev pub with_rule_at : Option Path → RulesSaid → Verb → List ℕ → Result RulesSaid Fault
with_rule_at None said verb v = Err fault.RuleBeforeRoot
with_rule_at (Some root) said verb v =
    if has_all_rules said then Err fault.TooMany else with_spec said root verb (spec_reading v)

abbrev pub root_set : RulesSaid → List ℕ → Result RulesSaid Fault
root_set said v = with_rules_root said (root_reading v)

abbrev pub rule_added : Verb → RulesSaid → List ℕ → Result RulesSaid Fault
rule_added verb said v = with_rule_at said.root said verb v

-- What a value adds, or its fault, name by name.
abbrev pub with_rule_value : RuleKey → RulesSaid → List ℕ → Result RulesSaid Fault
with_rule_value key.Root said v = root_set said v
with_rule_value (key.Forbid verb) said v = rule_added verb said v

abbrev pub with_rule_key : Option RuleKey → Table RulesSaid
with_rule_key (Some k) said n name v = with_rule_value k said v
with_rule_key None said n name v = Err (fault.UnknownPreference name)

abbrev pub with_rule : Table RulesSaid
with_rule said n name v = with_rule_key (look_up name rule_keys) said n name v

abbrev pub rules_of : Result RulesSaid ProfileFault → Result (List Rule) ProfileFault
rules_of (Ok said) = Ok said.rules
rules_of (Err f) = Err f

-- The rules of a text in the order of their lines, or its first fault. A rule's number is its
-- place, from 0 on.
abbrev pub rules_reading : List ℕ → Result (List Rule) ProfileFault
rules_reading cs = rules_of (lines_reading with_rule no_rules_said cs)

abbrev pub rules_in : List ℕ → Result (List Rule) ProfileFault
rules_in bytes = if_text rules_reading bytes
