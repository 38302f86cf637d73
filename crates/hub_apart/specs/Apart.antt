-- Which sets with nested roots are put apart.
use Rattle.std.specs.Prelude.{◌&&◌, ◌||◌, Bool, false, not, List, [], ◌∷◌, length, nat_le}
use Rattle.std.specs.List.{list_any}
use Rattle.hub_path.specs.Path.{Path, name_eq}
use Rattle.hub_profile.specs.Parts.{Parts}
use Rattle.hub_profile.specs.declared.rule.Rule.{Rule}
use Rattle.hub_cert.specs.Refused.{is_nested}
use Rattle.hub_cert.specs.Set.{Members}
use Rattle.hub_cert.specs.declared.set.TheConstants.{PROFILES}

-- A root is nested with one of these; and a root of a profile with one of another profile.
abbrev pub nests_any : Path → List Path → Bool
nests_any r roots = list_any (λ s. is_nested r s) roots

abbrev pub have_nested : Parts → Parts → Bool
have_nested P Q = list_any (λ r. nests_any r Q.roots) P.roots

-- The root of a rule is nested with that of a profile or of a rule.
abbrev pub nests_rule : List Parts → List Rule → Rule → Bool
nests_rule Ps Rs R =
    list_any (λ P. nests_any R.root P.roots) Ps || list_any (λ Q. is_nested R.root Q.root) Rs

-- Two profiles have one name.
abbrev pub are_namesakes : Parts → Parts → Bool
are_namesakes P Q = name_eq P.name Q.name

-- An item and a later one pass a test.
abbrev pub any_two : (Parts → Parts → Bool) → List Parts → Bool
any_two test [] = false
any_two test (P ∷ Ps) = list_any (λ Q. test P Q) Ps || any_two test Ps

-- These are put apart: roots of profiles are nested, and nothing else keeps them from being a set
-- that is known before their characters are counted.
abbrev pub are_put_apart : Members → Bool
are_put_apart S =
    nat_le (length S.profiles) PROFILES
    && any_two have_nested S.profiles
    && not (any_two are_namesakes S.profiles)
    && not (list_any (λ R. nests_rule S.profiles S.rules R) S.rules)
