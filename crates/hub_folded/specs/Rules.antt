-- Which rules a set can't have if some names fold.
use Rattle.std.specs.Prelude.{◌≡◌, ℕ, ◌+◌, Bool, true, false, List, [], ◌∷◌, Option, Some, None, if◌then◌else◌}
use Rattle.std.specs.List.{list_all}
use Rattle.hub_profile.specs.declared.rule.Rule.{Rule}
use Rattle.hub_folded.specs.Fold.{Folding}
use Rattle.hub_folded.specs.Lines.{fold_spec, is_spelled, knows_rule, some_fold}
use Rattle.hub_folded.specs.declared.fault.FoldFault.{FoldFault}
use Rattle.hub_folded.specs.declared.fault.FoldFault.TheVariants.{UnknownRule, UnwrittenRules, OutOfMemory}
use Rattle.hub_folded.specs.declared.member.Member.{Member}

-- The first rule that isn't known, or that wouldn't hold for each spelling, by its number.
abbrev pub unknown_from : Folding → ℕ → List Rule → Option ℕ
unknown_from F n [] = None
unknown_from F n (R ∷ Rs) = if knows_rule F R then unknown_from F (n + 1) Rs else Some n

abbrev pub first_unknown : Folding → List Rule → Option ℕ
first_unknown F Rs = unknown_from F 0 Rs

-- A line can say each of the folded rules.
abbrev pub are_spelled : Folding → List Rule → Bool
are_spelled F Rs = list_all (λ R. is_spelled (fold_spec F R.spec)) Rs

-- Why a set can't have these rules. Without folded names it may have each.
abbrev pub IsRefused : Folding → List Member → List Rule → FoldFault → Type 0
IsRefused F Ms Rs (UnknownRule i) = (some_fold Ms ≡ true) × (first_unknown F Rs ≡ Some i)
IsRefused F Ms Rs UnwrittenRules =
    (some_fold Ms ≡ true) × (first_unknown F Rs ≡ None) × (are_spelled F Rs ≡ false)
IsRefused F Ms Rs OutOfMemory = Unit {0}
