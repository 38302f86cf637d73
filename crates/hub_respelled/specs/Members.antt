-- The profiles of a bundle, each with whether the names of its host fold.
use Rattle.std.specs.Prelude.{◌≡◌, ℕ, ◌+◌, Bool, false, List, [], ◌∷◌, Option, Some, None, slice_get}
use Rattle.std.specs.List.{flat_map}
use Rattle.hub_text.specs.Lines.{lines_of}
use Rattle.hub_bundle.specs.Bundle.{SectionValue}
use Rattle.hub_bundle.specs.declared.bundle.Heading.{Heading}
use Rattle.hub_bundle.specs.declared.bundle.Heading.TheVariants as heading
use Rattle.hub_folded.specs.declared.member.Member.{Member}
use Rattle.hub_profile.specs.Parts.{Parts}
use Rattle.hub_respelled.specs.Case.{folds_below}

-- Of each section of a profile, whether its lines say that names fold. They are in the order of the
-- profiles.
abbrev pub folds_under : Heading → List ℕ → List Bool
folds_under (heading.Profile name) bytes = folds_below (lines_of bytes) ∷ []
folds_under _ bytes = []

abbrev pub folds_in : List SectionValue → List Bool
folds_in sections = flat_map (λ s. folds_under s.heading s.bytes) sections

-- The one of that number.
abbrev pub or_false : Option Bool → Bool
or_false None = false
or_false (Some b) = b

abbrev pub fold_at : List Bool → ℕ → Bool
fold_at folds n = or_false (slice_get folds n)

-- The profiles from that number on, each with its own.
abbrev pub members_from : List Bool → ℕ → List Parts → List Member
members_from folds n [] = []
members_from folds n (P ∷ Ps) =
    record { folds = fold_at folds n; parts = P } ∷ members_from folds (n + 1) Ps

abbrev pub members_of : List Bool → List Parts → List Member
members_of folds Ps = members_from folds 0 Ps
