-- Worked values: what lines say of which profiles, and where profiles stand.
use Rattle.std.specs.Prelude.{◌≡◌, ℕ, true, false, List, [], ◌∷◌, map, filter, not, codes, refl}
use Rattle.std.proofs.Common.{arith}
use Rattle.hub_path.specs.Path.{path_of}
use Rattle.hub_path.specs.declared.side.Side.TheVariants.{Left}
use Rattle.hub_profile.specs.Parts.{Parts}
use Rattle.hub_profile.specs.examples.Profiles.{hub, s1, between}
use Rattle.hub_cert.specs.declared.fault.CheckFault.{CheckFault}
use Rattle.hub_cert.specs.declared.fault.CheckFault.TheVariants as fault
use Rattle.hub_cert.specs.declared.goal.Goal.TheVariants as goal
use Rattle.hub_cert.specs.declared.goal.Place.TheVariants.{Replica, Archive}
use Rattle.hub_rounds.specs.Lines.{HasPair, names_pair, subject_of}
use Rattle.hub_rounds.specs.Rounds.{is_in_some, is_outside, profiles_in_round}
use Rattle.hub_rounds.specs.declared.placing.Placed.{Placed}
use Rattle.hub_rounds.specs.declared.placing.Placing.{Placing}
use Rattle.hub_rounds.specs.declared.placing.Placing.TheVariants as placing
use Rattle.hub_rounds.specs.declared.placing.Obstacle.TheVariants.{Breach, TooLarge}
use Rattle.hub_rounds.specs.declared.subject.Subject.TheVariants.{Pair, Alone, Nothing}

-- A profile of that name.
abbrev named : List ℕ → Parts
named t = between t hub s1 []

abbrev overlap : ℕ → ℕ → CheckFault
overlap w o = fault.Overlap w o (Replica Left) (path_of (codes "a")) (path_of (codes "a/b"))

-- an overlap is about two profiles, a breach about one; a goal that is too large is about those
-- that it names, and a clash that nothing rules out about both
what_lines_are_about :
    map subject_of
    (overlap 0 2
    ∷ fault.Breach 1 3 (path_of (codes "books"))
    ∷ fault.TooLarge (goal.Clash 2 0 Archive)
    ∷ fault.TooLarge (goal.Breach 1 0)
    ∷ fault.Missing (goal.Clash 1 3 Archive)
    ∷ fault.Missing (goal.Breach 1 0)
    ∷ [])
    ≡ Pair 0 2 ∷ Alone 1 (Breach 3) ∷ Pair 2 0 ∷ Alone 1 (TooLarge 0) ∷ Pair 1 3 ∷ Nothing ∷ []
what_lines_are_about = refl

-- a pair is named either way round, and nobody is a pair with himself
a_pair_either_way_round : names_pair (Pair 0 2) 0 2 ∷ names_pair (Pair 0 2) 2 0
    ∷ names_pair (Pair 0 2) 0 1 ∷ names_pair (Pair 0 2) 0 0 ∷ names_pair (Alone 0 (Breach 2)) 0 2
    ∷ [] ≡ true ∷ true ∷ false ∷ false ∷ false ∷ []
a_pair_either_way_round = refl

-- docs and photos in the first round, office in the second one, and lists in none
abbrev standing : List ℕ → Placing → Placed
standing t where_it_is = record { profile = named t; placing = where_it_is }

abbrev office : List Placed
office =
    standing (codes "docs") (placing.Round 0)
    ∷ standing (codes "office") (placing.Round 1)
    ∷ standing (codes "lists") (placing.Unplaced (Breach 0))
    ∷ standing (codes "photos") (placing.Round 0)
    ∷ []

rounds_by_their_numbers : map (λ k. profiles_in_round k office) (0 ∷ 1 ∷ 2 ∷ [])
    ≡ (named (codes "docs") ∷ named (codes "photos") ∷ []) ∷ (named (codes "office") ∷ []) ∷ [] ∷ []
rounds_by_their_numbers = refl

who_is_left : filter (λ p. not (is_in_some p.placing)) office
    ≡ standing (codes "lists") (placing.Unplaced (Breach 0)) ∷ []
who_is_left = refl

who_is_outside_of_the_first_round : map (λ p. p.profile)
    (filter (λ p. is_outside 1 p.placing) office)
    ≡ named (codes "office") ∷ named (codes "lists") ∷ []
who_is_outside_of_the_first_round = refl

-- docs and office are rivals by a line of the office over docs
rivals_by_a_line : HasPair (overlap 1 0 ∷ []) 0 1
rivals_by_a_line = (overlap 1 0, (0, omega arith, refl), refl)
