-- Worked values: where numbers stand, and rounds of numbers.
use Rattle.std.specs.Prelude.{◌≡◌, List, [], ◌∷◌, codes, refl}
use Rattle.std.proofs.Common.{arith}
use Rattle.hub_path.specs.Path.{path_of}
use Rattle.hub_path.specs.declared.side.Side.TheVariants.{Left}
use Rattle.hub_cert.specs.declared.fault.CheckFault.{CheckFault}
use Rattle.hub_cert.specs.declared.fault.CheckFault.TheVariants as fault
use Rattle.hub_cert.specs.declared.goal.Place.TheVariants.{Replica}
use Rattle.hub_rounds.specs.Lines.{HasOwnLine}
use Rattle.hub_rounds.specs.Numbered.{IsRoundOfLines, left_out, numbered}
use Rattle.hub_rounds.specs.declared.placing.Placing.{Placing}
use Rattle.hub_rounds.specs.declared.placing.Placing.TheVariants as placing
use Rattle.hub_rounds.specs.declared.placing.Obstacle.TheVariants.{Breach}

-- The office (1) writes what docs (0) reach, and lists (2) break a rule. Nothing is said of photos.
abbrev overlap : CheckFault
overlap = fault.Overlap 1 0 (Replica Left) (path_of (codes "a")) (path_of (codes "a/b"))

abbrev lines : List CheckFault
lines =
    overlap
    ∷ fault.Breach 2 0 (path_of (codes "books"))
    ∷ []

-- docs and photos stand in the first round, the office in the second one, and lists in none
abbrev office : List Placing
office =
    placing.Round 0 ∷ placing.Round 1 ∷ placing.Unplaced (Breach 0) ∷ placing.Round 0 ∷ []

numbers_by_rounds : numbered 3 office ≡ (0 ∷ 3 ∷ []) ∷ (1 ∷ []) ∷ [] ∷ []
numbers_by_rounds = refl

who_is_left_out : left_out office ≡ record { number = 2; reason = Breach 0 } ∷ []
who_is_left_out = refl

why_it_is_left_out : HasOwnLine lines 2 (Breach 0)
why_it_is_left_out = (fault.Breach 2 0 (path_of (codes "books")), (1, omega arith, refl), refl)

-- docs and the office are no round, nor are lists by themselves, nor is one of them twice, nor none
a_line_is_about_both : IsRoundOfLines 4 lines (0 ∷ 1 ∷ []) → ⊥
a_line_is_about_both h = h.apart 0 1 0 1 (λ e. cc) refl refl
    (overlap, (0, omega arith, refl), refl)

a_line_is_about_it_alone : IsRoundOfLines 4 lines (2 ∷ []) → ⊥
a_line_is_about_it_alone h = h.alone 0 2 refl (Breach 0) why_it_is_left_out

a_number_is_there_once : IsRoundOfLines 4 lines (3 ∷ 3 ∷ []) → ⊥
a_number_is_there_once h = let same = h.once 0 1 3 refl refl in cc

a_round_has_a_number : IsRoundOfLines 4 lines [] → ⊥
a_round_has_a_number h = h.some refl
