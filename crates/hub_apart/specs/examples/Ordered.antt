-- Worked values: who writes, and lines in the order of a set's.
use Rattle.std.specs.Prelude.{◌≡◌, ◌==◌, ◌≤◌, ℕ, zero, suc, List, [], ◌∷◌, codes, filter, map}
use Rattle.std.specs.List.{AllAdjacentBelow}
use Rattle.std.proofs.Common.{arith, refl}
use Rattle.std.proofs.lemmas.List.Sorted.{IsNonDecreasingBy-from_all_adjacent}
use Rattle.hub_path.specs.Path.{path_of}
use Rattle.hub_path.specs.declared.side.Side.TheVariants.{Left}
use Rattle.hub_cert.specs.declared.fault.CheckFault.{CheckFault}
use Rattle.hub_cert.specs.declared.fault.CheckFault.TheVariants as fault
use Rattle.hub_cert.specs.declared.goal.Place.TheVariants.{Replica}
use Rattle.hub_apart.specs.ApartLines.{nested_line}
use Rattle.hub_apart.specs.Ordered.{AreByWriter, last_number, writer_of}

-- Lines of three profiles as they are found, and in the order of a set's.
abbrev overlap : ℕ → ℕ → CheckFault
overlap w o = fault.Overlap w o (Replica Left) (path_of (codes "a")) (path_of (codes "a/b"))

abbrev breach : CheckFault
breach = fault.Breach 0 3 (path_of (codes "a"))

abbrev found : List CheckFault
found = overlap 0 2 ∷ overlap 2 0 ∷ nested_line 1 2 ∷ overlap 2 1 ∷ breach ∷ []

abbrev ordered : List CheckFault
ordered = overlap 0 2 ∷ nested_line 1 2 ∷ overlap 2 0 ∷ overlap 2 1 ∷ breach ∷ []

-- a clash has the number of who writes, and a breach has the last one
who_writes : map writer_of found ≡ 0 ∷ 2 ∷ 1 ∷ 2 ∷ last_number ∷ []
who_writes = refl

-- no number is less than the one before it
in_order : AreByWriter ordered
in_order = IsNonDecreasingBy-from_all_adjacent writer_of ordered step
  where
    step : AllAdjacentBelow (λ x y. writer_of x ≤ writer_of y) ordered 5
    step zero d l = omega arith
    step (suc zero) d l = omega arith
    step (suc (suc zero)) d l = omega arith
    step (suc (suc (suc zero))) d l = omega arith
    step (suc (suc (suc (suc k)))) d l = absurd (omega (arith, l))

-- the two lines of writer 2 keep their order
lines_of_2 : filter (λ e. writer_of e == 2) ordered ≡ filter (λ e. writer_of e == 2) found
lines_of_2 = refl
