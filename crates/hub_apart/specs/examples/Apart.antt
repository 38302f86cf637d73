-- Worked values: who has nested roots, who is put apart, and which numbers lines have.
use Rattle.std.specs.Prelude.{◌≡◌, ℕ, true, false, [], ◌∷◌, ◌++◌, codes, map, refl}
use Rattle.hub_path.specs.Path.{Path, path_of}
use Rattle.hub_path.specs.declared.side.Side.TheVariants.{Left}
use Rattle.hub_profile.specs.Parts.{Parts}
use Rattle.hub_profile.specs.examples.Profiles.{hub, s1, between}
use Rattle.hub_cert.specs.declared.fault.CheckFault.{CheckFault}
use Rattle.hub_cert.specs.declared.fault.CheckFault.TheVariants as fault
use Rattle.hub_cert.specs.declared.goal.Goal.TheVariants as goal
use Rattle.hub_cert.specs.declared.goal.Place.TheVariants.{Replica}
use Rattle.hub_apart.specs.Apart.{any_two, are_namesakes, are_put_apart, have_nested}
use Rattle.hub_apart.specs.ApartLines.{line_among}

-- A folder of the hub, and another folder.
abbrev home : Path
home = hub ++ codes "home" ∷ []

abbrev other : Path
other = codes "mnt" ∷ []

abbrev of_hub : Parts
of_hub = between (codes "hub") hub s1 []

abbrev of_home : Parts
of_home = between (codes "home") home other []

abbrev of_both : Parts
of_both = between (codes "both") hub other []

-- a root within a root is nested, either way round; the same root isn't
who_has_nested_roots :
    have_nested of_hub of_home ∷ have_nested of_home of_hub ∷ have_nested of_hub of_both
    ∷ have_nested of_home of_both ∷ have_nested of_hub of_hub ∷ []
    ≡ true ∷ true ∷ false ∷ true ∷ false ∷ []
who_has_nested_roots = refl

-- it is an earlier and a later profile that are compared
two_of_them : any_two have_nested (of_hub ∷ of_both ∷ of_home ∷ [])
    ∷ any_two have_nested (of_hub ∷ of_both ∷ [])
    ∷ any_two are_namesakes (of_hub ∷ of_home ∷ of_hub ∷ []) ∷ any_two are_namesakes (of_hub ∷ []) ∷ []
    ≡ true ∷ false ∷ true ∷ false ∷ []
two_of_them = refl

-- who is put apart: nobody without nested roots, and nobody of one name
put_apart : map (λ Ps. are_put_apart (record { profiles = Ps; rules = [] }))
    ((of_hub ∷ of_home ∷ []) ∷ (of_hub ∷ of_both ∷ []) ∷ (of_hub ∷ of_home ∷ of_hub ∷ []) ∷ [] ∷ [])
    ≡ true ∷ false ∷ false ∷ false ∷ []
put_apart = refl

-- the first of two gets one number, the second the other
abbrev overlap : ℕ → ℕ → CheckFault
overlap w o = fault.Overlap w o (Replica Left) (path_of (codes "a")) (path_of (codes "a/b"))

numbers_of_lines :
    map (line_among 2 5)
    (overlap 0 1 ∷ overlap 1 0 ∷ fault.Breach 0 3 (path_of (codes "a"))
    ∷ fault.TooLarge (goal.Clash 1 0 (Replica Left)) ∷ [])
    ≡ overlap 2 5 ∷ overlap 5 2 ∷ fault.Breach 2 3 (path_of (codes "a"))
    ∷ fault.TooLarge (goal.Clash 5 2 (Replica Left)) ∷ []
numbers_of_lines = refl
