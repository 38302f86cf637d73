-- Worked values of nested roots: why the lower profile isn't read with prefixed kept values.
use Rattle.std.specs.Prelude.{⊤, ◌≡◌, true, false, [], ◌∷◌, ◌++◌, map, codes, refl}
use Rattle.hub_path.specs.Path.{Path, path_of}
use Rattle.hub_glob.specs.Glob.{matches}
use Rattle.hub_glob.specs.Specification.{Specification}
use Rattle.hub_glob.specs.declared.path_spec.Kind.TheVariants as Kind
use Rattle.hub_glob.specs.declared.piece.Part.TheVariants.{One}
use Rattle.hub_glob.specs.declared.piece.Piece.TheVariants.{Lit}
use Rattle.hub_profile.specs.Parts.{Parts}
use Rattle.hub_profile.specs.examples.Profiles.{hub, s1, between}
use Rattle.hub_reach.specs.Reach.{reach}
use Rattle.hub_parts.specs.Nested.{reach_from}

-- What these examples compute.
computed : ⊤
unfolding reach matches
computed = tt

abbrev home : Path
home = path_of (codes "home")

abbrev named_home : Specification
named_home = record { kind = Kind.Name; pattern = map (λ c. One (Lit c)) (codes "home") }

-- A profile of all that is below `home` of the hub, which ignores what is called `home` itself.
abbrev lower : Parts
lower = record (between (codes "lower") (hub ++ home) s1 []) { ignore = named_home ∷ [] }

-- The same, read at the hub, with the kept value `home`.
abbrev prefixed : Parts
prefixed = record (between (codes "lower") hub s1 home) { ignore = named_home ∷ [] }

-- it reaches all below its root, since that isn't looked at; with a prefix nothing would be reached
what_is_missed : reach_from home lower (path_of (codes "home/a"))
    ∷ reach prefixed (path_of (codes "home/a")) ∷ []
    ≡ true ∷ false ∷ []
unfolding computed
what_is_missed = refl

-- what is called `home` below its root is ignored either way
what_is_ignored : reach_from home lower (path_of (codes "home/home"))
    ∷ reach prefixed (path_of (codes "home/home")) ∷ []
    ≡ false ∷ false ∷ []
unfolding computed
what_is_ignored = refl

-- its root itself it doesn't reach, but passes through; with a prefix it would be reached
what_is_too_much : reach_from home lower home
    ∷ reach (record prefixed { ignore = [] }) home ∷ []
    ≡ false ∷ true ∷ []
unfolding computed
what_is_too_much = refl
