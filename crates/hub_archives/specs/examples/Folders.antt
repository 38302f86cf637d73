-- Values worked by hand: which folders a reading keeps out.
use Rattle.std.specs.Prelude.{⊤, ◌≡◌, Bool, true, false, List, ℕ, [], ◌∷◌, map, refl, codes}
use Rattle.hub_path.specs.Path.{Path, path_of}
use Rattle.hub_glob.specs.Glob.{matches}
use Rattle.hub_glob.specs.declared.path_spec.Kind.TheVariants as Kind
use Rattle.hub_glob.specs.declared.piece.Part.{Part}
use Rattle.hub_glob.specs.declared.piece.Part.TheVariants.{One}
use Rattle.hub_glob.specs.declared.piece.Piece.TheVariants.{Lit}
use Rattle.hub_profile.specs.Parts.{Parts}
use Rattle.hub_profile.specs.examples.Profiles.{of_kept}
use Rattle.hub_reach.specs.Reach.{reach}
use Rattle.hub_archives.specs.KeptOut.{keeps_out}

-- What these examples compute.
computed : ⊤
unfolding reach matches
computed = tt

-- A profile of the whole replica, and one that ignores `.unison`.
abbrev whole : Parts
whole = record (of_kept []) { paths = [] ∷ [] }

abbrev pub literal : List ℕ → List Part
literal cs = map (λ c. One (Lit c)) cs

abbrev ignoring : Parts
ignoring = record whole { ignore = (record { kind = Kind.Path; pattern = literal (codes ".unison") }) ∷ [] }

abbrev kept_out : Path → List Parts → List Bool
kept_out x Ps = map (λ P. keeps_out P x) Ps

-- a folder that is reached isn't kept out; one that is ignored is, and so is one beside what is kept
of_unison : kept_out (path_of (codes ".unison")) (whole ∷ ignoring ∷ of_kept (codes "docs") ∷ [])
    ≡ false ∷ true ∷ true ∷ []
unfolding computed
of_unison = refl

-- nor is one in which a value is kept, also where it isn't reached itself
of_a_kept_value : kept_out (path_of (codes ".unison")) (of_kept (codes ".unison/ar") ∷ of_kept (codes ".unison") ∷ [])
    ≡ false ∷ false ∷ []
unfolding computed
of_a_kept_value = refl

-- the root itself is never kept out
of_the_root : kept_out [] (whole ∷ ignoring ∷ of_kept (codes "docs") ∷ []) ≡ false ∷ false ∷ false ∷ []
unfolding computed
of_the_root = refl
