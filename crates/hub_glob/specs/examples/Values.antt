-- Worked examples.
use Rattle.std.specs.Prelude.{◌≡◌, ◌==◌, ℕ, true, false, List, [], ◌∷◌, ◌++◌, map, Option, Some, None, Result, Ok, Err, codes, refl}
use Rattle.std.specs.List.{slice_split}
use Rattle.std.proofs.Math.ListN.{replicate}
use Rattle.hub_path.specs.Path.{Path}
use Rattle.hub_glob.specs.Glob.{matches}
use Rattle.hub_glob.specs.Reading.{spec_reading}
use Rattle.hub_glob.specs.declared.fault.GlobFault.{GlobFault}
use Rattle.hub_glob.specs.declared.fault.GlobFault.TheVariants as fault
use Rattle.hub_glob.specs.declared.piece.Piece.{Piece}
use Rattle.hub_glob.specs.declared.piece.Piece.TheVariants.{Lit, Run}
use Rattle.hub_glob.specs.declared.piece.Part.TheVariants.{One, Brace}
use Rattle.hub_glob.specs.declared.path_spec.Kind.TheVariants as kind
use Rattle.hub_glob.specs.Specification.{Specification}

abbrev lits : List ℕ → List Piece
lits t = map Lit t

abbrev path : List ℕ → Path
path t = slice_split (λ c. c == 47) t

-- `Name *.{tmp, bak}`
abbrev tmp_or_bak : Specification
tmp_or_bak =
    record {
      kind = kind.Name;
      pattern =
          One Run ∷ One (Lit 46) ∷ Brace (lits (codes "tmp") ∷ lits (codes " bak") ∷ []) ∷ [];
    }

a_star_takes_what_stands_before_a_suffix : map (matches tmp_or_bak)
    (path (codes "x.tmp") ∷ path (codes "d/x.tmp") ∷ path (codes ".tmp") ∷ path (codes "x. bak")
    ∷ []) ≡ true ∷ true ∷ true ∷ true ∷ []
unfolding matches
a_star_takes_what_stands_before_a_suffix = refl

a_space_in_a_brace_counts_and_a_star_takes_no_leading_dot : map (matches tmp_or_bak)
    (path (codes "x.bak") ∷ path (codes ".x.tmp") ∷ []) ≡ false ∷ false ∷ []
unfolding matches
a_space_in_a_brace_counts_and_a_star_takes_no_leading_dot = refl

a_brace_is_read : spec_reading (codes "Name *.{tmp, bak}") ≡ Ok tmp_or_bak
a_brace_is_read = refl

abbrev err_part : Result Specification GlobFault → Option GlobFault
err_part (Ok x) = None
err_part (Err e) = Some e

abbrev fault_of : List ℕ → Option GlobFault
fault_of t = err_part (spec_reading t)

kinds_and_sets_have_faults : map fault_of
    (codes "Regex x" ∷ codes "Foo x" ∷ codes "Name" ∷ codes "Name [ab" ∷ codes "Name []"
    ∷ codes "Name [z-a]" ∷ codes "Name [!a]" ∷ [])
    ≡ Some fault.RegexLeftOut ∷ Some fault.NoKind ∷ Some fault.EmptyPattern
    ∷ Some fault.OpenBracket ∷ Some fault.BadRange ∷ Some fault.BadRange
    ∷ Some fault.NegatedSet ∷ []
kinds_and_sets_have_faults = refl

braces_escapes_and_slashes_have_faults : map fault_of
    (codes "Name {a" ∷ codes "Name {a,{b}}" ∷ codes "Name \\a" ∷ codes "Name a/b"
    ∷ codes "Path [a/]" ∷ codes "Path /a" ∷ codes "Name a]" ∷ codes "Path [z-/]" ∷ [])
    ≡ Some fault.OpenBrace ∷ Some fault.NestedBraces ∷ Some fault.BadEscape
    ∷ Some fault.SlashInName ∷ Some fault.SlashInSet ∷ Some fault.LeadingSlash ∷ None
    ∷ Some fault.BadRange ∷ []
braces_escapes_and_slashes_have_faults = refl

-- The limits: 200 letters, and 64 choices, which 63 commas separate.
a_pattern_of_200_characters_is_read : fault_of (codes "Name " ++ replicate 200 97) ≡ None
a_pattern_of_200_characters_is_read = refl

a_pattern_of_201_characters_is_too_long : fault_of (codes "Name " ++ replicate 201 97)
    ≡ Some fault.TooLong
a_pattern_of_201_characters_is_too_long = refl

a_pattern_of_64_choices_is_read : fault_of (codes "Name {" ++ replicate 63 44 ++ codes "}") ≡ None
a_pattern_of_64_choices_is_read = refl

a_pattern_of_65_choices_has_too_many : fault_of (codes "Name {" ++ replicate 64 44 ++ codes "}")
    ≡ Some fault.TooManyChoices
a_pattern_of_65_choices_has_too_many = refl
