-- Worked values: readings beside rules, lines of two readings, and what is put back to its place.
use Rattle.std.specs.Prelude.{◌≡◌, ℕ, true, false, [], ◌∷◌, ◌++◌, codes, map, refl}
use Rattle.std.proofs.Common.{arith, inl}
use Rattle.hub_path.specs.Path.{path_of}
use Rattle.hub_path.specs.declared.side.Side.TheVariants.{Left}
use Rattle.hub_glob.specs.Specification.{Specification}
use Rattle.hub_glob.specs.declared.path_spec.Kind.TheVariants.{Name}
use Rattle.hub_profile.specs.Parts.{Parts}
use Rattle.hub_profile.specs.Protection.{no_bars}
use Rattle.hub_profile.specs.declared.verb.Verb.TheVariants.{Delete}
use Rattle.hub_profile.specs.declared.rule.Rule.{Rule}
use Rattle.hub_profile.specs.examples.Profiles.{hub, of_kept, s1, s2, between}
use Rattle.hub_cert.specs.declared.fault.CheckFault.{CheckFault}
use Rattle.hub_cert.specs.declared.fault.CheckFault.TheVariants as fault
use Rattle.hub_cert.specs.declared.goal.Place.TheVariants.{Replica}
use Rattle.hub_rounds.specs.Lines.{names_pair, subject_of}
use Rattle.hub_apart.specs.ApartLines.{HasLinesOfTwo, line_among, nested_line}
use Rattle.hub_apart.specs.UnisonLines.{beside, cautious, put_back, wide}

-- Some specification, a rule, and a profile that ignores what the specification matches and creates
-- nothing at the hub.
abbrev some : Specification
some = record { kind = Name; pattern = [] }

abbrev rule : Rule
rule = record { root = hub; verb = Delete; spec = some }

abbrev docs : Parts
docs = of_kept (codes "docs")

abbrev guarded : Parts
guarded = record docs {
  ignore = some ∷ [];
  bars = (record no_bars { create = true }) ∷ no_bars ∷ [];
}

-- beside a rule nothing is ignored, and `nocreation` alone is no bar
guarded_beside_a_rule : wide guarded ≡ docs
guarded_beside_a_rule = refl

-- a profile of plain lines alone is its own reading, with a rule and without one
docs_as_read : beside (rule ∷ []) (docs ∷ []) ++ beside [] (docs ∷ []) ≡ docs ∷ docs ∷ []
docs_as_read = refl

-- One profile of all of the hub, and one of a folder there, whose root is lower.
abbrev whole : Parts
whole = between (codes "whole") hub s1 []

abbrev lower : Parts
lower = between (codes "lower") s2 (hub ++ path_of (codes "home")) (path_of (codes "a"))

-- two readings with nested roots have that line
nested_readings : HasLinesOfTwo (cautious (whole ∷ lower ∷ [])) 0 1 (nested_line 0 1 ∷ [])
nested_readings = record {
  first = whole;
  second = lower;
  before = omega arith;
  at_first = refl;
  at_second = refl;
  lines = inl (refl, refl);
}

-- a line of two readings is about both, either way round, and about no other two
abbrev overlap : CheckFault
overlap = fault.Overlap 1 0 (Replica Left) (path_of (codes "a")) (path_of (codes "a/b"))

numbers_of_pairs :
    map (λ (p : ℕ × ℕ). names_pair (subject_of (line_among 3 5 overlap)) p.0 p.1)
    ((3, 5) ∷ (5, 3) ∷ (3, 4) ∷ (0, 1) ∷ [])
    ≡ true ∷ true ∷ false ∷ false ∷ []
numbers_of_pairs = refl

-- what is put back comes to its place, and the one there goes to the end
put_back_first : put_back (lower ∷ docs ∷ []) 0 whole ≡ whole ∷ docs ∷ lower ∷ []
put_back_first = refl

put_back_last : put_back (whole ∷ docs ∷ []) 2 lower ≡ whole ∷ docs ∷ lower ∷ []
put_back_last = refl
