use Rattle.std.proofs.Common.{◌≡◌, ◌++◌, drop, map}
use Rattle.hub_automaton.specs.Spots.{alternatives_of}
use Rattle.hub_automaton.proofs.builder.SpecSetBuilder.add_specs.Given as goal

abbrev pub invariant-loop-spec : goal.invariant-loop-spec
invariant-loop-spec l = l.self ++ map alternatives_of (drop l.spec-index l.specs) ≡ l.initial.self ++ map alternatives_of l.specs
