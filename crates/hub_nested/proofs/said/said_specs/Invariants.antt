use Rattle.std.proofs.Common.{◌≡◌, ◌++◌, true, map, take}
use Rattle.std.specs.List.{list_all}
use Rattle.hub_unison.specs.ReadingOf.{is_read_back}
use Rattle.hub_nested.specs.Lifted.{said_spec}
use Rattle.hub_nested.proofs.said.said_specs.Given as goal

abbrev pub invariant-loop-spec : goal.invariant-loop-spec
invariant-loop-spec l = record {
  list : l.list ≡ l.initial.list ++ map (said_spec l.names) (take l.spec-index l.specs);
  said : list_all (λ s. is_read_back (said_spec l.names s)) (take l.spec-index l.specs) ≡ true;
}
