use Rattle.std.proofs.Common.{◌≡◌, ◌++◌, true, map, take}
use Rattle.std.specs.List.{list_all}
use Rattle.hub_unison.specs.ReadingOf.{is_read_back}
use Rattle.hub_nested.specs.Lifted.{said_spec}
use Rattle.hub_nested.specs.Said.{said_bar}
use Rattle.hub_nested.proofs.said.said_bars.Given as goal

abbrev pub invariant-loop-bar : goal.invariant-loop-bar
invariant-loop-bar l = record {
  list : l.list ≡ l.initial.list ++ map (said_bar l.names) (take l.bar-index l.bars);
  said : list_all (λ b. is_read_back (said_spec l.names b.spec)) (take l.bar-index l.bars) ≡ true;
}
