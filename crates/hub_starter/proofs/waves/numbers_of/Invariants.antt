use Rattle.std.proofs.Common.{◌≡◌, length}
use Rattle.hub_starter.specs.Waves.{AreLow, RiseBy}
use Rattle.hub_starter.proofs.waves.numbers_of.Given as goal

abbrev pub invariant-loop : goal.invariant-loop
invariant-loop l = record {
  count : length l.numbers.items ≡ l.counter;
  rise : RiseBy l.profiles l.pairs l.numbers.items;
  low : AreLow l.numbers.items;
}
