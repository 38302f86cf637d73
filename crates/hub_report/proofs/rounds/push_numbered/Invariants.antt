use Rattle.std.proofs.Common.{◌≡◌, ◌+◌, ◌++◌, drop, string_bytes}
use Rattle.hub_report.specs.Rounds.{lines_of_numbers}
use Rattle.hub_report.proofs.rounds.push_numbered.Given as goal

abbrev pub invariant-loop-round : goal.invariant-loop-round
invariant-loop-round l = record {
  same : l.number ≡ l.round-index;
  so_far : string_bytes l.text ++ lines_of_numbers l.profiles (l.round-index + 1) (drop l.round-index l.rounds)
      ≡ string_bytes l.initial.text ++ lines_of_numbers l.profiles 1 l.rounds;
}
