use Rattle.std.proofs.Common.{◌≡◌, ◌+◌, ◌++◌, drop, string_bytes}
use Rattle.hub_report.specs.Rounds.{lines_of_rounds}
use Rattle.hub_report.proofs.rounds.push_rounds.Given as goal

abbrev pub invariant-loop-round : goal.invariant-loop-round
invariant-loop-round l = record {
  same : l.number ≡ l.round-index;
  so_far : string_bytes l.text ++ lines_of_rounds (l.round-index + 1) (drop l.round-index l.rounds)
      ≡ string_bytes l.initial.text ++ lines_of_rounds 1 l.rounds;
}
