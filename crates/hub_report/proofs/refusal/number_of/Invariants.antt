use Rattle.std.proofs.Common.{◌≡◌, ◌+◌, drop}
use Rattle.hub_report.specs.Refusal.{number_of}
use Rattle.hub_report.proofs.refusal.number_of.Given as goal

abbrev pub invariant-loop-own : goal.invariant-loop-own
invariant-loop-own l = record {
  so_far : number_of l.goals l.goal ≡ number_of (drop l.own-index l.goals) l.goal + l.number;
  same : l.number ≡ l.own-index;
}
