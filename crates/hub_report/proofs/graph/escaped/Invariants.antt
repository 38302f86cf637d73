use Rattle.std.proofs.Common.{◌≡◌, string_bytes}
use Rattle.std.specs.List.{flat_map}
use Rattle.hub_report.specs.Graph.{in_quotes}
use Rattle.hub_report.proofs.graph.escaped.Given as goal

abbrev pub invariant-loop-character : goal.invariant-loop-character
invariant-loop-character l = string_bytes l.shown ≡ flat_map in_quotes l.yielded
