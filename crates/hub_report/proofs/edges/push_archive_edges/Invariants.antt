use Rattle.std.proofs.Common.{◌≡◌, ◌++◌, drop, string_bytes}
use Rattle.hub_report.specs.Graph.{archive_edges, joined_by_archives}
use Rattle.hub_report.proofs.edges.push_archive_edges.Given as goal

abbrev pub invariant-loop-archive : goal.invariant-loop-archive
invariant-loop-archive l = record {
  text : string_bytes l.text ++ archive_edges l.profiles l.joined.items (drop l.archive-index l.archives)
      ≡ string_bytes l.initial.text ++ archive_edges l.profiles l.initial.joined.items l.archives;
  joined : joined_by_archives l.joined.items (drop l.archive-index l.archives) ≡ joined_by_archives l.initial.joined.items l.archives;
}
