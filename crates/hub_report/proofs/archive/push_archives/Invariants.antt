use Rattle.std.proofs.Common.{◌≡◌, ◌++◌, drop, string_bytes}
use Rattle.hub_report.specs.Archive.{archive_lines}
use Rattle.hub_report.proofs.archive.push_archives.Given as goal

abbrev pub invariant-loop-archive : goal.invariant-loop-archive
invariant-loop-archive l =
    string_bytes l.text ++ archive_lines l.profiles (drop l.archive-index l.archives)
    ≡ string_bytes l.initial.text ++ archive_lines l.profiles l.archives
