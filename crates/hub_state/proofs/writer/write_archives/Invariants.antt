use Rattle.std.proofs.Common.{◌≡◌, false, List, ◌++◌, BTreeMap, String, Global}
use Rattle.std.specs.List.{flat_map}
use Rattle.hub_tree.specs.Tree.{Archive}
use Rattle.hub_state.specs.Devices.{Passes}
use Rattle.hub_state.specs.View.{by_two, pairs}
use Rattle.hub_state.specs.Writing.{archive_lines, joined_lines}
use Rattle.hub_state.proofs.Maps.{AllSorted}
use Rattle.hub_state.proofs.writer.write_archives.Given as goal

abbrev pub invariant-loop-first : goal.invariant-loop-first
invariant-loop-first g l =
    (es : List (String Global × BTreeMap (String Global) Archive)) × (es ++ l.first-iterator ≡ l.archives.entries)
    × Passes (g.W.Write.contents l.fn.output.device) (g.W.Write.contents l.output.device) l.fn.text.items l.text.items (joined_lines (flat_map archive_lines (pairs (by_two es))))
    × (l.output.failed ≡ false) × AllSorted (by_two es)
