use Rattle.std.proofs.Common.{◌≡◌, ◌+◌, ◌*◌, ◌≤◌, length, map}
use Rattle.hub_text.specs.Lines as lines
use Rattle.hub_include.specs.Files.{known_of}
use Rattle.hub_include.specs.Includes as includes
use Rattle.hub_include.specs.Includes.{of_line}
use Rattle.hub_include.proofs.lines.Walk.+lines.Given as goal

abbrev pub decreases-push_file : goal.decreases-push_file
decreases-push_file l = 3 * l.left

abbrev pub decreases-push_line : goal.decreases-push_line
decreases-push_line l = 3 * l.left + 1

abbrev pub decreases-push_lines : goal.decreases-push_lines
decreases-push_lines l = 3 * l.left + 2

abbrev pub invariant-push_lines-loop-line : goal.invariant-push_lines-loop-line
invariant-push_lines-loop-line l =
    let known = known_of l.self.folder.now in
    let opened = map (λ o. o.now) l.opened in
    let follow = includes.follow known l.left opened in
    record {
      told : includes.add_lines follow known opened l.fn.file.name.now l.number (lines.lines_of l.rest)
          (map of_line l.lines.items)
          ≡ includes.add_file follow known opened (record { name = l.fn.file.name.now; bytes = l.fn.file.bytes.now })
          (map of_line l.fn.lines.items);
      fewer : l.number + length l.rest ≤ length l.fn.file.bytes.now + 1;
    }

abbrev pub decreases-push_lines-loop-line : goal.decreases-push_lines-loop-line
decreases-push_lines-loop-line l = length l.rest
