use Rattle.hub_text.specs.Takes.{of_bytes}
use Rattle.hub_state.specs.Taking.{IsApart}
use Rattle.hub_state.proofs.Blocks.{IsAt}
use Rattle.hub_state.proofs.reader.take_lines.Given as goal

abbrev pub invariant-loop-next : goal.invariant-loop-next
invariant-loop-next l = IsAt l.fn.number l.fn.draft l.bytes l.number l.draft (of_bytes l.line) l.next-iterator × IsApart l.draft.current
