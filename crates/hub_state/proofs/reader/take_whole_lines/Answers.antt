use Rattle.std.proofs.Common.{List, ℕ, subst}
use Rattle.std.specs.Option.{option_map}
use Rattle.hub_text.specs.Takes.{of_bytes}
use Rattle.hub_state.specs.declared.reader.Prefix.{Prefix}
use Rattle.hub_state.specs.Blocks.{Leaves}
use Rattle.hub_state.proofs.Blocks.{continues-lines}
use Rattle.hub_state.proofs.reader.take_whole_lines.Goals as goal

pub returns-clause-stands : goal.returns-clause-stands
returns-clause-stands c = λ bytes h.
    let before : Prefix = c.args.prefix.now in
    let left : Prefix = record { draft = c.take_lines.new.draft; number = c.take_lines.new.number; rest = c.in_ok-left.left } in
    continues-lines bytes before left (option_map of_bytes c.in_ok-last.last) h
    (subst (λ (s : List ℕ). Leaves before.number before.draft s c.take_lines.new.number c.take_lines.new.draft (option_map of_bytes c.in_ok-last.last)) c.as_slice.ensures.value c.in_ok-last.ensures.left)
    c.in_ok-left.ensures
