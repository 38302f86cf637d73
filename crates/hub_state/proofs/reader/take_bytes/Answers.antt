use Rattle.std.proofs.Common.{◌++◌, refl}
use Rattle.hub_state.specs.declared.reader.Prefix.{Prefix}
use Rattle.hub_state.proofs.Blocks.{continues-block}
use Rattle.hub_state.proofs.reader.take_bytes.Goals as goal

pub returns-then-not-has_line_end-clause-stands : goal.returns-then-not-has_line_end-clause-stands
returns-then-not-has_line_end-clause-stands c = λ before h.
    let more : Prefix = record c.args.prefix.now { rest = c.extend_from_slice.new.self } in
    continues-block before c.args.bytes.now c.args.prefix.now more h refl refl c.in_ok-extend_from_slice.ensures.items

pub returns-clause-stands : goal.returns-clause-stands
returns-clause-stands c = λ before h.
    let more : Prefix = record c.args.prefix.now { rest = c.extend_from_slice.new.self } in
    c.take_whole_lines.ensures.stands (before ++ c.args.bytes.now) (continues-block before c.args.bytes.now c.args.prefix.now more h refl refl c.in_ok-extend_from_slice.ensures.items)
