use Rattle.std.proofs.Common.{◌<◌, ◌∙◌, ◌-◌, ◌++◌, [], ap, append-nil, refl, sym, take_all, arith}
use Rattle.std.specs.Vec.{vec_len}
use Rattle.hub_report.specs.Blocks.{bytes_in}
use Rattle.hub_report.proofs.Grown.{last-grown, when-err}
use Rattle.hub_report.proofs.blocks.BlocksWrite.write.Goals as goal

pub returns-in_err-extend_from_slice-in-Some-clause-bytes :
    goal.returns-in_err-extend_from_slice-in-Some-clause-bytes
returns-in_err-extend_from_slice-in-Some-clause-bytes c =
    let blocks = c.args.self.now.blocks in
    let some : 0 < vec_len blocks = c.in-Some.ensures.variant.0 refl in
    let same = c.in_err-extend_from_slice-in-Some.ensures.items ∙ ap (λ b. b.items) c.in-Some.ensures.value in
    let kept = last-grown (λ b. b.items) blocks.items (vec_len blocks - 1) c.in-Some.last.now c.extend_from_slice.new.self [] (omega (arith, blocks.ok.0, some)) (same ∙ sym (append-nil _)) in
    when-err c.from_residual.result _ _ c.from_residual.ensures.0 (kept ∙ append-nil _)

pub returns-in_ok-extend_from_slice-in-Some-clause-bytes :
    goal.returns-in_ok-extend_from_slice-in-Some-clause-bytes
returns-in_ok-extend_from_slice-in-Some-clause-bytes c =
    let blocks = c.args.self.now.blocks in
    let some : 0 < vec_len blocks = c.in-Some.ensures.variant.0 refl in
    let grown = c.in_ok-extend_from_slice-in-Some.ensures.items ∙ ap (λ b. b.items ++ c.args.bytes.now) c.in-Some.ensures.value in
    last-grown (λ b. b.items) blocks.items (vec_len blocks - 1) c.in-Some.last.now c.extend_from_slice.new.self c.args.bytes.now (omega (arith, blocks.ok.0, some)) grown
    ∙ ap (λ xs. bytes_in c.args.self.now ++ xs) (sym (take_all _ c.args.bytes.now (omega arith)))
