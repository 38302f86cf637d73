use Rattle.std.proofs.Common.{◌||◌, false, List, ℕ, length, take, subst, sym, ap, ◌∙◌, arith}
use Rattle.std.specs.Io.KnownBytes.{Appends}
use Rattle.std.specs.List.{flat_map}
use Rattle.std.proofs.KnownBytes.{Appends-nil}
use Rattle.std.proofs.lemmas.List.{take_all}
use Rattle.hub_report.specs.Blocks.{bytes_in}
use Rattle.hub_serve.proofs.Parts.{block_bytes, cut_off, grown}
use Rattle.hub_serve.proofs.program.write_blocks.Goals as goal

pub loop-block-init : goal.loop-block-init
loop-block-init g c = (Appends-nil (g.W.Write.contents c.args.output.now.device), c.requires)

pub loop-block-preserved : goal.loop-block-preserved
loop-block-preserved g c = (
  grown block_bytes c.as_slice-blocks.result.now c.loop-block.block-index c.block-item.result c.as_slice.result.now
      (g.W.Write.contents c.args.output.now.device) (g.W.Write.contents c.loop-block.output.device) (g.W.Write.contents c.write_all.new.self.device)
      (omega arith) c.block-item.is c.as_slice.ensures.value c.loop-block.invariant.0 c.in_ok-write_all.ensures.bytes,
  c.in_ok-write_all.ensures.failed ∙ ap (λ b. b || false) c.loop-block.invariant.1,
)

pub returns-in_err-write_all-clause-prefix : goal.returns-in_err-write_all-clause-prefix
returns-in_err-write_all-clause-prefix g c =
    let old = g.W.Write.contents c.args.output.now.device in
    let new = g.W.Write.contents c.write_all.new.self.device in
    let prefix = c.in_err-write_all.ensures.prefix in
    subst (λ (xs : List ℕ). (m : ℕ) × Appends old new (take m xs)) c.as_slice-blocks.ensures
    (cut_off block_bytes c.as_slice-blocks.result.now c.loop-block.block-index c.block-item.result c.as_slice.result.now
    old (g.W.Write.contents c.loop-block.output.device) new prefix.0
    (omega arith) c.block-item.is c.as_slice.ensures.value c.loop-block.invariant.0 prefix.1)

pub returns-clause-prefix : goal.returns-clause-prefix
returns-clause-prefix g c =
    let old = g.W.Write.contents c.args.output.now.device in
    let mid = g.W.Write.contents c.loop-block.output.device in
    let bs = c.as_slice-blocks.result.now in
    let text : List ℕ = bytes_in c.args.text.now in (
      length text,
      subst (Appends old mid) (ap (flat_map block_bytes) (take_all c.loop-block.block-index bs (omega arith)) ∙ c.as_slice-blocks.ensures ∙ sym (take_all (length text) text (omega arith)))
          c.loop-block.invariant.0,
    )
