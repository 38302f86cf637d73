use Rattle.std.proofs.Common.{◌++◌, string_bytes, encode_utf8_all, ap, sym, ◌∙◌, lit<, arith}
use Rattle.std.proofs.lemmas.List.{take_all}
use Rattle.std.proofs.lemmas.Str.{encode_ascii}
use Rattle.hub_path.specs.Path.{text_of}
use Rattle.hub_path.proofs.PathFacts.{joined-first, joined-later}
use Rattle.hub_path.proofs.rel_path.joined.Goals as goal
use Rattle.hub_path.proofs.rel_path.joined.Goals.{then-i-gt0+in_ok-push, else-i-gt0}

pub loop-i-preserved : goal.loop-i-preserved
loop-i-preserved c =
    elim c.if-i-gt0.branch [
      | then-i-gt0+in_ok-push w ↦
          let slash = encode_ascii 47 (lit< tt) in
          let more = joined-later c.args.names.now c.loop-i.i c.index-names-i.result (omega arith) c.index-names-i.is (omega arith) in
          let front = ap string_bytes w.text-is ∙ w.in_ok-push.ensures.bytes ∙ (λ i. c.loop-i.invariant i ++ slash i) in
          c.in_ok-push_str.ensures.bytes ∙ (λ i. front i ++ c.text.ensures.text i) ∙ sym more
      | else-i-gt0 w ↦
          let more = joined-first c.args.names.now c.loop-i.i c.index-names-i.result (omega arith) c.index-names-i.is (omega arith) in
          let front = ap string_bytes w.text-is ∙ c.loop-i.invariant in
          c.in_ok-push_str.ensures.bytes ∙ (λ i. front i ++ c.text.ensures.text i) ∙ sym more
    ]

pub returns : goal.returns
returns c = c.loop-i.invariant ∙ ap (λ p. encode_utf8_all (text_of p)) (take_all c.loop-i.i c.args.names.now (omega arith))
