use Rattle.std.proofs.Common.{◌++◌, string_bytes, ap, ◌∙◌, arith, lit<}
use Rattle.std.proofs.lemmas.Str.{encode_ascii}
use Rattle.hub_path.proofs.PathTexts.{first-text, longer-text}
use Rattle.hub_path.proofs.rel_path.longer.Goals as goal
use Rattle.hub_path.proofs.rel_path.longer.Goals.{then-len-gt0+in_ok-push_str+in_ok-push, else-len-gt0}

pub returns : goal.returns
returns c n e =
    elim c.if-len-gt0.branch [
      | then-len-gt0+in_ok-push_str+in_ok-push w ↦
          let front = w.in_ok-push_str.ensures.bytes ∙ ap (λ t. t ++ c.as_str-text.result.now) c.in_ok-longer.ensures.bytes ∙ c.as_str-text.ensures.text in
          let slash = encode_ascii 47 (lit< tt) in
          let all = ap string_bytes w.longer-is ∙ w.in_ok-push.ensures.bytes ∙ (λ i. front i ++ slash i) in
          c.in_ok-push_str-2.ensures.bytes ∙ (λ i. all i ++ e i) ∙ longer-text c.args.front.now n (omega (arith, w.if-len-gt0.true, c.len.ensures.len))
      | else-len-gt0 w ↦
          let none = ap string_bytes w.longer-is ∙ c.in_ok-longer.ensures.bytes in
          c.in_ok-push_str-2.ensures.bytes ∙ (λ i. none i ++ e i) ∙ first-text c.args.front.now n (omega (arith, w.if-len-gt0.false, c.len.ensures.len))
    ]
