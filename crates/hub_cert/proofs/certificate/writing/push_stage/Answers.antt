use Rattle.std.proofs.Common.{◌∙◌, ◌++◌, [], ◌∷◌, cond, string_bytes, refl, sym, ap}
use Rattle.std.specs.Prelude.{chars, codes}
use Rattle.hex.specs.Hex.{encode_lower}
use Rattle.hub_cert.proofs.Pushed.{pushed-stage}
use Rattle.hub_cert.proofs.certificate.writing.push_stage.Goals.{then-is_empty+in_ok-push_str-2, else-is_empty+in_ok-encode+in_ok-push_str-3}
use Rattle.hub_cert.proofs.certificate.writing.push_stage.Goals as goal

pub returns : goal.returns
returns c =
    let bs = c.args.text.now in
    let a = string_bytes c.args.out.now in
    let b = string_bytes c.push_str.new.self in
    let d = string_bytes c.push_str-2.new.self in
    elim c.if-is_empty.branch [
      | then-is_empty+in_ok-push_str-2 w ↦
          pushed-stage a b (string_bytes w.push_str-then-is_empty.new.self) d bs (chars bs) (codes "-") c.utf8.text refl
          (ap (λ e. cond e (codes "-") (encode_lower bs)) (sym c.is_empty.ensures ∙ w.if-is_empty.true))
          c.in_ok-push_str.ensures.bytes
          w.in_ok-push_str-2.ensures.bytes
          (c.in_ok-push_str-4.ensures.bytes ∙ ap (λ s. string_bytes s ++ 10 ∷ []) w.out-is)
      | else-is_empty+in_ok-encode+in_ok-push_str-3 w ↦
          pushed-stage a b (string_bytes w.push_str-else-is_empty.new.self) d bs (chars bs) (encode_lower bs) c.utf8.text refl
          (ap (λ e. cond e (codes "-") (encode_lower bs)) (sym c.is_empty.ensures ∙ w.if-is_empty.false))
          c.in_ok-push_str.ensures.bytes
          (w.in_ok-push_str-3.ensures.bytes ∙ ap (λ l. b ++ l) (w.as_str.ensures.value ∙ (w.in_ok-encode.ensures ∙ ap encode_lower w.as_bytes.ensures.value)))
          (c.in_ok-push_str-4.ensures.bytes ∙ ap (λ s. string_bytes s ++ 10 ∷ []) w.out-is)
    ]
