use Rattle.std.proofs.Common.{◌≡◌, ◌∙◌, ◌==◌, Some, bytes_eq, chars, string_bytes, sym, ap, subst, IsUtf8}
use Rattle.std.proofs.lemmas.Bool.{false≢true}
use Rattle.std.proofs.lemmas.Str.{IsUtf8-string_bytes, chars-nil}
use Rattle.hub_cert.proofs.Digits.{read-empty, read-none, read-some}
use Rattle.hub_cert.proofs.certificate.row.read_text.Goals as goal

pub returns-then-eq : goal.returns-then-eq
returns-then-eq c =
    ap Some (c.new-then-eq.ensures ∙ (ap chars c.new.ensures.bytes ∙ chars-nil))
    ∙ sym (read-empty c.args.digits.now (ap (λ x. bytes_eq c.args.digits.now x) (sym c.as_slice.ensures) ∙ (sym c.eq.ensures ∙ c.if-eq.true)))

pub returns-in-Ok-from_utf8 : goal.returns-in-Ok-from_utf8
returns-in-Ok-from_utf8 c =
    let bs = c.in-Ok.bytes.items in
    let same : string_bytes c.in-Ok-from_utf8.text ≡ bs = ap (λ v. v.items) c.in-Ok-from_utf8.ensures.ok in
    ap Some (c.new-in-Ok-from_utf8.ensures ∙ ap chars same)
    ∙ sym (read-some c.args.digits.now bs (ap (λ x. bytes_eq c.args.digits.now x) (sym c.as_slice.ensures) ∙ (sym c.eq.ensures ∙ c.if-eq.false)) c.in-Ok.ensures.ok (ap (λ n. n == 0) (sym c.in-Ok.bytes.ok.0) ∙ (sym c.is_empty.ensures ∙ c.if-is_empty.false)) (subst IsUtf8 same (IsUtf8-string_bytes c.in-Ok-from_utf8.text)))

pub returns-in-Ok : goal.returns-in-Ok
returns-in-Ok c =
    sym (read-none c.args.digits.now c.in-Ok.bytes.items (ap (λ x. bytes_eq c.args.digits.now x) (sym c.as_slice.ensures) ∙ (sym c.eq.ensures ∙ c.if-eq.false)) c.in-Ok.ensures.ok (λ u. false≢true (c.in-Err-from_utf8.ensures.succeeds u)))
