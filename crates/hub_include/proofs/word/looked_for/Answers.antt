use Rattle.std.proofs.Common.{◌≡◌, true, false, ◌∙◌, ◌==◌, Some, string_bytes, refl, sym, ap, subst, IsUtf8, length}
use Rattle.std.specs.Str.{is_utf8}
use Rattle.std.proofs.lemmas.Bool.{false≢true, false_from_ne_true}
use Rattle.std.proofs.lemmas.Str.{IsUtf8-string_bytes, is_utf8-from_IsUtf8, IsUtf8-from_is_utf8}
use Rattle.hub_include.proofs.word.looked_for.Goals as goal

pub returns-in-Ok : goal.returns-in-Ok
returns-in-Ok c =
    let same : string_bytes c.in-Ok.name ≡ c.args.name.items = ap (λ v. v.items) c.in-Ok.ensures.ok in
    let text : is_utf8 c.args.name.items ≡ true = is_utf8-from_IsUtf8 c.args.name.items (subst IsUtf8 same (IsUtf8-string_bytes c.in-Ok.name)) in
    let some : (length c.args.name.items == 0) ≡ false = ap (λ n. n == 0) (sym c.args.name.ok.0) ∙ (sym c.is_empty.ensures ∙ c.if-is_empty.false) in
    rw (some, text) (ap Some same)

pub returns : goal.returns
returns c =
    let no_text = false_from_ne_true _ (λ h. false≢true (c.in-Err.ensures.succeeds (IsUtf8-from_is_utf8 c.args.name.items h))) in
    let some : (length c.args.name.items == 0) ≡ false = ap (λ n. n == 0) (sym c.args.name.ok.0) ∙ (sym c.is_empty.ensures ∙ c.if-is_empty.false) in
    rw (some, no_text) refl
