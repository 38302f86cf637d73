use Rattle.std.proofs.Common.{◌≡◌, [], ◌∷◌, ◌++◌, IfOk, ap, sym, ◌∙◌, subst, string_bytes, encode_utf8_all}
use Rattle.hub_folded.specs.Table.{folded_character, image_in}
use Rattle.hub_folded.proofs.Texts.{ascii-folds, other-folds, pushed}
use Rattle.hub_folded.proofs.fold.push_folded.Goals as goal

pub returns-then-is_ascii : goal.returns-then-is_ascii
returns-then-is_ascii c =
    let e : folded_character c.args.c ≡ c.to_ascii_lowercase.result ∷ [] =
    ascii-folds c.args.c (sym c.is_ascii.ensures ∙ c.if-is_ascii.true)
    ∙ ap (λ d. d ∷ []) (sym c.to_ascii_lowercase.ensures.value) in
    pushed c.push.result (string_bytes c.args.text.now) (string_bytes c.push.new.self)
    c.to_ascii_lowercase.result (folded_character c.args.c) e c.push.ensures.bytes

pub returns-in-Some : goal.returns-in-Some
returns-in-Some c =
    let e : folded_character c.args.c ≡ image_in c.in-Some.image =
    other-folds c.args.c (sym c.is_ascii.ensures ∙ c.if-is_ascii.false) ∙ c.in-Some.ensures.row in
    subst (λ t. IfOk c.push_image.result
    (λ x. string_bytes c.push_image.new.text ≡ string_bytes c.args.text.now ++ encode_utf8_all t))
    (sym e) c.push_image.ensures

pub returns-in-None : goal.returns-in-None
returns-in-None c =
    let e : folded_character c.args.c ≡ c.args.c ∷ [] =
    other-folds c.args.c (sym c.is_ascii.ensures ∙ c.if-is_ascii.false) ∙ c.in-None.ensures.none in
    pushed c.push-in-None.result (string_bytes c.args.text.now) (string_bytes c.push-in-None.new.self)
    c.args.c (folded_character c.args.c) e c.push-in-None.ensures.bytes
