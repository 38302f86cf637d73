use Rattle.std.proofs.Common.{◌≡◌, [], ◌∷◌, ◌++◌, IfOk, ap, sym, ◌∙◌, subst}
use Rattle.hub_folded.specs.Table.{folded_character, image_in}
use Rattle.hub_folded.proofs.Texts.{ascii-folds, other-folds}
use Rattle.hub_folded.proofs.fold.push_characters.Goals as goal

pub returns-then-is_ascii : goal.returns-then-is_ascii
returns-then-is_ascii c =
    let e : folded_character c.args.c ≡ c.to_ascii_lowercase.result ∷ [] =
    ascii-folds c.args.c (sym c.is_ascii.ensures ∙ c.if-is_ascii.true)
    ∙ ap (λ d. d ∷ []) (sym c.to_ascii_lowercase.ensures.value) in
    c.in_ok-push.ensures.ok ∙ ap (λ t. c.args.list.now ++ t) (sym e)

pub returns-in-Some : goal.returns-in-Some
returns-in-Some c =
    let e : folded_character c.args.c ≡ image_in c.in-Some.image =
    other-folds c.args.c (sym c.is_ascii.ensures ∙ c.if-is_ascii.false) ∙ c.in-Some.ensures.row in
    subst (λ t. IfOk c.push_all_shown.result (λ x. c.push_all_shown.new.list ≡ c.args.list.now ++ t))
    (sym e) c.push_all_shown.ensures

pub returns-in_ok-push-in-None : goal.returns-in_ok-push-in-None
returns-in_ok-push-in-None c =
    let e : folded_character c.args.c ≡ c.args.c ∷ [] =
    other-folds c.args.c (sym c.is_ascii.ensures ∙ c.if-is_ascii.false) ∙ c.in-None.ensures.none in
    c.in_ok-push-in-None.ensures.ok ∙ ap (λ t. c.args.list.now ++ t) (sym e)
