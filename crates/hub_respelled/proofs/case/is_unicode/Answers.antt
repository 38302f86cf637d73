use Rattle.std.proofs.Common.{◌∙◌, ◌||◌, false, codes, refl}
use Rattle.hub_text.specs.laws.AsciiWords.{word_is}
use Rattle.hub_respelled.proofs.case.is_unicode.Goals as goal

pub returns : goal.returns
returns c =
    let a = word_is (codes "true") c.args.value.now c.utf8.value refl in
    let b = word_is (codes "default") c.args.value.now c.utf8.value refl in
    c.contains.ensures.value ∙ (λ i. (a i || (b i || false)))
