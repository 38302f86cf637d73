use Rattle.std.proofs.Common.{◌∙◌, ◌||◌, false, codes, refl}
use Rattle.hub_text.specs.laws.AsciiWords.{word_is}
use Rattle.hub_preferences.proofs.kind.names_no_root.Goals as goal

pub returns : goal.returns
returns c =
    let a = word_is (codes "newer") c.args.value.now c.utf8.value refl in
    let b = word_is (codes "older") c.args.value.now c.utf8.value refl in
    let d = word_is (codes "") c.args.value.now c.utf8.value refl in
    c.contains.ensures.value ∙ (λ i. (a i || (b i || (d i || false))))
