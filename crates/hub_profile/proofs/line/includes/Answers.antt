use Rattle.std.proofs.Common.{◌∙◌, ◌||◌, false, codes, refl}
use Rattle.hub_text.specs.laws.AsciiWords.{word_is}
use Rattle.hub_profile.proofs.line.includes.Goals as goal

pub returns : goal.returns
returns c =
    let a = word_is (codes "include") c.args.word.now c.utf8.word refl in
    let b = word_is (codes "source") c.args.word.now c.utf8.word refl in
    let d = word_is (codes "include?") c.args.word.now c.utf8.word refl in
    let e = word_is (codes "source?") c.args.word.now c.utf8.word refl in
    c.contains.ensures.value ∙ (λ i. a i || (b i || (d i || (e i || false))))
