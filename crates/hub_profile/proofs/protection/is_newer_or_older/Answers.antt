use Rattle.std.proofs.Common.{◌∙◌, ◌||◌, false, codes, refl}
use Rattle.hub_text.specs.laws.AsciiWords.{word_is}
use Rattle.hub_profile.proofs.protection.is_newer_or_older.Goals as goal

pub returns : goal.returns
returns c =
    let a = word_is (codes "newer") c.args.value.now c.utf8.value refl in
    let b = word_is (codes "older") c.args.value.now c.utf8.value refl in
    c.contains.ensures.value ∙ (λ i. a i || (b i || false))
