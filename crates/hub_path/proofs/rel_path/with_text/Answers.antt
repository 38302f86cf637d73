use Rattle.std.proofs.Common.{sym, ap, ◌∙◌, encode_utf8_all}
use Rattle.hub_path.specs.Path.{text_of}
use Rattle.hub_path.proofs.PathTexts.{whole-text}
use Rattle.hub_path.proofs.rel_path.with_text.Goals as goal

pub invariant_of-sharing : goal.invariant_of-sharing
invariant_of-sharing c =
    c.in_ok-text.ensures.ok ∙ (whole-text c.args.text.now c.utf8.text ∙ ap (λ p. encode_utf8_all (text_of p)) (sym c.requires.text))
