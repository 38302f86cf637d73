use Rattle.std.proofs.Common.{◌∙◌, ap, subst, chars, IsUtf8}
use Rattle.hub_text.specs.laws.Ascii.{stripped}
use Rattle.hub_text.proofs.text.without_last.Goals as goal

pub returns : goal.returns
returns c =
    ap (λ x. chars x.now) c.unwrap_or.ensures ∙ stripped c.args.c c.args.text c.strip_suffix.result c.requires.ascii c.utf8.text (subst (λ x. IsUtf8 x.now) c.unwrap_or.ensures c.unwrap_or.utf8) c.strip_suffix.ensures.cases
