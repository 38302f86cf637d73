use Rattle.std.proofs.Common.{◌≡◌, ◌∙◌, IfOk, subst}
use Rattle.hub_nested.specs.Lifted.{literal}
use Rattle.hub_nested.proofs.SaidParts.{text-chars}
use Rattle.hub_nested.proofs.pieces.literal.Goals as goal

pub returns : goal.returns
returns c =
    subst (λ t. IfOk c.literals.result (λ ps. ps ≡ literal t))
    (text-chars c.args.path.now c.as_str.result.now c.len-valid.ensures.valid (c.as_str.ensures.value ∙ c.in_ok-text.ensures))
    c.literals.ensures
