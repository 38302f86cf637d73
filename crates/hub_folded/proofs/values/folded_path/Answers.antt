use Rattle.std.proofs.Common.{◌∙◌, sym}
use Rattle.hub_folded.specs.Table.{unicode}
use Rattle.hub_folded.proofs.KnownParts.{path-known, path-unknown}
use Rattle.hub_folded.proofs.values.folded_path.Goals as goal

pub returns-then-len : goal.returns-then-len
returns-then-len c =
    path-known unicode c.args.path.now c.in_ok-part.part c.in_ok-part.ensures
    (sym c.len.ensures.len ∙ (c.if-len.true ∙ c.len-2.ensures.len))

pub returns : goal.returns
returns c =
    path-unknown unicode c.args.path.now c.in_ok-part.part c.in_ok-part.ensures
    (λ e. c.if-len.false (c.len.ensures.len ∙ (e ∙ sym c.len-2.ensures.len)))
