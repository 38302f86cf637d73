use Rattle.std.proofs.Common.{◌≡◌, ◌∙◌, sym, Option, Some, None}
use Rattle.std.specs.Prelude.{if◌then◌else◌}
use Rattle.std.proofs.lemmas.Result.{IfOk-weaker}
use Rattle.std.specs.Prelude.{chars}
use Rattle.hub_path.specs.Path.{Name, name_in}
use Rattle.hub_folded.specs.Fold.{fold_name, knows}
use Rattle.hub_folded.specs.Table.{unicode}
use Rattle.hub_folded.proofs.FoldedName.{folded-name, unknown-name}
use Rattle.hub_folded.proofs.values.folded_name.Goals as goal

pub returns-then-not-knows : goal.returns-then-not-knows
returns-then-not-knows c =
    unknown-name c.args.name.now c.text-text.result.now c.text-text.ensures.valid c.text-text.ensures.text
    (sym c.knows.ensures ∙ c.if-not-knows.true)

pub returns : goal.returns
returns c =
    IfOk-weaker c.from_text.result (λ (o : Option Name). o ≡ name_in (chars c.as_str.result.now))
    (λ o. o ≡ (if knows unicode c.args.name.now then Some (fold_name unicode c.args.name.now) else None))
    (λ o e. folded-name c.args.name.now c.text-text.result.now c.as_str.result.now o c.text-text.ensures.valid c.text-text.ensures.text
    (c.as_str.ensures.value ∙ c.in_ok-folded.ensures) (sym c.knows.ensures ∙ c.if-not-knows.false) e)
    c.from_text.ensures.name
