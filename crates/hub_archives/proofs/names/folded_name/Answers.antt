use Rattle.std.proofs.Common.{◌≡◌, ◌∙◌, sym, Option, chars}
use Rattle.std.proofs.lemmas.Result.{IfOk-weaker}
use Rattle.hub_path.specs.Path.{Name, name_in}
use Rattle.hub_archives.specs.Seen.{folded_name}
use Rattle.hub_archives.proofs.FoldedNames.{known_name, unknown_name}
use Rattle.hub_archives.proofs.names.folded_name.Goals as goal

pub returns-then-not-knows : goal.returns-then-not-knows
returns-then-not-knows c =
    unknown_name c.args.name.now c.text-text.result.now c.text-text.ensures.valid c.text-text.ensures.text
    (sym c.knows.ensures ∙ c.if-not-knows.true)

pub returns : goal.returns
returns c =
    IfOk-weaker c.from_text.result (λ (o : Option Name). o ≡ name_in (chars c.as_str.result.now))
    (λ o. o ≡ folded_name c.args.name.now)
    (λ o e. known_name c.args.name.now c.text-text.result.now c.as_str.result.now o c.text-text.ensures.valid c.text-text.ensures.text
    (c.as_str.ensures.value ∙ c.in_ok-folded.ensures) (sym c.knows.ensures ∙ c.if-not-knows.false) e)
    c.from_text.ensures.name
