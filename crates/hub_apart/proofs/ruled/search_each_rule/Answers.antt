use Rattle.std.proofs.Common.{◌≡◌, ◌∙◌, inr, Some, ap, sym}
use Rattle.std.proofs.lemmas.Option.{slice_get-get_or}
use Rattle.std.specs.Prelude.{slice_get}
use Rattle.hub_text.specs.laws.Fails.{passed-up}
use Rattle.hub_apart.specs.NestedLines.{IsRefusedRules}
use Rattle.hub_apart.proofs.NestedParts.{no-rules, one-rule-more}
use Rattle.hub_apart.proofs.ruled.search_each_rule.Goals as goal

pub returns-in_err-search_rule-clause-refused : goal.returns-in_err-search_rule-clause-refused
returns-in_err-search_rule-clause-refused c =
    let at : slice_get c.args.rules.now c.loop-k.k ≡ Some c.index-rules-k.result =
    slice_get-get_or c.args.rules.now c.loop-k.k c.index-rules-k.result c.loop-k-test.true ∙ ap Some (sym c.index-rules-k.is) in
    passed-up c.from_residual.result c.in_err-search_rule.field-0.0 (IsRefusedRules c.args.profile.now c.args.rules.now) c.from_residual.ensures.1
    (inr (c.loop-k.k, c.index-rules-k.result, at, c.in_err-search_rule.ensures.refused))

pub loop-k-preserved : goal.loop-k-preserved
loop-k-preserved c =
    let at : slice_get c.args.rules.now c.loop-k.k ≡ Some c.index-rules-k.result =
    slice_get-get_or c.args.rules.now c.loop-k.k c.index-rules-k.result c.loop-k-test.true ∙ ap Some (sym c.index-rules-k.is) in
    one-rule-more c.args.profile.now c.args.rules.now c.args.number c.loop-k.k c.index-rules-k.result c.args.lines.now.items c.loop-k.lines.items
    c.search_rule.new.lines.items at c.loop-k.invariant c.in_ok-search_rule.ensures.lines
