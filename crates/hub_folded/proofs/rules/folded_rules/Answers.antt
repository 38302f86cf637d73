use Rattle.std.proofs.Common.{◌≡◌, ◌∙◌, ap, arith, map, sym, true, None}
use Rattle.std.specs.List.{list_all}
use Rattle.hub_profile.specs.declared.rule.Rule.{Rule}
use Rattle.hub_folded.specs.Lines.{fold_rule, knows_line, some_fold}
use Rattle.hub_folded.specs.Rules.{first_unknown}
use Rattle.hub_folded.specs.Table.{unicode}
use Rattle.hub_folded.proofs.Lists.{none-if}
use Rattle.hub_folded.proofs.UnknownRules.{known-spelled, none-unknown}
use Rattle.hub_folded.proofs.rules.folded_rules.Goals as goal

pub returns-in-Some-2-clause-known : goal.returns-in-Some-2-clause-known
returns-in-Some-2-clause-known c some =
    none-unknown unicode c.args.rules
    (ap (first_unknown unicode) (sym c.as_slice.ensures.value) ∙ (sym c.in_ok-number.ensures ∙ c.in_default.is))

pub returns-clause-err : goal.returns-clause-err
returns-clause-err c =
    let Rs = c.args.rules in
    let some : some_fold c.args.members.now ≡ true =
    grind (arith, c.if-not-some_fold.ensures, c.if-not-some_fold.false, c.some_fold.ensures) in
    let none : first_unknown unicode Rs ≡ None =
    ap (first_unknown unicode) (sym c.as_slice.ensures.value) ∙ (sym c.in_ok-number.ensures ∙ c.in_default.is) in (
      some,
      none,
      sym (known-spelled unicode Rs (none-unknown unicode Rs none))
          ∙ none-if (list_all (λ (S : Rule). knows_line unicode S.spec) Rs) (map (fold_rule unicode) Rs) c.in_ok-folded.field-0 c.in-None.is
          c.in_ok-folded.ensures,
    )
