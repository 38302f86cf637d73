use Rattle.std.proofs.Common.{◌≡◌, true, map, take}
use Rattle.std.specs.List.{list_all}
use Rattle.hub_profile.specs.declared.rule.Rule.{Rule}
use Rattle.hub_folded.specs.Lines as lines
use Rattle.hub_folded.specs.Table.{unicode}
use Rattle.hub_folded.proofs.rules.all_folded.Given as goal

abbrev pub invariant-loop-rule : goal.invariant-loop-rule
invariant-loop-rule l = record {
  all : l.all ≡ map (lines.fold_rule unicode) (take l.rule-index l.rule-items);
  known : list_all (λ (R : Rule). lines.knows_line unicode R.spec) (take l.rule-index l.rule-items) ≡ true;
}
