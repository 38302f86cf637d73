use Rattle.std.proofs.Common.{◌≡◌, map, take}
use Rattle.hub_folded.specs.Lines as lines
use Rattle.hub_folded.specs.Table.{unicode}
use Rattle.hub_folded.proofs.pattern.folded_choices.Given as goal

abbrev pub invariant-loop-choice : goal.invariant-loop-choice
invariant-loop-choice l = l.folded ≡ map (lines.fold_pieces unicode) (take l.choice-index l.choices)
