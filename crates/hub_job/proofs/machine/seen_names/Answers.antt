use Rattle.std.proofs.Common.{sym, ◌∙◌}
use Rattle.std.proofs.lemmas.Bool.{eqb-true}
use Rattle.hub_text.specs.laws.List.{no-items}
use Rattle.hub_job.proofs.OpenNames.{all_reached, no_others}
use Rattle.hub_job.proofs.machine.seen_names.Goals as goal

pub returns-then-is_empty-clause-names : goal.returns-then-is_empty-clause-names
returns-then-is_empty-clause-names c =
    all_reached c.args.profile.now c.args.path.now c.args.names (sym c.ignore.ensures ∙ no-items _ (eqb-true _ _ (sym c.is_empty.ensures ∙ c.if-is_empty.true))) c.requires.kept c.requires.paths

pub returns-then-is_empty-clause-others : goal.returns-then-is_empty-clause-others
returns-then-is_empty-clause-others c =
    no_others c.args.profile.now c.args.path.now c.args.names (sym c.ignore.ensures ∙ no-items _ (eqb-true _ _ (sym c.is_empty.ensures ∙ c.if-is_empty.true))) c.requires.kept c.requires.paths
