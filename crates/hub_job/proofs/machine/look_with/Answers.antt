use Rattle.std.proofs.Common.{not, List, [], ◌∷◌, ◌++◌, ap, ◌∙◌}
use Rattle.std.specs.Prelude.{filter}
use Rattle.std.specs.List.{list_any}
use Rattle.hub_path.specs.Path.{Name}
use Rattle.hub_reach.specs.Reach.{reach}
use Rattle.hub_job.proofs.OpenNames.{all_make_paths}
use Rattle.hub_job.proofs.Performs.{names_reached, names_not_reached}
use Rattle.hub_job.proofs.machine.look_with.Goals as goal

pub seen_names-requires-clause-paths : goal.seen_names-requires-clause-paths
seen_names-requires-clause-paths c = all_make_paths c.args.tree.now c.args.path.now c.in_ok-mark.all c.in_ok-mark.ensures.names c.in_ok-mark.ensures.paths

pub returns-clause-names : goal.returns-clause-names
returns-clause-names c =
    let P = c.args.profile.now in
    let d = c.args.path.now in
    c.in_ok-names.ensures.names ∙ (ap (λ (ns : List Name). filter (λ n. reach P (d ++ n ∷ [])) ns) c.in_ok-mark.ensures.names ∙ names_reached P c.args.tree.now d)

pub returns-clause-others : goal.returns-clause-others
returns-clause-others c =
    let P = c.args.profile.now in
    let d = c.args.path.now in
    c.in_ok-names.ensures.others ∙ (ap (λ (ns : List Name). list_any (λ n. not (reach P (d ++ n ∷ []))) ns) c.in_ok-mark.ensures.names ∙ names_not_reached P c.args.tree.now d)
