use Rattle.std.proofs.Common.{◌∙◌, ◌++◌, [], ap}
use Rattle.std.proofs.lemmas.List.{flat_map_more}
use Rattle.hub_unison.specs.Kept.{own_lines, spare_lines}
use Rattle.hub_unison.proofs.kept.lines_of.Goals as goal

pub loop-kept-preserved : goal.loop-kept-preserved
loop-kept-preserved c =
    let ks = c.loop-kept.yielded in
    let k = c.in-Some.kept in
    record {
      ignore = c.in_ok-push.ensures.ignore ∙ ap (λ xs. xs ++ own_lines k) c.loop-kept.invariant.ignore ∙ flat_map_more own_lines [] ks k;
      ignorenot = c.in_ok-push.ensures.ignorenot ∙ ap (λ xs. xs ++ spare_lines k) c.loop-kept.invariant.ignorenot ∙ flat_map_more spare_lines c.args.spared ks k;
    }
