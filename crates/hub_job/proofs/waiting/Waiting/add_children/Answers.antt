use Rattle.std.proofs.Common.{◌≡◌, ◌+◌, ◌-◌, [], ◌∷◌, ◌++◌, length, take, ap, ◌∙◌, arith}
use Rattle.std.specs.BTreeSet.{insert_key}
use Rattle.hub_path.specs.Path.{Name, Path, path_cmp, children_named}
use Rattle.hub_job.specs.forms.Waiting.{put_all}
use Rattle.hub_job.proofs.Stacks.{last_child}
use Rattle.hub_job.proofs.waiting.Waiting.add_children.Goals as goal

pub loop-i-preserved : goal.loop-i-preserved
loop-i-preserved c =
    let d = c.args.path.now in
    let ns = c.args.names.now in
    let k = length ns - 1 - c.loop-i.i in
    let fewer : length ns - (c.loop-i.i + 1) ≡ k = omega arith in
    let one_more : k + 1 ≡ length ns - c.loop-i.i = omega arith in
    ap (λ j. put_all c.add.new.self (children_named d (take j ns))) fewer
    ∙ (ap (λ qs. put_all qs (children_named d (take k ns)))
    (c.in_ok-add.ensures ∙ ap (λ (p : Path). insert_key path_cmp c.loop-i.self p) (c.in_ok-child.ensures ∙ ap (λ (n : Name). d ++ n ∷ []) c.in_ok-copy.ensures))
    ∙ (last_child c.loop-i.self d ns k c.index-names-names.result (omega arith) c.index-names-names.is
    ∙ (ap (λ j. put_all c.loop-i.self (children_named d (take j ns))) one_more
    ∙ c.loop-i.invariant)))
