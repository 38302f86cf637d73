use Rattle.std.proofs.Common.{◌∙◌, ◌++◌, Bor, List, ap, string_bytes, sym, ℕ}
use Rattle.std.proofs.lemmas.List.Folds.{flat_map-map}
use Rattle.std.specs.List.{flat_map}
use Rattle.hub_report.specs.Graph.{folder}
use Rattle.hub_report.proofs.graph.push_roots.Goals as goal

pub loop-root-init : goal.loop-root-init
loop-root-init c =
    let shown : List (Bor (List ℕ)) → List ℕ = flat_map (λ r. folder r.now) in
    let keys = c.into_iter-root-iterator.ensures.into_iter_gives ∙ c.iter-root-items.ensures.rest in
    ap (λ ls. string_bytes c.args.text.now ++ ls)
    (ap shown keys ∙ (sym (flat_map-map folder (λ r. r.now) c.in_ok-roots.roots.keys) ∙ ap (flat_map folder) c.in_ok-roots.ensures))
