use Rattle.std.proofs.Common.{◌∙◌, ap, map}
use Rattle.std.specs.Cmp.Lexicographic.{slice_cmp}
use Rattle.std.specs.Ordering.{nat_cmp}
use Rattle.hub_report.proofs.InOrder.{map-insert_key}
use Rattle.hub_report.proofs.graph.insert_root.Goals as goal

pub returns : goal.returns
returns c =
    ap (map (λ r. r.now)) c.in_ok-insert.ensures.keys
    ∙ map-insert_key (λ r. r.now) (slice_cmp nat_cmp) c.args.roots.now.keys c.args.root
