use Rattle.std.proofs.Common.{◌≡◌, drop, map, []}
use Rattle.hub_report.specs.Graph.{root_texts_of}
use Rattle.hub_report.proofs.graph.roots_of.Given as goal

abbrev pub invariant-loop-profile : goal.invariant-loop-profile
invariant-loop-profile l =
    root_texts_of (map (λ r. r.now) l.roots.keys) (drop l.profile-index l.profiles) ≡ root_texts_of [] l.profiles
