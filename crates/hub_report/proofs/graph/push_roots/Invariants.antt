use Rattle.std.proofs.Common.{◌≡◌, ◌++◌, [], string_bytes}
use Rattle.std.specs.List.{flat_map}
use Rattle.hub_report.specs.Graph.{folder, root_texts_of}
use Rattle.hub_report.proofs.graph.push_roots.Given as goal

abbrev pub invariant-loop-root : goal.invariant-loop-root
invariant-loop-root l =
    string_bytes l.text ++ flat_map (λ r. folder r.now) l.root-iterator
    ≡ string_bytes l.initial.text ++ flat_map folder (root_texts_of [] l.profiles)
