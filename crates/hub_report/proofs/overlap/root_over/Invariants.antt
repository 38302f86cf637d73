use Rattle.std.proofs.Common.{◌≡◌, drop}
use Rattle.std.specs.List.{find}
use Rattle.hub_path.specs.Path.{is_over}
use Rattle.hub_report.proofs.overlap.root_over.Given as goal

abbrev pub invariant-loop-root : goal.invariant-loop-root
invariant-loop-root l = find (λ s. is_over s l.whole) (drop l.root-index l.roots) ≡ find (λ s. is_over s l.whole) l.roots
