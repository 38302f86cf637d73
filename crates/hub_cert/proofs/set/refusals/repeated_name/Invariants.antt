use Rattle.std.specs.BTreeSet.{contains}
use Rattle.hub_path.specs.Path.{Name, name_cmp}
use denote.Ref.{Bor}
use Rattle.hub_cert.proofs.Namesakes.{AreNames, NoneRepeated}
use Rattle.hub_cert.proofs.set.refusals.repeated_name.Given as goal

abbrev pub invariant-loop-later : goal.invariant-loop-later
invariant-loop-later l =
    AreNames l.profiles l.later (contains (λ (x y : Bor Name). name_cmp x.now y.now) l.names) × NoneRepeated l.profiles l.later
