use Rattle.std.proofs.Common.{[], ap, sym, ◌∙◌, arith}
use Rattle.std.specs.FinMap as fin
use Rattle.hub_tree.specs.Nodes.{replica_of, is_left}
use Rattle.hub_tree.specs.Shared.{shared_entries}
use Rattle.hub_tree.specs.laws.MarkMaps.{is_path-names}
use Rattle.hub_tree.proofs.LookUp.{get_top}
use Rattle.hub_tree.proofs.Putting.{put_fault_top}
use Rattle.hub_tree.proofs.Setting.{refusal}
use Rattle.hub_tree.proofs.Trees.{HasPaths-after, HasBytes-after}
use Rattle.hub_tree.proofs.tree.Tree.put.Goals as goal

pub invariant_of-self : goal.invariant_of-self
invariant_of-self c =
    let old = replica_of (shared_entries c.self.inside.top) in
    let new = replica_of (shared_entries c.put_top.new.top) in
    let left = is_left c.args.only_new old c.args.path.now in (
      HasPaths-after left old new c.args.path.now c.args.contents c.put_top.result c.put_top.ensures.ok c.put_top.ensures.err c.self.invariant.0
          (is_path-names c.args.path.now (omega arith) c.len.ensures.valid),
      HasBytes-after left old new c.args.path.now c.args.contents c.put_top.result c.put_top.ensures.ok c.put_top.ensures.err c.self.invariant.1
          c.has_bytes.ensures,
      c.self.invariant.2,
    )

pub returns-then-len-eq0-clause-fault : goal.returns-then-len-eq0-clause-fault
returns-then-len-eq0-clause-fault c =
    refusal _ _ (put_fault_top c.args.only_new c.args.self.now c.args.path.now c.args.contents (omega arith)
    (ap (λ m. fin.get m []) (sym c.self.view_is) ∙ get_top (shared_entries c.self.inside.top)))
