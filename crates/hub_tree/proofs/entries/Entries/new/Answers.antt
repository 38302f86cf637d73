use Rattle.std.proofs.Common.{T, List, [], ◌∷◌, sym, ap, ◌∙◌, subst}
use Rattle.std.specs.FinMap as fin
use Rattle.std.specs.FinMap.Entries.{is_sorted}
use Rattle.hub_path.specs.Path.{Name, name_cmp}
use Rattle.hub_tree.specs.Levels.{left_in, all_ascend}
use Rattle.hub_tree.specs.Nodes.{replica_of}
use Rattle.hub_tree.specs.declared.entries.Level.{Level}
use Rattle.hub_tree.specs.declared.node.Node.{Node}
use Rattle.hub_tree.specs.laws.Ascending.{both, is_sorted-from}
use Rattle.hub_tree.proofs.Walk.{one_level, only_level}
use Rattle.hub_tree.proofs.entries.Entries.new.Goals as goal

pub invariant_of-result : goal.invariant_of-result
invariant_of-result c =
    let l : Level = record { path = c.top.result; children = c.iter.result } in
    let sorted : T (is_sorted name_cmp l.children) = subst (λ (cs : List (Name × Node)). T (is_sorted name_cmp cs)) (sym c.iter.ensures.rest) (is_sorted-from name_cmp _ c.iter.ensures.ordered) in
    subst (λ (ls : List Level). T (all_ascend ls)) (sym (only_level c.new-levels.result.items c.push.new.self.items l c.new-levels.ensures.items c.in_ok-push.ensures.items)) (sorted_level l sorted)
  where
    sorted_level : (l : Level) → T (is_sorted name_cmp l.children) → T (all_ascend (l ∷ []))
    sorted_level l h = both _ _ h tt

pub returns : goal.returns
returns c =
    let l : Level = record { path = c.top.result; children = c.iter.result } in
    ap left_in (only_level c.new-levels.result.items c.push.new.self.items l c.new-levels.ensures.items c.in_ok-push.ensures.items)
    ∙ one_level l (fin.entries (replica_of c.args.children.now.entries)) c.top.ensures (ap (λ (cs : List (Name × Node)). fin.entries (replica_of cs)) c.iter.ensures.rest)
