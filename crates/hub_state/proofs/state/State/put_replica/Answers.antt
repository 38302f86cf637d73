use Rattle.std.proofs.Common.{◌≡◌, true, sym, ◌∙◌, subst, string_bytes}
use Rattle.std.specs.FinMap as fin
use Rattle.hub_path.specs.Path.{Path, name_cmp, is_place}
use Rattle.hub_tree.specs.Tree.{Replica, IsTree, HasPaths, HasBytes}
use Rattle.hub_state.specs.State.{Text, State, IsState}
use Rattle.hub_state.specs.View.{map_in, pairs_in, state_in}
use Rattle.hub_state.proofs.States.{IsState-replica, root_text-bytes, on_either}
use Rattle.hub_state.proofs.state.State.put_replica.Goals as goal

pub invariant_of-self-2 : goal.invariant_of-self-2
invariant_of-self-2 c =
    let rs = c.self.inside.replicas.entries in
    let ks = c.self.inside.archives.entries in
    let S : State = state_in rs ks in
    let place : is_place c.args.root.now ≡ true = subst (λ (p : Path). is_place p ≡ true) c.path.ensures c.len-names.ensures.valid in
    let tree : IsTree c.args.tree × HasPaths c.args.tree × HasBytes c.args.tree = (c.mark_at-top.ensures.tree, c.mark_at-top.ensures.paths, c.mark_at-top.ensures.bytes) in
    let text = string_bytes c.in_ok-text.field-0 in
    on_either c.put.result (map_in c.put.new.map.entries) (fin.insert (map_in rs) text c.args.tree) (map_in rs)
    (λ (x : fin.FinMap name_cmp Replica). IsState (record { replicas = x; archives = pairs_in ks })) c.put.ensures.ok c.put.ensures.err
    (subst (λ (t : Text). IsState (record { replicas = fin.insert (map_in rs) t c.args.tree; archives = pairs_in ks })) (sym (c.in_ok-text.ensures ∙ root_text-bytes c.args.root.now))
    (IsState-replica S c.args.root.now c.args.tree c.self.invariant place tree))
    c.self.invariant
