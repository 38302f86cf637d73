use Rattle.std.proofs.Common.{◌≡◌, true, List, [], ◌∷◌, sym, ap, ◌∙◌, subst}
use Rattle.std.specs.FinMap as fin
use Rattle.hub_path.specs.Path.{Path, path_cmp, is_place}
use Rattle.hub_tree.specs.Tree.{Archive, IsArchive, HasPaths, HasDigests}
use Rattle.hub_state.specs.State.{Text, State, IsState, in_order, pair_of, root_text}
use Rattle.hub_state.specs.View.{map_in, pairs_in, state_in}
use Rattle.hub_state.proofs.States.{IsState-archive, root_text-bytes, on_either}
use Rattle.hub_state.proofs.state.State.put_archive.Goals as goal

pub invariant_of-self : goal.invariant_of-self
invariant_of-self c =
    let rs = c.self.inside.replicas.entries in
    let ks = c.self.inside.archives.entries in
    let S : State = state_in rs ks in
    let r = c.args.first.now in
    let s = c.args.second.now in
    let here : is_place r ≡ true = subst (λ (p : Path). is_place p ≡ true) c.path.ensures c.len-names.ensures.valid in
    let there : is_place s ≡ true = subst (λ (p : Path). is_place p ≡ true) c.path-2.ensures c.len-others.ensures.valid in
    let marks : IsArchive c.args.archive × HasPaths c.args.archive × HasDigests c.args.archive = (c.mark_at-top.ensures.archive, c.mark_at-top.ensures.paths, c.mark_at-top.ensures.digests) in
    let key : List Text = c.in_order.result.0.now ∷ c.in_order.result.1.now ∷ [] in
    let same : key ≡ pair_of r s =
    c.in_order.ensures ∙ ap (λ (t : Text). in_order t c.as_str-2.result.now) (c.as_str.ensures ∙ root_text-bytes r) ∙ ap (λ (t : Text). in_order (root_text r) t) (c.as_str-2.ensures ∙ root_text-bytes s) in
    on_either c.put_pair.result (pairs_in c.put_pair.new.archives.entries) (fin.insert (pairs_in ks) key c.args.archive) (pairs_in ks)
    (λ (x : fin.FinMap path_cmp Archive). IsState (record { replicas = map_in rs; archives = x })) c.put_pair.ensures.ok c.put_pair.ensures.err
    (subst (λ (k : List Text). IsState (record { replicas = map_in rs; archives = fin.insert (pairs_in ks) k c.args.archive })) (sym same)
    (IsState-archive S r s c.args.archive c.self.invariant here there c.requires marks))
    c.self.invariant
