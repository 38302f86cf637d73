use Rattle.std.proofs.Common.{Some, Option, [], ◌∷◌, refl, subst, sym, ap, ◌∙◌, string_bytes, BTreeMap, String, Global}
use Rattle.std.specs.FinMap as fin
use Rattle.std.specs.BTreeMap.{get_by_text}
use Rattle.std.specs.Prelude.{IsSome}
use Rattle.std.proofs.lemmas.Result.{on_ok_weaker, on_err_weaker}
use Rattle.std.proofs.lemmas.Map.Text.{btree_map_updates_text}
use Rattle.hub_tree.specs.Tree.{Archive}
use Rattle.hub_state.specs.View.{pairs_in}
use Rattle.hub_state.proofs.Maps.{Rows, put_below, put_first, unchanged_pairs}
use Rattle.hub_state.proofs.state.put_pair.Goals as goal

pub returns-in-Some : goal.returns-in-Some
returns-in-Some c =
    let m = c.args.archives.now in
    let a = c.args.first.now in
    let w = c.put.new.map in
    let written = c.get_mut.follows.holds w in
    let n = c.get_mut.follows.lender w in
    let updates = written.3 (subst (λ (o : Option (BTreeMap (String Global) Archive)). IsSome o) c.in-Some.ensures.value refl) in
    record {
      ok =
          on_ok_weaker c.put.result
          (λ h. put_below m n c.in-Some.ensures.ordered written.4 a c.args.second.now (string_bytes c.in_ok-text.text) w c.in-Some.others.now c.args.archive c.in-Some.ensures.value
          c.in_ok-text.ensures.ok (λ q. btree_map_updates_text a m n (Some w) updates q) h)
          c.put.ensures.ok;
      err =
          on_err_weaker c.put.result
          (λ h. unchanged_pairs m n c.in-Some.ensures.ordered written.4 a w c.in-Some.others.now (sym c.in-Some.ensures.value) h (λ q. btree_map_updates_text a m n (Some w) updates q))
          c.put.ensures.err;
    }

pub returns-clause-ok : goal.returns-clause-ok
returns-clause-ok c =
    let m = c.get_mut.follows.lender-at-none in
    let same = c.get_mut.follows.holds-at-none in
    let n = c.insert.new.self in
    let w = c.put-2.new.map in
    let a = c.args.first.now in
    let b = c.args.second.now in
    put_first m n c.in_ok-_none.ensures.was_ordered c.in_ok-_none.ensures.ordered a b (string_bytes c.in_ok-from_str.field-0) (string_bytes c.in_ok-text.text) w c.new-others.result c.args.archive
    (c.in_default.ensures.value ∙ ap (λ (z : Rows Global Archive). get_by_text z a) (sym same)) c.in_ok-from_str.ensures.ok c.in_ok-text.ensures.ok c.new-others.ensures.empty
    (λ q. btree_map_updates_text (string_bytes c.in_ok-from_str.field-0) m n (Some w) c.in_ok-_none.ensures.updates q) c.in_ok-put.ensures.ok
    ∙ ap (λ (z : Rows Global Archive). fin.insert (pairs_in z.entries) (a ∷ b ∷ []) c.args.archive) same
