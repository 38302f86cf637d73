use Rattle.std.proofs.Common.{◌≡◌, ℕ, List, [], ◌∷◌, ◌++◌, BTreeMap, String, Global, string_bytes, sym, ap, ◌∙◌, subst, append-nil, append_assoc}
use Rattle.std.specs.List.{flat_map}
use Rattle.hub_tree.specs.Tree.{Archive}
use Rattle.hub_state.specs.State.{Text}
use Rattle.hub_state.specs.Devices.{Passes}
use Rattle.hub_state.specs.View.{by_text, by_two, pairs_below, pairs}
use Rattle.hub_state.specs.Writing.{archive_lines, joined_lines}
use Rattle.hub_state.proofs.Maps.{AllSorted, AllSorted-push, by_two-push, sorted_texts, entries-pairs_in}
use Rattle.hub_state.proofs.Passing.{pairs_more, passes-start, passes-step}
use Rattle.hub_state.proofs.writer.write_archives.Goals as goal

pub loop-first-init : goal.loop-first-init
loop-first-init g c = (
  [],
  c.into_iter-first-iterator.ensures.into_iter_gives ∙ c.iter-first-items.ensures.rest,
  passes-start (g.W.Write.contents c.args.output.now.device) c.args.text.now.items,
  c.requires,
  tt,
)

pub loop-first-preserved : goal.loop-first-preserved
loop-first-preserved g c =
    let inv = c.loop-first.invariant in
    let es = inv.0 in
    let x : String Global × BTreeMap (String Global) Archive = (c.in-Some.first.now, c.in-Some.others.now) in
    let y : List ℕ = c.loop-first.text.items in
    let rows : List (Text × Archive) = by_text x.1.entries in
    let t : List ℕ = joined_lines (flat_map archive_lines (pairs_below (string_bytes x.0) rows)) in
    let done : List ℕ = joined_lines (flat_map archive_lines (pairs (by_two es))) in
    let old = g.W.Write.contents c.loop-first.output.device in
    let new = g.W.Write.contents c.write_pairs.new.output.device in
    let z : List ℕ = c.write_pairs.new.text.items in
    let two : Passes old new y z t = subst (λ (u : Text). Passes old new y z (joined_lines (flat_map archive_lines (pairs_below u rows)))) c.as_str.ensures.value c.in_ok-write_pairs.ensures.ok in (
      es ++ x ∷ [],
      append_assoc es (x ∷ []) c.next.new.self ∙ ap (λ (r : List (String Global × BTreeMap (String Global) Archive)). es ++ r) (sym c.in-Some.ensures.steps) ∙ inv.1,
      passes-step (g.W.Write.contents c.args.output.now.device) old new c.args.text.now.items y y z
          done [] t (joined_lines (flat_map archive_lines (pairs (by_two (es ++ x ∷ [])))))
          inv.2 (sym (append-nil y)) two (pairs_more archive_lines es x),
      c.in_ok-write_pairs.ensures.failed,
      subst (λ (ps : List (Text × List (Text × Archive))). AllSorted ps) (sym (by_two-push es x))
          (AllSorted-push (by_two es) (string_bytes x.0, rows) inv.4 (sorted_texts (λ v. v) x.1.entries c.in_ok-write_pairs.ensures.ordered)),
    )

pub returns-clause-ok : goal.returns-clause-ok
returns-clause-ok g c =
    let inv = c.loop-first.invariant in
    let m = c.args.archives.now in
    let old = g.W.Write.contents c.args.output.now.device in
    let new = g.W.Write.contents c.loop-first.output.device in
    let x : List ℕ = c.args.text.now.items in
    let y : List ℕ = c.loop-first.text.items in
    let all : inv.0 ≡ m.entries = sym (append-nil inv.0) ∙ ap (λ (r : List (String Global × BTreeMap (String Global) Archive)). inv.0 ++ r) (sym c.in-None.ensures.steps.0) ∙ inv.1 in
    let sorted : AllSorted (by_two m.entries) = subst (λ (es : List (String Global × BTreeMap (String Global) Archive)). AllSorted (by_two es)) all inv.4 in
    subst (λ (ps : List (List Text × Archive)). Passes old new x y (joined_lines (flat_map archive_lines ps))) (sym (entries-pairs_in m c.iter-first-items.ensures.ordered sorted))
    (subst (λ (es : List (String Global × BTreeMap (String Global) Archive)). Passes old new x y (joined_lines (flat_map archive_lines (pairs (by_two es))))) all inv.2)
