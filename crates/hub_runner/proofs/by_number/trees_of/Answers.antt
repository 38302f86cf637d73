use Rattle.std.proofs.Common.{◌≡◌, true, false, List, [], ◌∷◌, ◌++◌, sym, ◌∙◌, subst}
use Rattle.std.specs.List.{list_any}
use Rattle.hub_path.specs.Path.{Path}
use Rattle.hub_reach.specs.Reach.{has_root}
use Rattle.hub_history.specs.Book.{BookValue}
use Rattle.hub_schedule.specs.declared.slot.WorkingTree.{WorkingTree}
use Rattle.hub_runner.specs.forms.Ordered.{AreTreesOf, is_due, of_book, of_tree}
use Rattle.hub_runner.proofs.Trees.{trees_more, trees_skip}
use Rattle.hub_runner.proofs.by_number.trees_of.Goals as goal

pub loop-book-preserved-in-Continue-1 : goal.loop-book-preserved-in-Continue-1
loop-book-preserved-in-Continue-1 c =
    let Ps = c.args.profiles.now in
    let B : BookValue = c.in-Some.book in
    let t : WorkingTree = record { root = c.in-Some-find_root.root; tree = c.into_tree-tree.result } in
    let due : is_due Ps B ≡ true = subst (λ (r : Path). list_any (λ P. has_root P r) Ps ≡ true) c.root.ensures c.in-Some-find_root.ensures.1 in
    let root : t.root.now ≡ B.root = c.in-Some-find_root.ensures.0 ∙ c.root.ensures in
    let tree : t.tree ≡ B.tree = c.into_tree-tree.ensures.value in
    let same : of_tree t ≡ of_book B = λ i. (root i, tree i) in
    subst (λ (ts : List WorkingTree). AreTreesOf Ps (c.loop-book.yielded ++ B ∷ []) ts) (sym c.in_ok-push.ensures.items)
    (trees_more Ps c.loop-book.yielded c.loop-book.trees.items c.loop-book.invariant B t due same c.into_tree-tree.ensures.book)

pub loop-book-preserved : goal.loop-book-preserved
loop-book-preserved c =
    let Ps = c.args.profiles.now in
    let B : BookValue = c.in-Some.book in
    let no : is_due Ps B ≡ false = subst (λ (r : Path). list_any (λ P. has_root P r) Ps ≡ false) c.root.ensures c.in_default.ensures in
    trees_skip Ps c.loop-book.yielded c.loop-book.trees.items c.loop-book.invariant B no
