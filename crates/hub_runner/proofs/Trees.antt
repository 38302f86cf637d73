-- Replicas of books, book by book.
use Rattle.std.proofs.Common.{◌≡◌, true, false, cond, List, [], ◌∷◌, ◌++◌, map, filter, ap, sym, ◌∙◌, subst}
use Rattle.std.specs.Prelude.{All}
use Rattle.std.proofs.lemmas.List.{append-nil, map_push}
use Rattle.std.proofs.lemmas.List.Elements.{All-push, filter-append}
use Rattle.hub_profile.specs.Parts.{Parts}
use Rattle.hub_history.specs.Book.{BookValue, IsBook}
use Rattle.hub_schedule.specs.declared.slot.WorkingTree.{WorkingTree}
use Rattle.hub_runner.specs.forms.Ordered.{AreTreesOf, is_due, of_book, of_tree}

module _ (Ps : List Parts) (front : List BookValue) (trees : List WorkingTree) (are : AreTreesOf Ps front trees) (B : BookValue) where
  dues_skip : is_due Ps B ≡ false → filter (is_due Ps) (front ++ B ∷ []) ≡ filter (is_due Ps) front
  dues_skip not_due =
      filter-append (is_due Ps) front (B ∷ [])
      ∙ (ap (λ b. filter (is_due Ps) front ++ cond b (B ∷ []) []) not_due ∙ append-nil (filter (is_due Ps) front))

  dues_push : is_due Ps B ≡ true → filter (is_due Ps) (front ++ B ∷ []) ≡ filter (is_due Ps) front ++ B ∷ []
  dues_push is =
      filter-append (is_due Ps) front (B ∷ [])
      ∙ ap (λ b. filter (is_due Ps) front ++ cond b (B ∷ []) []) is

  pub trees_skip : is_due Ps B ≡ false → AreTreesOf Ps (front ++ B ∷ []) trees
  trees_skip not_due = record {
    values = are.values ∙ ap (map of_book) (sym (dues_skip not_due));
    legal = subst (All IsBook) (sym (dues_skip not_due)) are.legal;
  }

  pub trees_more : (t : WorkingTree) → is_due Ps B ≡ true → of_tree t ≡ of_book B → IsBook B → AreTreesOf Ps (front ++ B ∷ []) (trees ++ t ∷ [])
  trees_more t is same book = record {
    values = map_push of_tree trees t ∙ (ap (λ zs. zs ++ of_tree t ∷ []) are.values
        ∙ (ap (λ z. map of_book (filter (is_due Ps) front) ++ z ∷ []) same
        ∙ (sym (map_push of_book (filter (is_due Ps) front) B) ∙ ap (map of_book) (sym (dues_push is)))));
    legal = subst (All IsBook) (sym (dues_push is)) (All-push IsBook (filter (is_due Ps) front) B are.legal book);
  }
