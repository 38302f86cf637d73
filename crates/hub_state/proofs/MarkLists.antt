-- Marks that are listed in the order of their paths.
use Rattle.std.proofs.Common.{◌≡◌, Bool, true, false, cond, List, [], ◌∷◌, ◌++◌, Some, None, refl, sym, ap, ◌∙◌, subst}
use Rattle.std.specs.FinMap as fin
use Rattle.std.specs.Ordering.{eq_by_cmp, is_eq, is_lt}
use Rattle.std.specs.declared.cmp.Ordering.{Ordering}
use Rattle.std.specs.declared.cmp.Ordering.TheVariants.{Less, Equal, Greater}
use Rattle.std.proofs.lemmas.Bool.{false≢true}
use Rattle.std.proofs.lemmas.List.Sums.{fold-append}
use Rattle.hub_path.specs.Path.{Path, path_cmp}
use Rattle.hub_tree.specs.Marked.{with_entries}
use Rattle.hub_tree.specs.laws.Order.{path_total, same_path, path_itself}
use Rattle.hub_tree.specs.declared.contents.Mark.{Mark}
use Rattle.hub_state.specs.Marks.{EndsWith}

pub is_less : (o : Ordering) → is_lt o ≡ true → o ≡ Less
is_less Less h = refl
is_less Equal h = cc
is_less Greater h = cc

pub listed-more : (es : List (Path × Mark)) (p : Path) (m : Mark)
    → with_entries fin.empty (es ++ (p, m) ∷ []) ≡ fin.insert (with_entries fin.empty es) p m
listed-more es p m = fold-append (λ b e. fin.insert b e.0 e.1) fin.empty es ((p, m) ∷ [])

-- A path after another is not that one.
after_other : (p q : Path) → path_cmp p q ≡ Less → eq_by_cmp path_cmp q p ≡ true → false ≡ true
after_other p q less same =
    ap is_eq (sym (subst (λ (r : Path). path_cmp p r ≡ Less) (same_path q p same) less)) ∙ path_itself p

pub ends-more : (last p : Path) (es : List (Path × Mark)) (m : Mark) → path_cmp last p ≡ Less → EndsWith last es
    → EndsWith p (es ++ (p, m) ∷ [])
ends-more last p es m after before q less =
    ap (λ a. fin.get a q) (listed-more es p m) ∙ fin.get-insert path_total (with_entries fin.empty es) p m q
    ∙ by (eq_by_cmp path_cmp q p) refl
  where
    by : (t : Bool) → eq_by_cmp path_cmp q p ≡ t → cond t (Some m) (fin.get (with_entries fin.empty es) q) ≡ None
    by true h = absurd (false≢true (after_other p q less h))
    by false h = before q (path_total.trans last p q after less)

pub ends-none : (last : Path) (es : List (Path × Mark)) → es ≡ [] → EndsWith last es
ends-none last es none q h = ap (λ xs. fin.get (with_entries fin.empty xs) q) none ∙ fin.get-empty path_cmp q
