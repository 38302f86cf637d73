-- The topmost of some paths, one by one.
use Rattle.std.proofs.Common.{◌≡◌, ◌<◌, ◌+◌, ℕ, Bool, true, false, ◌||◌, List, [], ◌∷◌, ◌++◌, length, take, get_or, sym, ap, ◌∙◌}
use Rattle.std.specs.Prelude.{if◌then◌else◌}
use Rattle.std.specs.List.{fold, list_any}
use Rattle.std.proofs.lemmas.List.Sums.{fold_more}
use Rattle.hub_path.specs.Path.{Path, path_eq}
use Rattle.hub_unison.specs.ReadingOf.{is_below_some, with_top}

module _ (ps : List Path) (i : ℕ) (q : Path) (l : i < length ps) (e : q ≡ get_or ps i q)
    (old : List Path) (before : old ≡ fold (with_top ps) [] (take i ps)) where
  next : with_top ps old q ≡ fold (with_top ps) [] (take (i + 1) ps)
  next = (λ j. with_top ps (before j) (e j)) ∙ sym (fold_more (with_top ps) [] ps i q l)

  at : (b : Bool) → (is_below_some ps q || list_any (λ top. path_eq top q) old) ≡ b
      → with_top ps old q ≡ (if b then old else old ++ q ∷ [])
  at b h = ap (λ c. if c then old else old ++ q ∷ []) h

  pub top-passed : (is_below_some ps q || list_any (λ top. path_eq top q) old) ≡ true
      → old ≡ fold (with_top ps) [] (take (i + 1) ps)
  top-passed h = sym (at true h) ∙ next

  pub top-kept : (new : List Path) → new ≡ old ++ q ∷ []
      → (is_below_some ps q || list_any (λ top. path_eq top q) old) ≡ false
      → new ≡ fold (with_top ps) [] (take (i + 1) ps)
  top-kept new more h = more ∙ (sym (at false h) ∙ next)
