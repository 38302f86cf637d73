-- The first book of a root, and the only one.
use Rattle.std.proofs.Common.{◌≡◌, ◌≢◌, Bool, List, [], ◌∷◌, length, Option, Some, None, ap, sym, ◌∙◌}
use Rattle.std.specs.Prelude.{slice_get, find, MatchOption}
use Rattle.std.specs.Borrow.{Bor}
use Rattle.std.specs.Option.{option_map}
use Rattle.hub_path.specs.Path.{Path, path_eq}
use Rattle.hub_history.specs.Book.{BookValue}
use Rattle.hub_runner.specs.Settling.{books_at}
use Rattle.hub_runner.proofs.Lists.{found_first, only}

module _ (books : List BookValue) (r : Path) where
  abbrev has : BookValue → Bool
  has B = path_eq B.root r

  pub first_of : find has books ≡ slice_get (books_at books r) 0
  first_of = found_first has books

  pub only_found : (o : Option (Bor BookValue)) → option_map (λ b. b.now) o ≡ find has books → length (books_at books r) ≡ 1
      → MatchOption o (length (books_at books r) ≢ 1) (λ b. books_at books r ≡ b.now ∷ [])
  only_found None e one =
      let w = only has books one in
      let no : None ≡ Some w.0 = e ∙ (first_of ∙ ap (λ ys. slice_get ys 0) w.1) in
      cc
  only_found (Some b) e one =
      let w = only has books one in
      let is : Some b.now ≡ Some w.0 = e ∙ (first_of ∙ ap (λ ys. slice_get ys 0) w.1) in
      let same : b.now ≡ w.0 = cc in
      w.1 ∙ ap (λ B. B ∷ []) (sym same)
