-- The comparison of one root: its book, and then job by job.
use Rattle.std.proofs.Common.{◌≡◌, ◌≢◌, ◌<◌, ◌≤◌, ◌+◌, Bool, true, false, List, [], ◌∷◌, length, get_or, None, Some, refl, ap, sym, ◌∙◌, subst}
use Rattle.std.specs.Prelude.{ℕ, All, IsTrue, MatchBool, slice_get}
use Rattle.std.proofs.lemmas.Bool.{MatchBool-at_true, MatchBool-at_false}
use Rattle.std.proofs.lemmas.Option.{same_Some, slice_get_read}
use Rattle.hub_path.specs.Path.{Path}
use Rattle.hub_profile.specs.Parts.{Parts}
use Rattle.hub_reach.specs.Reach.{has_root}
use Rattle.hub_state.specs.State.{State}
use Rattle.hub_job.specs.declared.log.Entry.{Entry}
use Rattle.hub_job.specs.JobValue.{JobValue}
use Rattle.hub_history.specs.Book.{BookValue}
use Rattle.hub_job.specs.History.{entries_of, entries_at}
use Rattle.hub_runner.specs.Settling.{Agrees, Disagrees, books_at, history_at, history_or_none, log_at, places_at}
use Rattle.hub_runner.proofs.Firsts.{IsFirst}
use Rattle.hub_runner.proofs.JobPlaces.{Place, RightUpTo, first_book, first_job, right_at_root, right_book, right_job}
use Rattle.hub_runner.proofs.Splitting.{by_job, list_of}

-- The profile has the root, and the job's entries in the history aren't those of its log.
abbrev pub Differ : Parts → Path → List Entry → List Entry → Type 0
Differ P r done logged = IsTrue (has_root P r) × (done ≢ logged)

abbrev pub Match : Parts → Path → List Entry → List Entry → Type 0
Match P r done logged = IsTrue (has_root P r) → done ≡ logged

module _ (S : State) (Ps : List Parts) (books : List BookValue) (jobs : List JobValue) (r : Path) where
  abbrev Right : Place → Type 0
  Right = Agrees S Ps books jobs

  abbrev Wrong : Place → Type 0
  Wrong = Disagrees S Ps books jobs

  pub wrong_book : Wrong (r, None) → IsFirst Right Wrong (places_at (length Ps) r) (r, None)
  wrong_book wrong = first_book Right Wrong r (length Ps) wrong

  pub book_is_right : Right (r, None) → RightUpTo Right r (length Ps) 0
  book_is_right right = right_book Right Wrong r (length Ps) right

  pub root_is_right : (items : List Parts) (j : ℕ) → items ≡ Ps → length items ≤ j → RightUpTo Right r (length Ps) j → All Right (places_at (length Ps) r)
  root_is_right items j value all before = right_at_root Right Wrong r (length Ps) j (subst (λ (Qs : List Parts). length Qs ≤ j) value all) before

  module _ (B : BookValue) (one : books_at books r ≡ B ∷ []) where
    module _ (j : ℕ) (P : Parts) (at : slice_get Ps j ≡ Some P) (done : List Entry) (are : done ≡ entries_of j B.history) where
      abbrev logged : List Entry
      logged = entries_at P r (log_at jobs j)

      in_history : entries_of j (history_at books r) ≡ done
      in_history = ap (λ Bs. entries_of j (history_or_none (slice_get Bs 0))) one ∙ sym are

      wrong_if : Differ P r done logged → Wrong (r, Some j)
      wrong_if differ = (P, at, differ.0, λ same. differ.1 (sym in_history ∙ same))

      right_if : Match P r done logged → Right (r, Some j)
      right_if match = λ Q there has.
          subst (λ (R : Parts). IsTrue (has_root R r) → entries_of j (history_at books r) ≡ entries_at R r (log_at jobs j))
          (same_Some P Q (sym at ∙ there)) (λ own. in_history ∙ match own) has

    -- The job j, as the program reads its profile and its entries.
    module _ {items : List Parts} (value : items ≡ Ps) {history : List Entry} (own : history ≡ B.history) {lists : List (List Entry)} (split : lists ≡ by_job (length items) history) where
      module _ (j : ℕ) (inside : j < length items) {P : Parts} (read : P ≡ get_or items j P) {list : List Entry} (listed : list ≡ get_or lists j list) {done : List Entry} (borrowed : done ≡ list) where
        within : j < length Ps
        within = subst (λ (Qs : List Parts). j < length Qs) value inside

        at : slice_get Ps j ≡ Some P
        at = ap (λ Qs. slice_get Qs j) (sym value) ∙ slice_get_read items (length items) j P refl inside read

        are : done ≡ entries_of j B.history
        are = borrowed ∙ (listed ∙ (list_of (length items) lists history split j list inside ∙ ap (entries_of j) own))

        module _ (before : RightUpTo Right r (length Ps) j) (b : Bool) (answer : MatchBool b (Differ P r done (entries_at P r (log_at jobs j))) (Match P r done (entries_at P r (log_at jobs j)))) where
          pub wrong_job : b ≡ true → IsFirst Right Wrong (places_at (length Ps) r) (r, Some j)
          wrong_job e =
              first_job Right Wrong r (length Ps) j within before
              (wrong_if j P at done are (MatchBool-at_true (Differ P r done (entries_at P r (log_at jobs j))) (Match P r done (entries_at P r (log_at jobs j))) e answer))

          pub job_is_right : b ≡ false → RightUpTo Right r (length Ps) (j + 1)
          job_is_right e =
              right_job Right Wrong r (length Ps) j within before
              (right_if j P at done are (MatchBool-at_false (Differ P r done (entries_at P r (log_at jobs j))) (Match P r done (entries_at P r (log_at jobs j))) e answer))
