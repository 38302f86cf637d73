-- The comparison of all roots, one after the other.
use Rattle.std.proofs.Common.{◌≡◌, ◌≤◌, ◌<◌, ◌+◌, List, length, get_or, Option, Some, None, refl, ap, sym, ◌∙◌, subst}
use Rattle.std.specs.Prelude.{ℕ, All, MatchOption, slice_get}
use Rattle.std.specs.List.{flat_map}
use Rattle.std.proofs.lemmas.Option.{MatchOption-at_some, MatchOption-at_none, slice_get_read}
use Rattle.hub_path.specs.Path.{Path}
use Rattle.hub_profile.specs.Parts.{Parts}
use Rattle.hub_state.specs.State.{State}
use Rattle.hub_job.specs.JobValue.{JobValue}
use Rattle.hub_history.specs.Book.{BookValue}
use Rattle.hub_runner.specs.Settling.{Agrees, Disagrees, compared_places, places_at, roots_of}
use Rattle.hub_runner.proofs.Firsts.{IsFirst, RightBefore, first_more, right_in_all, right_more}
use Rattle.hub_runner.proofs.JobPlaces.{Place}

module _ (S : State) (Ps : List Parts) (books : List BookValue) (jobs : List JobValue) where
  abbrev Right : Place → Type 0
  Right = Agrees S Ps books jobs

  abbrev Wrong : Place → Type 0
  Wrong = Disagrees S Ps books jobs

  abbrev places_of : Path → List Place
  places_of = places_at (length Ps)

  module _ (rs : List Path) (i : ℕ) (before : RightBefore places_of Right rs i) where
    -- The root at i, as the program reads it.
    module _ (inside : i < length rs) {own : Path} (read : own ≡ get_or rs i own) {r : Path} (borrowed : r ≡ own) where
      at : slice_get rs i ≡ Some r
      at = slice_get_read rs (length rs) i own refl inside read ∙ ap (λ (q : Path). Some q) (sym borrowed)

      module _ {o : Option (Option ℕ)} (answer : MatchOption o (All Right (places_of r)) (λ job. IsFirst Right Wrong (places_of r) (r, job))) where
        pub wrong_root : (job : Option ℕ) → o ≡ Some job → rs ≡ roots_of Ps → IsFirst Right Wrong (compared_places Ps) (r, job)
        wrong_root job e roots =
            let first : IsFirst Right Wrong (places_of r) (r, job) =
            MatchOption-at_some (All Right (places_of r)) (λ (j : Option ℕ). IsFirst Right Wrong (places_of r) (r, j)) job e answer in
            subst (λ (qs : List Path). IsFirst Right Wrong (flat_map places_of qs) (r, job)) roots (first_more places_of Right Wrong rs i r at before (r, job) first)

        pub roots_more : o ≡ None → RightBefore places_of Right rs (i + 1)
        roots_more e =
            right_more places_of Right Wrong rs i r at before (MatchOption-at_none (All Right (places_of r)) (λ (j : Option ℕ). IsFirst Right Wrong (places_of r) (r, j)) e answer)

    pub roots_are_right : length rs ≤ i → rs ≡ roots_of Ps → All Right (compared_places Ps)
    roots_are_right all roots = subst (λ (qs : List Path). All Right (flat_map places_of qs)) roots (right_in_all places_of Right rs i all before)
