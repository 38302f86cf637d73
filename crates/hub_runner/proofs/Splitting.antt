-- A history, split by job entry by entry.
use Rattle.std.proofs.Common.{◌≡◌, ◌≢◌, ◌<◌, ◌≤◌, ℕ, inl, inr, cond, List, [], ◌∷◌, ◌++◌, length, map, get_or, replicate, ap, sym, ◌∙◌, arith, eq-eqb}
use Rattle.std.specs.Prelude.{◌==◌, slice_set}
use Rattle.std.specs.List.{range_with_len}
use Rattle.std.proofs.lemmas.Bool.{cases_eq, ne_eqb}
use Rattle.std.proofs.lemmas.Grind.{get_or-set_at}
use Rattle.std.proofs.lemmas.List.{append-nil, length-replicate, length-set, get_or-replicate, get_or-set_other}
use Rattle.std.proofs.lemmas.List.Elements.{filter-append}
use Rattle.std.proofs.lemmas.List.FromFn.{fill_by_all, get_or-map-range_with_len, length-map-range_with_len}
use Rattle.hub_job.specs.declared.log.Entry.{Entry}
use Rattle.hub_job.specs.History.{entries_of}

-- The entries of each of the first n jobs.
abbrev pub by_job : ℕ → List Entry → List (List Entry)
by_job n history = map (λ j. entries_of j history) (range_with_len 0 n)

pub none_split : (n : ℕ) → replicate n [] ≡ by_job n []
none_split n = fill_by_all (λ j. []) (replicate n []) n [] (length-replicate n []) (λ k h. get_or-replicate n k [] [] h)

module _ (n : ℕ) (lists : List (List Entry)) (history : List Entry) (are : lists ≡ by_job n history) where
  pub count_of_lists : length lists ≡ n
  count_of_lists = ap length are ∙ length-map-range_with_len (λ j. entries_of j history) 0 n

  pub list_of : (j : ℕ) (d : List Entry) → j < n → get_or lists j d ≡ entries_of j history
  list_of j d h = ap (λ ls. get_or ls j d) are ∙ get_or-map-range_with_len (λ i. entries_of i history) 0 n j j d h (omega arith)

  -- One entry more.
  module _ (e : Entry) where
    of_its_job : (j : ℕ) → j ≡ e.job → entries_of j (history ++ e ∷ []) ≡ entries_of j history ++ e ∷ []
    of_its_job j is =
        filter-append (λ d. d.job == j) history (e ∷ [])
        ∙ ap (λ b. entries_of j history ++ cond b (e ∷ []) []) (eq-eqb e.job j (sym is))

    of_another : (j : ℕ) → j ≢ e.job → entries_of j (history ++ e ∷ []) ≡ entries_of j history
    of_another j not =
        filter-append (λ d. d.job == j) history (e ∷ [])
        ∙ (ap (λ b. entries_of j history ++ cond b (e ∷ []) []) (ne_eqb e.job j (λ is. not (sym is))) ∙ append-nil (entries_of j history))

    -- Its job has a list.
    pub split_more : (ys : List Entry) → e.job < n → ys ≡ get_or lists e.job ys → slice_set lists e.job (ys ++ e ∷ []) ≡ by_job n (history ++ e ∷ [])
    split_more ys within at =
        let inside : e.job < length lists = omega (arith, within, count_of_lists) in
        fill_by_all (λ j. entries_of j (history ++ e ∷ [])) _ n [] (length-set lists e.job (ys ++ e ∷ []) ∙ count_of_lists)
        (λ k h. elim (cases_eq k e.job) [
          | inl own ↦ get_or-set_at lists e.job k (ys ++ e ∷ []) [] own inside
              ∙ (ap (λ zs. zs ++ e ∷ []) (at ∙ (list_of e.job ys within ∙ ap (λ j. entries_of j history) (sym own))) ∙ sym (of_its_job k own))
          | inr other ↦ get_or-set_other lists e.job k (ys ++ e ∷ []) [] other ∙ (list_of k [] h ∙ sym (of_another k other))
        ])

    -- Its job has none.
    pub split_same : n ≤ e.job → lists ≡ by_job n (history ++ e ∷ [])
    split_same past =
        fill_by_all (λ j. entries_of j (history ++ e ∷ [])) lists n [] count_of_lists
        (λ k h. let other : k ≢ e.job = omega arith in list_of k [] h ∙ sym (of_another k other))
