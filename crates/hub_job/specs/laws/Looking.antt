-- A job alone makes all its Looks first, and they tell the view of the two replicas.
use Rattle.std.proofs.Common.{◌≡◌, ◌≤◌, ◌+◌, Bool, true, false, cond, not, ◌||◌, List, [], ◌∷◌, ◌++◌, map, Option, Some, None, refl, ap, sym, ◌∙◌, subst, arith, append-nil}
use Rattle.std.specs.Prelude.{ℕ, zero, suc, if◌then◌else◌, filter, find, unwrap_or}
use Rattle.std.specs.List.{list_any}
use Rattle.std.specs.Ordering.{eq_by_cmp}
use Rattle.std.proofs.lemmas.Bool.{false≢true, or_left, or_right, not-true, not-false}
use Rattle.hub_path.specs.Path.{Path, path_cmp}
use Rattle.hub_path.specs.Sides.{other}
use Rattle.hub_path.specs.declared.side.Side.{Side}
use Rattle.hub_path.specs.declared.side.Side.TheVariants.{Left, Right}
use Rattle.hub_profile.specs.Parts.{Parts, IsProfile, at_side}
use Rattle.hub_tree.specs.Tree.{Replica, Archive, IsTree}
use Rattle.hub_tree.specs.laws.Between.{among}
use Rattle.hub_tree.specs.laws.Order.{same_path, path_itself}
use Rattle.hub_reconcile.specs.Sight.{sight}
use Rattle.hub_reconcile.specs.Picture.{view_by, needed, was_seen}
use Rattle.hub_reconcile.specs.Sides.{side_eq}
use Rattle.hub_reconcile.specs.Sync.{of_side, root_or_top, view_of, sights_of}
use Rattle.hub_reconcile.specs.laws.Looks.{seen_told}
use Rattle.hub_reconcile.specs.laws.Looked.{told_view}
use Rattle.hub_reconcile.specs.laws.Needed.{known, needed_known, unseen, unseen_less}
use Rattle.hub_job.specs.declared.op.Op.TheVariants.{Look}
use Rattle.hub_job.specs.declared.op.Next.TheVariants.{Ask, Stopped}
use Rattle.hub_job.specs.declared.log.Logged.{Logged}
use Rattle.hub_job.specs.Machine.{answer, after}
use Rattle.hub_job.specs.Job.{told, sights, view_in, missing, is_refused, steps_made, step_or_end, look_or, next}
use Rattle.hub_job.specs.Run.{Pair, root_at, logged, act_on, pair_run}
use Rattle.hub_job.specs.laws.Making.{Ready, turn_is, none_more}

no_none : {x : Path} → Some x ≡ None → ⊥
no_none e = cc

-- Of two equal numbers of turns, one less.
pub one_less : (a b : ℕ) → suc a ≡ suc b → a ≡ b
one_less a b e = omega (arith, e)

-- What is found passes, and is there; where nothing is found, nothing passes.
found_is : (f : Path → Bool) (xs : List Path) (p : Path) → find f xs ≡ Some p → (f p ≡ true)
    × (among p xs ≡ true)
found_is f [] p e = cc
found_is f (x ∷ xs) p e =
    elim (f x) as (λ b. f x ≡ b → cond b (Some x) (find f xs) ≡ Some p → (f p ≡ true)
    × (among p (x ∷ xs) ≡ true)) [
      | true ↦ λ g h.
          let is : x ≡ p = ap (λ o. unwrap_or o x) h in (
            ap f (sym is) ∙ g,
            or_left _ _ (ap (λ y. eq_by_cmp path_cmp y x) (sym is) ∙ path_itself x),
          )
      | false ↦ λ g h. let w = found_is f xs p h in (w.0, or_right (eq_by_cmp path_cmp p x) _ w.1)
    ] refl e

none_found : (f : Path → Bool) (xs : List Path) (q : Path) → find f xs ≡ None → among q xs ≡ true
    → f q ≡ false
none_found f [] q e h = absurd (false≢true h)
none_found f (x ∷ xs) q e h =
    elim (f x) as (λ b. f x ≡ b → cond b (Some x) (find f xs) ≡ None → f q ≡ false) [
      | true ↦ λ g i. absurd (no_none i)
      | false ↦ λ g i. elim (eq_by_cmp path_cmp q x) as (λ c. eq_by_cmp path_cmp q x ≡ c
          → (c || among q xs) ≡ true → f q ≡ false) [
            | true ↦ λ s t. ap f (same_path q x s) ∙ g
            | false ↦ λ s t. none_found f xs q i t
          ] refl h
    ] refl e

-- The paths of Looks on a side.
abbrev on : Side → List (Side × Path) → List Path
on k ds = map (λ d. d.1) (filter (λ d. side_eq d.0 k) ds)

on-push : (k : Side) (ds : List (Side × Path)) (d : Side × Path)
    → on k (ds ++ d ∷ []) ≡ on k ds ++ on k (d ∷ [])
on-push k [] d = refl
on-push k (c ∷ ds) d =
    elim (side_eq c.0 k) as
    (λ b. map (λ (d : Side × Path). d.1)
    (cond b (c ∷ filter (λ d. side_eq d.0 k) (ds ++ d ∷ []))
    (filter (λ d. side_eq d.0 k) (ds ++ d ∷ [])))
    ≡ map (λ (d : Side × Path). d.1)
    (cond b (c ∷ filter (λ d. side_eq d.0 k) ds) (filter (λ d. side_eq d.0 k) ds))
    ++ on k (d ∷ [])) [
      | true ↦ ap (λ ps. c.1 ∷ ps) (on-push k ds d)
      | false ↦ on-push k ds d
    ]

-- A Look on a side is one more there, and none on the other side.
on-here : (k : Side) (ds : List (Side × Path)) (p : Path)
    → on k (ds ++ (k, p) ∷ []) ≡ on k ds ++ p ∷ []
on-here Left ds p = on-push Left ds (Left, p)
on-here Right ds p = on-push Right ds (Right, p)

on-there : (k : Side) (ds : List (Side × Path)) (p : Path)
    → on (other k) (ds ++ (k, p) ∷ []) ≡ on (other k) ds
on-there Left ds p = on-push Right ds (Left, p) ∙ append-nil (on Right ds)
on-there Right ds p = on-push Left ds (Right, p) ∙ append-nil (on Left ds)

-- Less on a side, and the same on the other one, is less in all.
less_in_all : (f g : Side → ℕ) (k : Side) → f k + 1 ≤ g k → f (other k) ≡ g (other k)
    → (f Left + f Right) + 1 ≤ g Left + g Right
less_in_all f g Left less same = omega arith
less_in_all f g Right less same = omega arith

sum_then : (m n : ℕ) → (1 + m) + n ≡ suc (m + n)
sum_then m n = omega arith

module _ (P : Parts) (facts : IsProfile P) (A B : Replica) (O : Archive) (left : IsTree A)
    (right : IsTree B) (j : ℕ) where
  abbrev R : Side → Replica
  R k = of_side A B k

  abbrev looked : Side × Path → Logged
  looked d = logged P j d.0 (Look d.1) (R d.0)

  abbrev pub log_by : List (Side × Path) → List Logged
  log_by ds = map looked ds

  abbrev pub at : List (Side × Path) → Pair
  at ds = record { log = log_by ds; left = A; right = B }

  told_look : (k : Side) (p : Path) → told (Look p) (answer (R k) P (root_at P k) (Look p))
      ≡ (p, sight P (root_at P k) (R k) p) ∷ []
  unfolding answer
  told_look k p = refl

  by_side : (side k : Side) (p : Path) (ds : List (Side × Path))
      → sights (log_by ds) k ≡ sights_of P A B k (on k ds)
      → sights (log_by ((side, p) ∷ ds)) k ≡ sights_of P A B k (on k ((side, p) ∷ ds))
  by_side Left Left p ds e = ap (λ ss. told (Look p) (answer A P (root_at P Left) (Look p)) ++ ss) e
      ∙ ap (λ ss. ss ++ sights_of P A B Left (on Left ds)) (told_look Left p)
  by_side Right Right p ds e =
      ap (λ ss. told (Look p) (answer B P (root_at P Right) (Look p)) ++ ss) e
      ∙ ap (λ ss. ss ++ sights_of P A B Right (on Right ds)) (told_look Right p)
  by_side Left Right p ds e = e
  by_side Right Left p ds e = e

  sights_looked : (k : Side) (ds : List (Side × Path))
      → sights (log_by ds) k ≡ sights_of P A B k (on k ds)
  sights_looked k [] = refl
  sights_looked k (d ∷ ds) = by_side d.0 k d.1 ds (sights_looked k ds)

  not_refused : (ds : List (Side × Path)) → list_any (λ e. is_refused e.step.answer) (log_by ds)
      ≡ false
  unfolding answer
  not_refused [] = refl
  not_refused (d ∷ ds) = not_refused ds

  no_steps : (ds : List (Side × Path)) → steps_made (log_by ds) ≡ 0
  no_steps [] = refl
  no_steps (d ∷ ds) = no_steps ds

  pub next_is : (ds : List (Side × Path))
      → next P O (log_by ds) ≡ look_or Left
      (look_or Right (step_or_end P O (log_by ds)) (missing P (log_by ds) Right))
      (missing P (log_by ds) Left)
  unfolding next
  next_is ds =
      ap (λ b. if b then Stopped else look_or Left
      (look_or Right (step_or_end P O (log_by ds)) (missing P (log_by ds) Right))
      (missing P (log_by ds) Left)) (not_refused ds)

  log-push : (ds : List (Side × Path)) (d : Side × Path)
      → log_by ds ++ looked d ∷ [] ≡ log_by (ds ++ d ∷ [])
  log-push [] d = refl
  log-push (c ∷ ds) d = ap (λ es. looked c ∷ es) (log-push ds d)

  pub act_look : (ds : List (Side × Path)) (k : Side) (p : Path)
      → act_on P j (at ds) (Ask k (Look p)) ≡ at (ds ++ (k, p) ∷ [])
  unfolding after
  act_look ds Left p = ap (λ l. record { log = l; left = A; right = B }) (log-push ds (Left, p))
  act_look ds Right p = ap (λ l. record { log = l; left = A; right = B }) (log-push ds (Right, p))

  -- What is missing is known, and wasn't seen.
  missing_is : (ds : List (Side × Path)) (k : Side) (p : Path) → missing P (log_by ds) k ≡ Some p
      → (among p (known P (R k)) ≡ true) × (among p (on k ds) ≡ false)
  missing_is ds k p e =
      let ss = sights_of P A B k (on k ds) in
      let w = found_is (λ p. not (was_seen ss p)) (needed P ss) p
      (ap (λ ss. find (λ p. not (was_seen ss p)) (needed P ss)) (sym (sights_looked k ds)) ∙ e) in (
        needed_known P A B k (on k ds) p w.1,
        sym (seen_told (sight P (root_or_top (at_side P.roots k)) (R k)) (on k ds) p)
            ∙ not-true _ w.0,
      )

  none_missing : (ds : List (Side × Path)) (k : Side) → missing P (log_by ds) k ≡ None → (q : Path)
      → among q (needed P (sights_of P A B k (on k ds))) ≡ true → among q (on k ds) ≡ true
  none_missing ds k e q h =
      let ss = sights_of P A B k (on k ds) in
      sym (seen_told (sight P (root_or_top (at_side P.roots k)) (R k)) (on k ds) q)
      ∙ not-false _
      (none_found (λ p. not (was_seen ss p)) (needed P ss) q
      (ap (λ ss. find (λ p. not (was_seen ss p)) (needed P ss)) (sym (sights_looked k ds)) ∙ e) h)

  -- How many Looks may come.
  abbrev left_over : Side → List (Side × Path) → ℕ
  left_over k ds = unseen (known P (R k)) (on k ds)

  abbrev measure : List (Side × Path) → ℕ
  measure ds = left_over Left ds + left_over Right ds

  fewer : (k : Side) (ds : List (Side × Path)) (p : Path) → missing P (log_by ds) k ≡ Some p
      → measure (ds ++ (k, p) ∷ []) + 1 ≤ measure ds
  fewer k ds p e =
      let w = missing_is ds k p e in
      less_in_all (λ i. left_over i (ds ++ (k, p) ∷ [])) (λ i. left_over i ds) k
      (subst (λ ps. unseen (known P (R k)) ps + 1 ≤ left_over k ds) (sym (on-here k ds p))
      (unseen_less (known P (R k)) (on k ds) p w.0 w.1))
      (ap (unseen (known P (R (other k)))) (on-there k ds p))

  -- All Looks.
  abbrev AllLooked : ℕ → List (Side × Path) → Type 0
  AllLooked fuel ds = (m : ℕ) × (es : List (Side × Path))
      × ((n : ℕ) → pair_run P O j (m + n) (at ds) ≡ pair_run P O j n (at es)) × (m ≤ fuel)
      × ((k : Side) → missing P (log_by es) k ≡ None)

  one_look : (fuel : ℕ) (ds : List (Side × Path)) (k : Side) (p : Path)
      → next P O (log_by ds) ≡ Ask k (Look p) → AllLooked fuel (ds ++ (k, p) ∷ [])
      → AllLooked (suc fuel) ds
  one_look fuel ds k p e w = (
    1 + w.0,
    w.1,
    λ n. ap (λ i. pair_run P O j i (at ds)) (sum_then w.0 n)
        ∙ (turn_is P O j (w.0 + n) (at ds) _ e
        ∙ (ap (pair_run P O j (w.0 + n)) (act_look ds k p) ∙ w.2 n)),
    omega (arith, w.3),
    w.4,
  )

  pub both_none : (ds : List (Side × Path)) → missing P (log_by ds) Left ≡ None
      → missing P (log_by ds) Right ≡ None → (k : Side) → missing P (log_by ds) k ≡ None
  both_none ds e f Left = e
  both_none ds e f Right = f

  -- From each list with fewer left over, all Looks follow.
  abbrev More : ℕ → List (Side × Path) → Type 0
  More fuel ds =
      (es : List (Side × Path)) → measure es + 1 ≤ measure ds → (f : ℕ) → fuel ≡ suc f
      → AllLooked f es

  look_first : (fuel : ℕ) (ds : List (Side × Path)) (k : Side) (p : Path)
      → missing P (log_by ds) k ≡ Some p → next P O (log_by ds) ≡ Ask k (Look p)
      → measure ds ≤ fuel → More fuel ds → AllLooked fuel ds
  look_first zero ds k p e n h more = absurd (omega (arith, h, fewer k ds p e))
  look_first (suc fuel) ds k p e n h more =
      one_look fuel ds k p n (more (ds ++ (k, p) ∷ []) (fewer k ds p e) fuel refl)

  looks_by : (fuel : ℕ) (ds : List (Side × Path)) (l r : Option Path)
      → missing P (log_by ds) Left ≡ l → missing P (log_by ds) Right ≡ r → measure ds ≤ fuel
      → More fuel ds → AllLooked fuel ds
  looks_by fuel ds None None e f h more =
      (0, ds, λ n. ap (λ i. pair_run P O j i (at ds)) (none_more n), omega arith, both_none ds e f)
  looks_by fuel ds (Some p) r e f h more =
      look_first fuel ds Left p e (next_is ds
      ∙ ap (λ o. look_or Left
      (look_or Right (step_or_end P O (log_by ds)) (missing P (log_by ds) Right)) o) e) h more
  looks_by fuel ds None (Some p) e f h more =
      look_first fuel ds Right p f (next_is ds
      ∙ (ap (λ o. look_or Left
      (look_or Right (step_or_end P O (log_by ds)) (missing P (log_by ds) Right)) o) e
      ∙ ap (λ o. look_or Right (step_or_end P O (log_by ds)) o) f)) h more

  pub all_looks : (fuel : ℕ) (ds : List (Side × Path)) → measure ds ≤ fuel → AllLooked fuel ds
  all_looks zero ds h =
      looks_by zero ds (missing P (log_by ds) Left) (missing P (log_by ds) Right) refl refl h
      (λ es l f e. absurd (omega (arith, h, l)))
  all_looks (suc fuel) ds h =
      looks_by (suc fuel) ds (missing P (log_by ds) Left) (missing P (log_by ds) Right) refl refl h
      (λ es l f e. subst (λ i. AllLooked i es) (one_less fuel f e)
      (all_looks fuel es (omega (arith, h, l))))

  -- After them the log tells the view, and the steps begin.
  pub looked_view : (ds : List (Side × Path)) → ((k : Side) → missing P (log_by ds) k ≡ None)
      → view_in P O (log_by ds) ≡ view_of P A B O
  looked_view ds none = ap (view_by P O) (λ i k. sights_looked k ds i)
      ∙ told_view P facts A B O left right (λ k. on k ds) (λ k q h. none_missing ds k (none k) q h)

  pub looked_ready : (ds : List (Side × Path)) → Ready (log_by ds) [] (log_by ds)
  looked_ready ds = record { count = no_steps ds; ok = not_refused ds; told = λ k. refl }
