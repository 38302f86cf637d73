-- One step of the merge, as the loop over Looks makes it.
use Rattle.std.proofs.Common.{◌≡◌, ◌+◌, ◌<◌, ◌≤◌, ◌⊎◌, inl, inr, ⊎_elim, true, false, cond, ◌&&◌, List, [], ◌∷◌, ◌++◌, length, Option, Some, None, refl, ap, sym, ◌∙◌, subst, append-nil, arith}
use Rattle.std.specs.Prelude.{IsTrue}
use Rattle.std.specs.FinMap as fin
use Rattle.std.specs.FinMap.Entries.{is_sorted}
use Rattle.std.specs.Ordering.{is_lt}
use Rattle.std.proofs.lemmas.List.{length-map}
use Rattle.hub_path.specs.Path.{Path, path_cmp, path_eq}
use Rattle.hub_profile.specs.Parts.{Parts}
use Rattle.hub_reach.specs.Reach.{reach}
use Rattle.hub_tree.specs.Tree.{Archive}
use Rattle.hub_tree.specs.declared.contents.Mark.{Mark}
use Rattle.hub_reconcile.specs.Merge.{seen_paths, paths_in, first_of, lesser, least_first, without_first, past_of, past_sight, front_sight, front_mark, IsSeen}
use Rattle.hub_reconcile.specs.Picture.{told_by}
use Rattle.hub_reconcile.specs.Rows.{is_anywhere, is_counted}
use Rattle.hub_reconcile.specs.Sight.{Sight}
use Rattle.hub_reconcile.specs.declared.look.Look.{Look}
use Rattle.hub_reconcile.specs.declared.row.Row.{Row}
use Rattle.hub_reconcile.proofs.Merging.{IsMerged, merge_start, merge_kept, merge_skipped, past_seen}
use Rattle.std.proofs.lemmas.Option.{same_Some}
use Rattle.hub_reconcile.specs.laws.Views.{paths_same}

-- The lesser of two paths is one of them.
lesser_one : (a b : Option Path) (p : Path) → lesser a b ≡ Some p → (a ≡ Some p) ⊎ (b ≡ Some p)
lesser_one None b p e = inr e
lesser_one (Some x) None p e = inl e
lesser_one (Some x) (Some y) p e =
    elim (is_lt (path_cmp y x)) as (λ b. cond b (Some y) (Some x) ≡ Some p → (Some x ≡ Some p) ⊎ (Some y ≡ Some p)) [
      | true ↦ λ h. inr h
      | false ↦ λ h. inl h
    ] e

past_no_longer : (p : Path) (ps : List Path) → length (without_first p ps) ≤ length ps
past_no_longer p [] = omega arith
past_no_longer p (x ∷ xs) =
    elim (path_eq x p) as (λ b. length (cond b xs (x ∷ xs)) ≤ length (x ∷ xs)) [ true ↦ omega arith | false ↦ omega arith ]

past_shorter : (p : Path) (ps : List Path) → first_of ps ≡ Some p → length (without_first p ps) < length ps
past_shorter p [] e = cc
past_shorter p (x ∷ xs) e =
    let same : path_eq x p ≡ true = ap (path_eq x) (sym (same_Some x p e)) ∙ paths_same x in
    let step : length (without_first p (x ∷ xs)) ≡ length xs = ap (λ b. length (cond b xs (x ∷ xs))) same in
    omega (arith, step)

-- Without the least path, there are fewer paths.
fewer_paths : (ls rs os : List Path) (p : Path) → least_first ls rs os ≡ Some p
    → length (without_first p ls) + length (without_first p rs) + length (without_first p os) < length ls + length rs + length os
fewer_paths ls rs os p e =
    let l = past_no_longer p ls in
    let r = past_no_longer p rs in
    let o = past_no_longer p os in
    ⊎_elim
    (λ h.
    ⊎_elim
    (λ k. let s = past_shorter p ls k in omega (arith, s, r, o))
    (λ k. let s = past_shorter p rs k in omega (arith, s, l, o))
    (lesser_one (first_of ls) (first_of rs) p h))
    (λ k. let s = past_shorter p os k in omega (arith, s, l, r))
    (lesser_one (lesser (first_of ls) (first_of rs)) (first_of os) p e)

seen_length : (ss : List (Path × Sight)) → length (seen_paths ss) ≡ length ss
seen_length ss = length-map ss (λ s. s.0)

told_length : (ls : List Look) → length (seen_paths (told_by ls)) ≡ length ls
told_length ls = seen_length (told_by ls) ∙ length-map ls (λ l. (l.path.now, record { mark = l.mark; names = l.names.now; others = l.others }))

passed_length : (ls more : List Look) (p : Path) → told_by more ≡ past_sight p (told_by ls) → length more ≡ length (without_first p (seen_paths (told_by ls)))
passed_length ls more p e = sym (told_length more) ∙ ap (λ ss. length (seen_paths ss)) e ∙ ap length (past_seen p (told_by ls))

pub fewer : (ls rs : List Look) (os : List Path) (p : Path) → least_first (seen_paths (told_by ls)) (seen_paths (told_by rs)) os ≡ Some p
    → (ls2 rs2 : List Look) (os2 : List Path) → told_by ls2 ≡ past_sight p (told_by ls) → told_by rs2 ≡ past_sight p (told_by rs) → os2 ≡ without_first p os
    → length ls2 + length rs2 + length os2 < length ls + length rs + length os
fewer ls rs os p e ls2 rs2 os2 el er eo =
    let all = fewer_paths (seen_paths (told_by ls)) (seen_paths (told_by rs)) os p e in
    let a = passed_length ls ls2 p el in
    let b = passed_length rs rs2 p er in
    let c : length os2 ≡ length (without_first p os) = ap length eo in
    let x = told_length ls in
    let y = told_length rs in
    omega (arith, all, a, b, c, x, y)

module _ (P : Parts) (O : Archive) (L R : List (Path × Sight)) where
  same_merged : (rs rs2 : List Row) (l l2 r r2 : List (Path × Sight)) (o o2 : List (Path × Mark)) → rs2 ≡ rs → l2 ≡ l → r2 ≡ r → o2 ≡ o
      → IsMerged P O L R rs l r o → IsMerged P O L R rs2 l2 r2 o2
  same_merged rs rs2 l l2 r r2 o o2 ers el er eo m =
      subst (λ (x : List Row). IsMerged P O L R x l2 r2 o2) (sym ers)
      (subst (λ (x : List (Path × Sight)). IsMerged P O L R rs x r2 o2) (sym el)
      (subst (λ (x : List (Path × Sight)). IsMerged P O L R rs l x o2) (sym er)
      (subst (λ (x : List (Path × Mark)). IsMerged P O L R rs l r x) (sym eo) m)))

  pub start_on : (rs : List Row) (l r : List (Path × Sight)) (o : List (Path × Mark)) → rs ≡ [] → l ≡ L → r ≡ R → o ≡ fin.entries O
      → IsTrue (is_sorted path_cmp L) → IsTrue (is_sorted path_cmp R) → IsMerged P O L R rs l r o
  start_on rs l r o ers el er eo hl hr = same_merged [] rs L l R r (fin.entries O) o ers el er eo (merge_start P O L R hl hr)

  module _ (rows : List Row) (l r : List (Path × Sight)) (o : List (Path × Mark)) (m : IsMerged P O L R rows l r o) (row : Row) (q : Path) (same : row.path.now ≡ q)
      (least : least_first (seen_paths l) (seen_paths r) (paths_in o) ≡ Some q)
      (seen_left : IsSeen (front_sight q l) row.left) (seen_right : IsSeen (front_sight q r) row.right) (old : row.old ≡ front_mark q o)
      (more : List Row) (l2 r2 : List (Path × Sight)) (o2 : List (Path × Mark)) (el : l2 ≡ past_sight q l) (er : r2 ≡ past_sight q r) (eo : o2 ≡ past_of q o) where
    own_least : least_first (seen_paths l) (seen_paths r) (paths_in o) ≡ Some row.path.now
    own_least = least ∙ ap (λ z. Some z) (sym same)

    own_left : IsSeen (front_sight row.path.now l) row.left
    own_left = subst (λ (z : Path). IsSeen (front_sight z l) row.left) (sym same) seen_left

    own_right : IsSeen (front_sight row.path.now r) row.right
    own_right = subst (λ (z : Path). IsSeen (front_sight z r) row.right) (sym same) seen_right

    own_old : row.old ≡ front_mark row.path.now o
    own_old = old ∙ ap (λ z. front_mark z o) (sym same)

    onto : (rs : List Row) → more ≡ rs → IsMerged P O L R rs (past_sight row.path.now l) (past_sight row.path.now r) (past_of row.path.now o) → IsMerged P O L R more l2 r2 o2
    onto rs e n =
        same_merged rs more (past_sight row.path.now l) l2 (past_sight row.path.now r) r2 (past_of row.path.now o) o2 e
        (el ∙ ap (λ z. past_sight z l) (sym same)) (er ∙ ap (λ z. past_sight z r) (sym same)) (eo ∙ ap (λ z. past_of z o) (sym same)) n

    kept_on : (is_anywhere row && reach P row.path.now) ≡ true → more ≡ rows ++ row ∷ [] → IsMerged P O L R more l2 r2 o2
    kept_on h e = onto (rows ++ row ∷ []) e (merge_kept P O L R rows l r o m row own_least own_left own_right own_old h)

    skipped_on : (is_anywhere row && reach P row.path.now) ≡ false → more ≡ rows → IsMerged P O L R more l2 r2 o2
    skipped_on h e = onto rows e (merge_skipped P O L R rows l r o m row own_least own_left own_right own_old h)

    pub added_on : more ≡ rows ++ cond (is_counted P row) (row ∷ []) [] → IsMerged P O L R more l2 r2 o2
    added_on e =
        elim (is_counted P row) as (λ b. is_counted P row ≡ b → more ≡ rows ++ cond b (row ∷ []) [] → IsMerged P O L R more l2 r2 o2) [
          | true ↦ λ h k. kept_on h k
          | false ↦ λ h k. skipped_on h (k ∙ append-nil rows)
        ] refl e
