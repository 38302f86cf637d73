-- The known part of a path, name by name.
use Rattle.std.proofs.Common.{◌≡◌, ◌==◌, ◌≤◌, ◌+◌, ℕ, suc, arith, Bool, true, false, ◌&&◌, [], ◌∷◌, ◌++◌, length, drop, Some, None, refl, sym, ap, ◌∙◌, append-nil, append_assoc}
use Rattle.std.specs.Prelude.{slice_get, if◌then◌else◌}
use Rattle.std.proofs.lemmas.Bool.Decides.{nat_tests, Decides-eqb}
use Rattle.std.proofs.lemmas.List.{drop_more, drop_all}
use Rattle.std.proofs.lemmas.Option.{get_or_from_slice_get, slice_get_within}
use Rattle.hub_path.specs.Path.{Name, Path}
use Rattle.hub_folded.specs.Fold.{Folding, fold_name, fold_path, knows, knows_path}
use Rattle.hub_folded.specs.Lines.{known_part}

at-name : (p : Path) (i : ℕ) (n : Name) → slice_get p i ≡ Some n → drop i p ≡ n ∷ drop (i + 1) p
at-name p i n e =
    drop_more p i n (slice_get_within p i n e)
    ∙ ap (λ m. m ∷ drop (i + 1) p) (get_or_from_slice_get p i n n e)

module _ (F : Folding) where
  abbrev next : Name → Path → Bool → Path
  next n s b = if b then fold_name F n ∷ known_part F s else []

  module _ (p : Path) (i : ℕ) (n : Name) (e : slice_get p i ≡ Some n) (part whole : Path)
      (before : part ++ known_part F (drop i p) ≡ whole) where
    at : part ++ next n (drop (i + 1) p) (knows F n) ≡ whole
    at = sym (ap (λ s. part ++ known_part F s) (at-name p i n e)) ∙ before

    pub part-stops : knows F n ≡ false → part ≡ whole
    part-stops h =
        sym (append-nil part)
        ∙ (sym (ap (λ b. part ++ next n (drop (i + 1) p) b) h) ∙ at)

    pub part-grows : (new : Path) (m : Name) → knows F n ≡ true → m ≡ fold_name F n → new ≡ part ++ m ∷ []
        → new ++ known_part F (drop (i + 1) p) ≡ whole
    part-grows new m h same more =
        (λ j. (more ∙ ap (λ k. part ++ k ∷ []) same) j ++ known_part F (drop (i + 1) p))
        ∙ (append_assoc part (fold_name F n ∷ []) (known_part F (drop (i + 1) p))
        ∙ (sym (ap (λ b. part ++ next n (drop (i + 1) p) b) h) ∙ at))

  pub part-ends : (p : Path) (i : ℕ) (part whole : Path) → length p ≤ i
      → part ++ known_part F (drop i p) ≡ whole → part ≡ whole
  part-ends p i part whole l before =
      sym (append-nil part)
      ∙ (sym (ap (λ s. part ++ known_part F s) (drop_all i p l)) ∙ before)

  -- A path is known if its known part has all of its names.
  suc-same : (a b : ℕ) → (suc a == suc b) ≡ (a == b)
  suc-same a b = grind (arith, nat_tests)

  zero-other : (a : ℕ) → (0 == suc a) ≡ false
  zero-other a = grind (arith, nat_tests)

  pub length-known : (p : Path) → (length (known_part F p) == length p) ≡ knows_path F p
  length-known [] = refl
  length-known (n ∷ p) = go (knows F n) (length-known p)
    where
      go : (b : Bool) → (length (known_part F p) == length p) ≡ knows_path F p
          → (length (next n p b) == suc (length p)) ≡ (b && knows_path F p)
      go true h = suc-same (length (known_part F p)) (length p) ∙ h
      go false h = zero-other (length p)

  pub part-whole : (p : Path) → knows_path F p ≡ true → known_part F p ≡ fold_path F p
  part-whole [] h = refl
  part-whole (n ∷ p) h = go (knows F n) (part-whole p) h
    where
      go : (b : Bool) → (knows_path F p ≡ true → known_part F p ≡ fold_path F p)
          → (b && knows_path F p) ≡ true → next n p b ≡ fold_path F (n ∷ p)
      go true rest h = ap (λ s. fold_name F n ∷ s) (rest h)
      go false rest h = cc

  module _ (p part : Path) (is : part ≡ known_part F p) where
    same : (length part == length p) ≡ knows_path F p
    same = ap (λ s. length s == length p) is ∙ length-known p

    pub path-known : length part ≡ length p
        → Some part ≡ (if knows_path F p then Some (fold_path F p) else None)
    path-known h =
        let known : knows_path F p ≡ true =
        sym same ∙ (Decides-eqb (length part) (length p)).1 h in
        ap Some (is ∙ part-whole p known)
        ∙ ap (λ b. if b then Some (fold_path F p) else None) (sym known)

    pub path-unknown : (length part ≡ length p → ⊥)
        → None ≡ (if knows_path F p then Some (fold_path F p) else None)
    path-unknown h = go (knows_path F p) refl
      where
        go : (b : Bool) → knows_path F p ≡ b → None ≡ (if b then Some (fold_path F p) else None)
        go true e = absurd (h ((Decides-eqb (length part) (length p)).0 (same ∙ e)))
        go false e = refl
