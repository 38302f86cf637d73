-- A path is reached exactly where it is walked down to.
use Rattle.std.proofs.Common.{◌≡◌, ◌==◌, ◌⊎◌, inl, inr, Bool, true, false, not, ◌&&◌, ◌||◌, List, [], ◌∷◌, length, refl, sym, ap, ◌∙◌}
use Rattle.std.specs.Prelude.{IsTrue}
use Rattle.std.specs.List.{list_any, list_all}
use Rattle.std.proofs.lemmas.Bool.{and_parts, or_parts}
use Rattle.std.proofs.lemmas.List.Folds.{list_any-append, list_all-append}
use Rattle.hub_path.specs.Path.{Name, Path, name_eq, path_eq, is_over, is_path, is_place, none_over, prefixes}
use Rattle.hub_path.specs.laws.General.{is_over-reflexive, is_over-transitive, is_over-comparable}
use Rattle.hub_path.specs.laws.Text.{prefixes-parent, prefixes-over}
use Rattle.hub_profile.specs.Parts.{Parts, IsProfile}
use Rattle.std.proofs.Math.Bool.{and-true, and-false, and-or_distrib_left, or-false}
use Rattle.hub_text.specs.laws.Test.{any-and, any-map, any-or, or-assoc, any-alike}
use Rattle.hub_glob.specs.laws.OneStep.{nonzero}
use Rattle.hub_reach.specs.Reach.{reach, is_open, is_ignored}
use Rattle.hub_reach.specs.Walk.{above, is_inside, is_cut, is_walked}

module _ {X : Type 0} where
  any-alike-where : (h f g : X → Bool) (xs : List X) → list_all h xs ≡ true
      → ((x : X) → h x ≡ true → f x ≡ g x) → list_any f xs ≡ list_any g xs
  any-alike-where h f g [] all same = refl
  any-alike-where h f g (x ∷ xs) all same =
      let parts = and_parts (h x) (list_all h xs) all in
      (λ i. same x parts.0 i || any-alike-where h f g xs parts.1 same i)

  any-none-and : (f g : X → Bool) (xs : List X) → list_any f xs ≡ false
      → list_any (λ x. f x && g x) xs ≡ false
  any-none-and f g [] none = refl
  any-none-and f g (x ∷ xs) none =
      let parts = or_parts (f x) (list_any f xs) none in
      (λ i. (parts.0 i && g x) || any-none-and f g xs parts.1 i)

-- To be over a path is to be empty or one of its prefixes.
empty-eq : (s : Path) → path_eq s [] ≡ (length s == 0)
empty-eq [] = refl
empty-eq (n ∷ s) = sym (nonzero (length s))

over-prefixes : (s q : Path) → is_over s q ≡ (length s == 0 || list_any (path_eq s) (prefixes q))
over-prefixes [] q = refl
over-prefixes (m ∷ s) [] = sym (or-false (length (m ∷ s) == 0) ∙ nonzero (length s))
over-prefixes (m ∷ s) (n ∷ q) =
    let same = name_eq m n in
    ap (λ b. same && b) (over-prefixes s q)
    ∙ (ap (λ b. same && (b || list_any (path_eq s) (prefixes q))) (sym (empty-eq s))
    ∙ (and-or_distrib_left same (path_eq s []) (list_any (path_eq s) (prefixes q))
    ∙ (ap (λ b. same && path_eq s [] || b) (any-and same (path_eq s) (prefixes q)
    ∙ any-map (path_eq (m ∷ s)) (λ r. n ∷ r) (prefixes q))
    ∙ ap (λ b. b || list_any (path_eq (m ∷ s)) (prefixes (n ∷ q))) (sym (nonzero (length s))))))

module _ (P : Parts) (n : Name) (rest : Path) where
  abbrev p : Path
  p = n ∷ rest

  over-parts : (s : Path)
      → is_over s p ≡ ((length s == 0 || list_any (path_eq s) (above p)) || path_eq s p)
  over-parts s =
      over-prefixes s p
      ∙ (ap (λ qs. length s == 0 || list_any (path_eq s) qs) (prefixes-parent n rest)
      ∙ (ap (λ b. length s == 0 || b) (list_any-append (path_eq s) (above p) (p ∷ [])
      ∙ ap (λ b. list_any (path_eq s) (above p) || b) (or-false (path_eq s p)))
      ∙ or-assoc (length s == 0) (list_any (path_eq s) (above p)) (path_eq s p)))

  pub kept-over : list_any (λ s. is_over s p) P.paths
      ≡ (is_inside P p || list_any (λ s. path_eq s p) P.paths)
  kept-over =
      any-alike (λ s. is_over s p) (λ s. (length s == 0 || list_any (path_eq s) (above p))
      || path_eq s p) P.paths over-parts
      ∙ sym (any-or (λ s. length s == 0 || list_any (path_eq s) (above p))
      (λ s. path_eq s p) P.paths)

  -- What stands above a path is over it.
  above-over : list_all (λ q. is_over q p) (above p) ≡ true
  above-over = (and_parts (list_all (λ q. is_over q p) (above p))
      (list_all (λ q. is_over q p) (p ∷ []))
      (sym (list_all-append (λ q. is_over q p) (above p) (p ∷ []))
      ∙ (ap (list_all (λ q. is_over q p)) (sym (prefixes-parent n rest)) ∙ prefixes-over p))).0

  abbrev is_blocked : Path → Bool
  is_blocked s = list_any (λ q. is_over s q && is_ignored P q) (above p)

  abbrev is_cut_by : List Path → Bool
  is_cut_by ss = list_any (λ q. is_ignored P q && list_any (λ s. is_over s q) ss) (above p)

  open-is : (s : Path) → is_over s p ≡ true
      → is_open P s p ≡ (not (is_blocked s) && not (is_ignored P p))
  open-is s over =
      ap (λ qs. not (list_any (λ q. is_over s q && is_ignored P q) qs)) (prefixes-parent n rest)
      ∙ (ap not (list_any-append (λ q. is_over s q && is_ignored P q) (above p) (p ∷ []))
      ∙ (ap (λ b. not (is_blocked s || (b && is_ignored P p || false))) over
      ∙ neither (is_blocked s) (is_ignored P p)))
    where
      neither : (a b : Bool) → not (a || (b || false)) ≡ (not a && not b)
      neither true b = refl
      neither false true = refl
      neither false false = refl

  -- Where a kept value is over the path, no other one is over a path that is over it.
  others : (s : Path) (ss : List Path) → is_over s p ≡ true
      → list_all (λ t. not (is_over s t || is_over t s)) ss ≡ true
      → (q : Path) → is_over q p ≡ true → list_any (λ t. is_over t q) ss ≡ false
  others s [] over apart q h = refl
  others s (t ∷ ss) over apart q h =
      let parts = and_parts (not (is_over s t || is_over t s))
      (list_all (λ t. not (is_over s t || is_over t s)) ss) apart in
      (λ i. away (is_over t q) refl parts.0 i || others s ss over parts.1 q h i)
    where
      clash : (a b : Bool) → not (a || b) ≡ true → (a ≡ true) ⊎ (b ≡ true) → ⊥
      clash true b e c = cc
      clash false true e c = cc
      clash false false e (inl c) = cc
      clash false false e (inr c) = cc

      away : (b : Bool) → is_over t q ≡ b → not (is_over s t || is_over t s) ≡ true
          → is_over t q ≡ false
      away true e k =
          absurd (clash (is_over s t) (is_over t s) k
          (is_over-comparable s t p over (is_over-transitive t q p e h)))
      away false e k = e

  -- What isn't over the path isn't over one that is.
  not_over : (s q : Path) → is_over s p ≡ false → is_over q p ≡ true → is_over s q ≡ false
  not_over s q away h = go (is_over s q) refl
    where
      go : (b : Bool) → is_over s q ≡ b → is_over s q ≡ false
      go true e = let yes : is_over s p ≡ true = is_over-transitive s q p e h in cc
      go false e = e

  cut-one : (s : Path) (ss : List Path) → is_over s p ≡ true
      → list_all (λ t. not (is_over s t || is_over t s)) ss ≡ true
      → is_cut_by (s ∷ ss) ≡ is_blocked s
  cut-one s ss over apart =
      any-alike-where (λ q. is_over q p)
      (λ q. is_ignored P q && (is_over s q || list_any (λ t. is_over t q) ss))
      (λ q. is_over s q && is_ignored P q) (above p) above-over
      (λ q h. ap (λ b. is_ignored P q && (is_over s q || b)) (others s ss over apart q h)
      ∙ turned (is_ignored P q) (is_over s q))
    where
      turned : (a b : Bool) → (a && (b || false)) ≡ (b && a)
      turned true true = refl
      turned true false = refl
      turned false true = refl
      turned false false = refl

  cut-less : (s : Path) (ss : List Path) → is_over s p ≡ false → is_cut_by (s ∷ ss) ≡ is_cut_by ss
  cut-less s ss away =
      any-alike-where (λ q. is_over q p)
      (λ q. is_ignored P q && (is_over s q || list_any (λ t. is_over t q) ss))
      (λ q. is_ignored P q && list_any (λ t. is_over t q) ss) (above p) above-over
      (λ q h. ap (λ b. is_ignored P q && (b || list_any (λ t. is_over t q) ss))
      (not_over s q away h))

  walked : (ss : List Path) → none_over ss ≡ true
      → list_any (λ s. is_over s p && is_open P s p) ss
      ≡ (not (is_cut_by ss) && (not (is_ignored P p) && list_any (λ s. is_over s p) ss))
  walked [] h = sym (ap (λ b. not (is_cut_by []) && b) (and-false (not (is_ignored P p)))
      ∙ and-false (not (is_cut_by [])))
  walked (s ∷ ss) h =
      let parts = and_parts (list_all (λ t. not (is_over s t || is_over t s)) ss)
      (none_over ss) h in
      go (is_over s p) refl parts.0 (walked ss parts.1)
    where
      go : (b : Bool) → is_over s p ≡ b → list_all (λ t. not (is_over s t || is_over t s)) ss ≡ true
          → list_any (λ s. is_over s p && is_open P s p) ss
          ≡ (not (is_cut_by ss) && (not (is_ignored P p) && list_any (λ s. is_over s p) ss))
          → list_any (λ s. is_over s p && is_open P s p) (s ∷ ss)
          ≡ (not (is_cut_by (s ∷ ss))
          && (not (is_ignored P p) && list_any (λ s. is_over s p) (s ∷ ss)))
      go true e apart so_far =
          let rest_none = any-none-and (λ t. is_over t p) (λ t. is_open P t p) ss
          (others s ss e apart p (is_over-reflexive p)) in
          (λ i. (e i && open-is s e i) || rest_none i)
          ∙ (or-false (not (is_blocked s) && not (is_ignored P p))
          ∙ (λ i. not (sym (cut-one s ss e apart) i) && (sym (and-true (not (is_ignored P p))) i))
          ∙ (λ i. not (is_cut_by (s ∷ ss))
          && (not (is_ignored P p) && (sym e i || list_any (λ t. is_over t p) ss))))
      go false e apart so_far =
          (λ i. (e i && is_open P s p) || so_far i)
          ∙ (λ i. not (sym (cut-less s ss e) i)
          && (not (is_ignored P p) && (sym e i || list_any (λ t. is_over t p) ss)))

  walk : IsProfile P → IsTrue (is_path p) → reach P p ≡ is_walked P p
  unfolding reach
  walk facts path =
      let apart : none_over P.paths ≡ true =
      (and_parts (not (length P.paths == 0) && list_all is_place P.paths)
      (none_over P.paths) facts.paths).1 in
      (λ i. path i && walked P.paths apart i)
      ∙ ap (λ b. not (is_cut P p) && (not (is_ignored P p) && b)) kept-over

pub walks : (P : Parts) (p : Path) → IsProfile P → IsTrue (is_path p) → reach P p ≡ is_walked P p
walks P [] facts path = cc
walks P (n ∷ rest) facts path = walk P n rest facts path

pub kept-over-path : (P : Parts) (p : Path) → IsTrue (is_path p)
    → list_any (λ s. is_over s p) P.paths ≡ (is_inside P p || list_any (λ s. path_eq s p) P.paths)
kept-over-path P [] path = cc
kept-over-path P (n ∷ rest) path = kept-over P n rest
