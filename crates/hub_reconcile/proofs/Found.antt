-- A search by halves among Looks in order finds the Look of a path, if there is one.
use Rattle.std.proofs.Common.{Ordering, ◌≡◌, true, false, cond, ◌||◌, List, [], ◌∷◌, ◌++◌, refl, ap, ◌∙◌, subst}
use Rattle.std.specs.List.Sorted.{IsStrictlySortedBy}
use Rattle.std.specs.Ordering.{eq_by_cmp, is_lt, ordering_reverse}
use Rattle.std.specs.declared.cmp.Ordering.TheVariants.{Less, Equal, Greater}
use Rattle.std.proofs.lemmas.Bool.{or_left, or_right}
use Rattle.hub_path.specs.laws.General.{path_cmp-total, path_cmp-exact}
use Rattle.hub_path.specs.Path.{Path, path_cmp, path_eq}
use Rattle.hub_tree.specs.laws.Order.{path_itself, same_path}
use Rattle.hub_tree.specs.laws.Between.{among, before, behind}
use Rattle.hub_reconcile.specs.Merge.{seen_paths}
use Rattle.hub_reconcile.specs.Picture.{sight_in, told_by}
use Rattle.hub_reconcile.specs.Sight.{Sight}
use Rattle.hub_reconcile.specs.declared.look.Look.{Look}
use Rattle.hub_reconcile.proofs.Merging.{none_seen}
use Rattle.hub_reconcile.specs.laws.Views.{apart_from}

past_front : (xs ys : List (Path × Sight)) (p : Path) → ((q : Path) → among q (seen_paths xs) ≡ true → path_cmp q p ≡ Less) → sight_in (xs ++ ys) p ≡ sight_in ys p
past_front [] ys p h = refl
past_front (x ∷ xs) ys p h =
    ap (λ b. cond b x.1 (sight_in (xs ++ ys) p)) (apart_from x.0 p (h x.0 (or_left _ (among x.0 (seen_paths xs)) (path_itself x.0))))
    ∙ past_front xs ys p (λ q e. h q (or_right (eq_by_cmp path_cmp q x.0) _ e))

only_front : (xs ys : List (Path × Sight)) (p : Path) → ((q : Path) → among q (seen_paths ys) ≡ true → path_cmp p q ≡ Less) → sight_in (xs ++ ys) p ≡ sight_in xs p
only_front [] ys p h = none_seen p ys h
only_front (x ∷ xs) ys p h = ap (cond (path_eq x.0 p) x.1) (only_front xs ys p h)

seen-append : (xs ys : List (Path × Sight)) → seen_paths (xs ++ ys) ≡ seen_paths xs ++ seen_paths ys
seen-append [] ys = refl
seen-append (x ∷ xs) ys = ap (λ ps. x.0 ∷ ps) (seen-append xs ys)

pub told-append : (xs ys : List Look) → told_by (xs ++ ys) ≡ told_by xs ++ told_by ys
told-append [] ys = refl
told-append (x ∷ xs) ys = ap (λ ss. (x.path.now, record { mark = x.mark; names = x.names.now; others = x.others }) ∷ ss) (told-append xs ys)

module _ (p : Path) (xs : List (Path × Sight)) (t : Path × Sight) (ys : List (Path × Sight)) (s : IsStrictlySortedBy path_cmp (seen_paths (xs ++ t ∷ ys))) where
  all : IsStrictlySortedBy path_cmp (seen_paths xs ++ t.0 ∷ seen_paths ys)
  all = subst (λ (ps : List Path). IsStrictlySortedBy path_cmp ps) (seen-append xs (t ∷ ys)) s

  pub in_front : path_cmp p t.0 ≡ Less → sight_in (xs ++ t ∷ ys) p ≡ sight_in xs p
  in_front l =
      only_front xs (t ∷ ys) p (λ q e.
      elim (eq_by_cmp path_cmp q t.0) as (λ b. eq_by_cmp path_cmp q t.0 ≡ b → (b || among q (seen_paths ys)) ≡ true → path_cmp p q ≡ Less) [
        | true ↦ λ k m. ap (path_cmp p) (same_path q t.0 k) ∙ l
        | false ↦ λ k m. path_cmp-total.trans p t.0 q l (behind (seen_paths xs) (seen_paths ys) t.0 q all m)
      ] refl e)

  in_here : path_cmp t.0 p ≡ Less → (q : Path) → among q (seen_paths xs) ≡ true → path_cmp q p ≡ Less
  in_here l q e = path_cmp-total.trans q t.0 p (before (seen_paths xs) (seen_paths ys) t.0 q all e) l

  -- A path that isn't before the first Look of the back is not in front.
  pub from_back : (r : Ordering) → path_cmp p t.0 ≡ r → is_lt r ≡ false → sight_in (xs ++ t ∷ ys) p ≡ sight_in (t ∷ ys) p
  from_back Less e h = cc
  from_back Equal e h =
      let is : p ≡ t.0 = path_cmp-exact p t.0 e in
      past_front xs (t ∷ ys) p (λ q m. ap (path_cmp q) is ∙ before (seen_paths xs) (seen_paths ys) t.0 q all m)
  from_back Greater e h =
      let l : path_cmp t.0 p ≡ Less = path_cmp-total.antisymm t.0 p ∙ ap ordering_reverse e in
      past_front xs (t ∷ ys) p (in_here l)
