-- Looks by their paths, and the first Looks.
use Rattle.std.proofs.Common.{◌≡◌, Bool, true, false, cond, ◌||◌, List, [], ◌∷◌, ◌++◌, length, map, refl, ap, sym, ◌∙◌, arith}
use Rattle.std.specs.Prelude.{◌==◌, if◌then◌else◌, filter, nat_lt}
use Rattle.std.specs.List.{list_any, flat_map}
use Rattle.std.specs.Ordering.{eq_by_cmp}
use Rattle.std.proofs.lemmas.Bool.{false≢true, and_parts, and_from, or_left, or_right}
use Rattle.std.proofs.lemmas.Bool.Decides.{nat_tests}
use Rattle.std.proofs.lemmas.List.Folds.{list_any-append}
use Rattle.hub_path.specs.laws.General.{path_eq-turned}
use Rattle.hub_path.specs.Path.{Name, Path, path_cmp, path_eq, parent, last_name, children_named}
use Rattle.hub_profile.specs.Parts.{Parts}
use Rattle.hub_reach.specs.Reach.{reach}
use Rattle.hub_tree.specs.laws.Order.{same_path, path_itself}
use Rattle.hub_tree.specs.laws.Children.{path_eq-cmp}
use Rattle.hub_tree.specs.laws.Between.{among, any_equal, among_filter}
use Rattle.hub_reconcile.specs.Sight.{Sight, is_kept_value}
use Rattle.hub_reconcile.specs.Picture.{nothing_there, sight_in, first_looks}

-- Looks by their paths.
eq_cmp : (d p : Path) → path_eq d p ≡ eq_by_cmp path_cmp p d
eq_cmp d p = path_eq-turned d p ∙ path_eq-cmp p d

pub seen_told : (f : Path → Sight) (ps : List Path) (p : Path)
    → list_any (λ (s : Path × Sight). path_eq s.0 p) (map (λ d. (d, f d)) ps) ≡ among p ps
seen_told f [] p = refl
seen_told f (d ∷ ps) p =
    ap (λ b. b || list_any (λ (s : Path × Sight). path_eq s.0 p) (map (λ d. (d, f d)) ps))
    (eq_cmp d p) ∙ ap (λ b. eq_by_cmp path_cmp p d || b) (seen_told f ps p)

pub told_at : (f : Path → Sight) (ps : List Path) (p : Path) → among p ps ≡ true
    → sight_in (map (λ d. (d, f d)) ps) p ≡ f p
told_at f [] p e = absurd (false≢true e)
told_at f (d ∷ ps) p e =
    elim (eq_by_cmp path_cmp p d) as (λ b. eq_by_cmp path_cmp p d ≡ b → (b || among p ps) ≡ true
    → sight_in (map (λ d. (d, f d)) (d ∷ ps)) p ≡ f p) [
      | true ↦ λ g h. ap (λ b. cond b (f d) (sight_in (map (λ d. (d, f d)) ps) p)) (eq_cmp d p ∙ g)
          ∙ ap f (sym (same_path p d g))
      | false ↦ λ g h. ap (λ b. cond b (f d) (sight_in (map (λ d. (d, f d)) ps) p)) (eq_cmp d p ∙ g)
          ∙ told_at f ps p h
    ] refl e

pub untold_at : (f : Path → Sight) (ps : List Path) (p : Path) → among p ps ≡ false
    → sight_in (map (λ d. (d, f d)) ps) p ≡ nothing_there
untold_at f [] p e = refl
untold_at f (d ∷ ps) p e =
    elim (eq_by_cmp path_cmp p d) as (λ b. eq_by_cmp path_cmp p d ≡ b → (b || among p ps) ≡ false
    → sight_in (map (λ d. (d, f d)) (d ∷ ps)) p ≡ nothing_there) [
      | true ↦ λ g h. absurd (false≢true (sym h))
      | false ↦ λ g h. ap (λ b. cond b (f d) (sight_in (map (λ d. (d, f d)) ps) p)) (eq_cmp d p ∙ g)
          ∙ untold_at f ps p h
    ] refl e

pub told_paths : (f : Path → Sight) (ps : List Path)
    → map (λ (s : Path × Sight). s.0) (map (λ d. (d, f d)) ps) ≡ ps
told_paths f [] = refl
told_paths f (d ∷ ps) = ap (λ qs. d ∷ qs) (told_paths f ps)

-- Members of lists.
among_flat : (x y : Path) (f : Path → List Path) (ys : List Path) → among y ys ≡ true
    → among x (f y) ≡ true → among x (flat_map f ys) ≡ true
among_flat x y f [] e h = absurd (false≢true e)
among_flat x y f (z ∷ ys) e h =
    elim (eq_by_cmp path_cmp y z) as (λ b. eq_by_cmp path_cmp y z ≡ b → (b || among y ys) ≡ true
    → among x (flat_map f (z ∷ ys)) ≡ true) [
      | true ↦ λ g i. list_any-append (eq_by_cmp path_cmp x) (f z) (flat_map f ys)
          ∙ or_left _ _ (ap (λ w. among x (f w)) (sym (same_path y z g)) ∙ h)
      | false ↦ λ g i. list_any-append (eq_by_cmp path_cmp x) (f z) (flat_map f ys)
          ∙ or_right (among x (f z)) _ (among_flat x y f ys i h)
    ] refl e

abbrev pub listed_below : Path × Sight → List Path
listed_below s = children_named s.0 s.1.names

pub among_listed : (x y : Path) (f : Path → Sight) (ys : List Path) → among y ys ≡ true
    → among x (listed_below (y, f y)) ≡ true
    → among x (flat_map listed_below (map (λ d. (d, f d)) ys)) ≡ true
among_listed x y f [] e h = absurd (false≢true e)
among_listed x y f (z ∷ ys) e h =
    elim (eq_by_cmp path_cmp y z) as (λ b. eq_by_cmp path_cmp y z ≡ b → (b || among y ys) ≡ true
    → among x (flat_map listed_below (map (λ d. (d, f d)) (z ∷ ys))) ≡ true) [
      | true ↦ λ g i. list_any-append (eq_by_cmp path_cmp x) (listed_below (z, f z))
          (flat_map listed_below (map (λ d. (d, f d)) ys))
          ∙ or_left _ _ (ap (λ w. among x (listed_below (w, f w))) (sym (same_path y z g)) ∙ h)
      | false ↦ λ g i. list_any-append (eq_by_cmp path_cmp x) (listed_below (z, f z))
          (flat_map listed_below (map (λ d. (d, f d)) ys))
          ∙ or_right (among x (listed_below (z, f z))) _ (among_listed x y f ys i h)
    ] refl e

pub among_names : (d x : Path) (cs : List Path) → among x cs ≡ true → d ++ last_name x ∷ [] ≡ x
    → among x (map (λ n. d ++ n ∷ []) (map last_name cs)) ≡ true
among_names d x [] e is = absurd (false≢true e)
among_names d x (c ∷ cs) e is =
    elim (eq_by_cmp path_cmp x c) as (λ b. eq_by_cmp path_cmp x c ≡ b → (b || among x cs) ≡ true
    → among x (map (λ n. d ++ n ∷ []) (map last_name (c ∷ cs))) ≡ true) [
      | true ↦ λ g i. or_left _ _
          (ap (eq_by_cmp path_cmp x) (ap (λ y. d ++ last_name y ∷ []) (sym (same_path x c g)) ∙ is)
          ∙ path_itself x)
      | false ↦ λ g i. or_right (eq_by_cmp path_cmp x (d ++ last_name c ∷ [])) _
          (among_names d x cs i is)
    ] refl e

-- The first Looks.
first_of : (s : Path) (b : Bool) → among s (cond b (parent s ∷ s ∷ []) (s ∷ [])) ≡ true
first_of s true = or_right (eq_by_cmp path_cmp s (parent s)) _ (or_left _ false (path_itself s))
first_of s false = or_left _ false (path_itself s)

kept_among : (P : Parts) (s : Path) → is_kept_value P s ≡ true
    → among s (filter (is_kept_value P) P.paths) ≡ true
kept_among P s k =
    among_filter s (is_kept_value P) P.paths
    ∙ and_from (is_kept_value P s) _ k (sym (any_equal s P.paths)
    ∙ (and_parts (list_any (path_eq s) P.paths) (length s == 0 || reach P s) k).0)

pub first_kept : (P : Parts) (s : Path) → is_kept_value P s ≡ true → among s (first_looks P) ≡ true
first_kept P s k =
    among_flat s s (λ s. if nat_lt 1 (length s) then parent s ∷ s ∷ [] else s ∷ [])
    (filter (is_kept_value P) P.paths) (kept_among P s k) (first_of s (nat_lt 1 (length s)))

more_names : (s : Path) (n : Name) (p : Path) → parent s ≡ n ∷ p → nat_lt 1 (length s) ≡ true
more_names [] n p e = cc
more_names (a ∷ []) n p e = cc
more_names (a ∷ b ∷ c) n p e = grind (arith, nat_tests)

pub first_parent : (P : Parts) (s : Path) (n : Name) (p : Path) → is_kept_value P s ≡ true
    → parent s ≡ n ∷ p
    → among (parent s) (first_looks P) ≡ true
first_parent P s n p k e =
    among_flat (parent s) s (λ s. if nat_lt 1 (length s) then parent s ∷ s ∷ [] else s ∷ [])
    (filter (is_kept_value P) P.paths) (kept_among P s k)
    (ap (λ b. among (parent s) (cond b (parent s ∷ s ∷ []) (s ∷ []))) (more_names s n p e)
    ∙ or_left _ _ (path_itself (parent s)))
