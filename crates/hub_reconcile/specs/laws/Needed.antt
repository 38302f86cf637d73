-- Which Looks may be needed, and how many they are.
use Rattle.std.proofs.Common.{◌≡◌, ◌≤◌, ◌+◌, ◌*◌, Bool, true, false, cond, not, ◌&&◌, ◌||◌, List, [], ◌∷◌, ◌++◌, length, map, refl, ap, sym, ◌∙◌, subst, arith, length-append}
use Rattle.std.specs.Prelude.{ℕ, ◌==◌, if◌then◌else◌, filter, nat_lt}
use Rattle.std.specs.List.{flat_map}
use Rattle.std.specs.FinMap as fin
use Rattle.std.specs.Ordering.{eq_by_cmp}
use Rattle.std.proofs.lemmas.Bool.{false≢true, and_parts, or_left, or_right}
use Rattle.std.proofs.lemmas.List.Folds.{list_any-append}
use Rattle.hub_path.specs.Path.{Path, path_cmp, last_name, parent}
use Rattle.hub_path.specs.declared.side.Side.{Side}
use Rattle.hub_profile.specs.Parts.{Parts, IsProfile, at_side}
use Rattle.hub_reach.specs.Reach.{reach}
use Rattle.hub_tree.specs.Tree.{Replica, contents_at, is_absent, is_child, children}
use Rattle.hub_tree.specs.laws.Order.{same_path, path_itself}
use Rattle.hub_tree.specs.laws.Children.{child_of, one_item}
use Rattle.hub_tree.specs.laws.Between.{among, among_filter}
use Rattle.hub_reconcile.specs.Sight.{Sight, sight, is_kept_value, reached_names}
use Rattle.hub_reconcile.specs.Picture.{first_looks, needed}
use Rattle.hub_reconcile.specs.Sync.{of_side, root_or_top, sights_of}
use Rattle.hub_reconcile.specs.laws.Ascend.{among_ascending}
use Rattle.hub_reconcile.specs.laws.Looks.{first_kept, listed_below}
use Rattle.hub_reconcile.specs.laws.Views.{sight_if, sight_unless}
use Rattle.hub_reconcile.specs.laws.Looked.{kept_over}

-- Listed children.
of_names : (d x : Path) (cs ks : List Path)
    → ((c : Path) → among c cs ≡ true → among (d ++ last_name c ∷ []) ks ≡ true)
    → among x (map (λ n. d ++ n ∷ []) (map last_name cs)) ≡ true → among x ks ≡ true
of_names d x [] ks known e = absurd (false≢true e)
of_names d x (c ∷ cs) ks known e =
    elim (eq_by_cmp path_cmp x (d ++ last_name c ∷ [])) as
    (λ b. eq_by_cmp path_cmp x (d ++ last_name c ∷ []) ≡ b
    → (b || among x (map (λ n. d ++ n ∷ []) (map last_name cs))) ≡ true → among x ks ≡ true) [
      | true ↦ λ g h. ap (λ y. among y ks) (same_path x (d ++ last_name c ∷ []) g)
          ∙ known c (or_left _ (among c cs) (path_itself c))
      | false ↦ λ g h. of_names d x cs ks (λ y i. known y (or_right (eq_by_cmp path_cmp y c) _ i)) h
    ] refl e

child_key : (P : Parts) (m : Replica) (d c : Path)
    → among c (filter (reach P) (children m d)) ≡ true
    → among (d ++ last_name c ∷ []) (fin.keys m) ≡ true
child_key P m d c e =
    let two = and_parts (reach P c) (among c (children m d))
    (sym (among_filter c (reach P) (children m d)) ∙ e) in
    let one = and_parts (is_child d c && not (is_absent (contents_at m c))) (among c (fin.keys m))
    (sym (among_filter c (λ q. is_child d q && not (is_absent (contents_at m q))) (fin.keys m))
    ∙ two.1) in
    let child = and_parts (is_child d c) (not (is_absent (contents_at m c))) one.0 in
    ap (λ y. among y (fin.keys m)) (sym (child_of d c child.0)) ∙ one.1

listed_keys : (P : Parts) (m : Replica) (d x : Path)
    → among x (map (λ n. d ++ n ∷ []) (reached_names P m d)) ≡ true → among x (fin.keys m) ≡ true
listed_keys P m d x e =
    of_names d x (filter (reach P) (children m d)) (fin.keys m) (child_key P m d) e

top_only : (d : Path) (b : Bool) → (length d == 0 && b) ≡ true → d ≡ []
top_only [] b e = refl
top_only (n ∷ d) b e =
    absurd (false≢true (sym (one_item n d) ∙ (and_parts (length (n ∷ d) == 0) b e).0))

listed_by : (P : Parts) (r : Path) (m : Replica) (d x : Path) (b c : Bool) → reach P d ≡ b
    → (length d == 0 && is_kept_value P []) ≡ c → among x (listed_below (d, sight P r m d)) ≡ true
    → among x (fin.keys m) ≡ true
unfolding sight
listed_by P r m d x true c h g e =
    listed_keys P m d x
    (ap (λ ns. among x (map (λ n. d ++ n ∷ []) ns))
    (sym (sight_if (λ s. s.names) (reach P d) _ _ h)) ∙ e)
listed_by P r m d x false true h g e =
    let top : d ≡ [] = top_only d (is_kept_value P []) g in
    listed_keys P m [] x
    (ap (λ y. among x (map (λ n. y ++ n ∷ []) (reached_names P m []))) (sym top)
    ∙ (ap (λ ns. among x (map (λ n. d ++ n ∷ []) ns))
    (sym (sight_unless (λ s. s.names) (reach P d) _ _ h
    ∙ sight_if (λ s. s.names) (length d == 0 && is_kept_value P []) _ _ g))
    ∙ e))
listed_by P r m d x false false h g e =
    absurd (false≢true
    (ap (λ ns. among x (map (λ n. d ++ n ∷ []) ns))
    (sym (sight_unless (λ s. s.names) (reach P d) _ _ h
    ∙ sight_unless (λ s. s.names) (length d == 0 && is_kept_value P []) _ _ g))
    ∙ e))

of_listed : (f : Path → Sight) (x : Path) (ps ks : List Path)
    → ((d : Path) → among x (listed_below (d, f d)) ≡ true → among x ks ≡ true)
    → among x (flat_map listed_below (map (λ d. (d, f d)) ps)) ≡ true → among x ks ≡ true
of_listed f x [] ks known e = absurd (false≢true e)
of_listed f x (d ∷ ps) ks known e =
    elim (among x (listed_below (d, f d))) as (λ b. among x (listed_below (d, f d)) ≡ b
    → (b || among x (flat_map listed_below (map (λ d. (d, f d)) ps))) ≡ true → among x ks ≡ true) [
      | true ↦ λ g h. known d g
      | false ↦ λ g h. of_listed f x ps ks known h
    ] refl (sym (list_any-append (eq_by_cmp path_cmp x) (listed_below (d, f d))
    (flat_map listed_below (map (λ d. (d, f d)) ps))) ∙ e)

-- All that can be needed on a side.
abbrev pub known : Parts → Replica → List Path
known P m = first_looks P ++ fin.keys m

needed_by : (q : Path) (xs ys ks : List Path) → (among q ys ≡ true → among q ks ≡ true)
    → (among q xs || among q ys) ≡ true → among q (xs ++ ks) ≡ true
needed_by q xs ys ks into e =
    list_any-append (eq_by_cmp path_cmp q) xs ks
    ∙ elim (among q xs) as (λ b. (b || among q ys) ≡ true → (b || among q ks) ≡ true) [
      | true ↦ λ h. refl
      | false ↦ λ h. into h
    ] e

pub needed_known : (P : Parts) (A B : Replica) (k : Side) (ps : List Path) (q : Path)
    → among q (needed P (sights_of P A B k ps)) ≡ true → among q (known P (of_side A B k)) ≡ true
needed_known P A B k ps q e =
    let r = root_or_top (at_side P.roots k) in
    let m = of_side A B k in
    needed_by q (first_looks P) (flat_map listed_below (sights_of P A B k ps)) (fin.keys m)
    (of_listed (sight P r m) q ps (fin.keys m)
    (λ d h. listed_by P r m d q (reach P d) (length d == 0 && is_kept_value P []) refl refl h))
    (sym (list_any-append (eq_by_cmp path_cmp q) (first_looks P)
    (flat_map listed_below (sights_of P A B k ps)))
    ∙ (sym (among_ascending q (first_looks P ++ flat_map listed_below (sights_of P A B k ps))) ∙ e))

-- A profile that reaches a path needs a Look.
pub needs_look : (P : Parts) (seen : List (Path × Sight)) (q : Path) → IsProfile P
    → reach P q ≡ true → needed P seen ≡ [] → ⊥
needs_look P seen q facts h none =
    let s = kept_over P facts q h in
    false≢true
    (ap (among s.0) (sym none)
    ∙ (among_ascending s.0 (first_looks P ++ flat_map listed_below seen)
    ∙ (list_any-append (eq_by_cmp path_cmp s.0) (first_looks P) (flat_map listed_below seen)
    ∙ or_left _ _ (first_kept P s.0 s.1))))

-- How many.
first_two : (s : Path) (b : Bool) → length (cond b (parent s ∷ s ∷ []) (s ∷ [])) ≤ 2
first_two s true = omega arith
first_two s false = omega arith

two_each : (f : Path → List Path) (ps : List Path) → ((s : Path) → length (f s) ≤ 2)
    → length (flat_map f ps) ≤ 2 * length ps
two_each f [] h = omega arith
two_each f (p ∷ ps) h = omega (arith, length-append (f p) (flat_map f ps), h p, two_each f ps h)

pub filter_less : (f : Path → Bool) (ps : List Path) → length (filter f ps) ≤ length ps
filter_less f [] = omega arith
filter_less f (p ∷ ps) =
    elim (f p) as (λ b. length (cond b (p ∷ filter f ps) (filter f ps)) ≤ length (p ∷ ps)) [
      | true ↦ omega (arith, filter_less f ps)
      | false ↦ omega (arith, filter_less f ps)
    ]

length_mapped : {X : Type 0} (f : X → Path) (xs : List X) → length (map f xs) ≡ length xs
length_mapped f [] = refl
length_mapped f (x ∷ xs) = omega (arith, length_mapped f xs)

pub keys_length : (m : Replica) → length (fin.keys m) ≡ fin.len m
keys_length m = length_mapped (λ e. e.0) (fin.entries m) ∙ sym (fin.len-entries m)

pub known_length : (P : Parts) (m : Replica) → length (known P m) ≤ 2 * length P.paths + fin.len m
known_length P m =
    omega (
      arith,
      length-append (first_looks P) (fin.keys m),
      keys_length m,
      filter_less (is_kept_value P) P.paths,
      two_each (λ s. if nat_lt 1 (length s) then parent s ∷ s ∷ [] else s ∷ [])
          (filter (is_kept_value P) P.paths) (λ s. first_two s (nat_lt 1 (length s))),
    )

-- The paths of a list that aren't in another one.
abbrev pub unseen : List Path → List Path → ℕ
unseen us ps = length (filter (λ u. not (among u ps)) us)

pub unseen_all : (us ps : List Path) → unseen us ps ≤ length us
unseen_all us ps = filter_less (λ u. not (among u ps)) us

pub fewer : (f g : Path → Bool) (us : List Path) → ((u : Path) → g u ≡ true → f u ≡ true)
    → length (filter g us) ≤ length (filter f us)
fewer f g [] h = omega arith
fewer f g (u ∷ us) h =
    elim (g u) as (λ b. g u ≡ b
    → length (cond b (u ∷ filter g us) (filter g us))
    ≤ length (cond (f u) (u ∷ filter f us) (filter f us))) [
      | true ↦ λ e. subst
          (λ c. length (u ∷ filter g us) ≤ length (cond c (u ∷ filter f us) (filter f us)))
          (sym (h u e)) (omega (arith, fewer f g us h))
      | false ↦ λ e. elim (f u) as
          (λ c. length (filter g us) ≤ length (cond c (u ∷ filter f us) (filter f us))) [
            | true ↦ omega (arith, fewer f g us h)
            | false ↦ fewer f g us h
          ]
    ] refl

pub one_fewer : (f g : Path → Bool) (us : List Path) (p : Path)
    → ((u : Path) → g u ≡ true → f u ≡ true) → f p ≡ true → g p ≡ false → among p us ≡ true
    → length (filter g us) + 1 ≤ length (filter f us)
one_fewer f g [] p h holds away e = absurd (false≢true e)
one_fewer f g (u ∷ us) p h holds away e =
    elim (eq_by_cmp path_cmp p u) as (λ b. eq_by_cmp path_cmp p u ≡ b → (b || among p us) ≡ true
    → length (cond (g u) (u ∷ filter g us) (filter g us)) + 1
    ≤ length (cond (f u) (u ∷ filter f us) (filter f us))) [
      | true ↦ λ i l.
          let is : p ≡ u = same_path p u i in
          subst (λ c. length (cond c (u ∷ filter g us) (filter g us)) + 1
          ≤ length (cond (f u) (u ∷ filter f us) (filter f us))) (sym away ∙ ap g is)
          (subst (λ c. length (filter g us) + 1 ≤ length (cond c (u ∷ filter f us) (filter f us)))
          (sym holds ∙ ap f is) (omega (arith, fewer f g us h)))
      | false ↦ λ i l.
          elim (g u) as (λ b. g u ≡ b → length (cond b (u ∷ filter g us) (filter g us)) + 1
          ≤ length (cond (f u) (u ∷ filter f us) (filter f us))) [
            | true ↦ λ e. subst
                (λ c. length (u ∷ filter g us) + 1
                ≤ length (cond c (u ∷ filter f us) (filter f us))) (sym (h u e))
                (omega (arith, one_fewer f g us p h holds away l))
            | false ↦ λ e. elim (f u) as
                (λ c. length (filter g us) + 1 ≤ length (cond c (u ∷ filter f us) (filter f us))) [
                  | true ↦ omega (arith, one_fewer f g us p h holds away l)
                  | false ↦ one_fewer f g us p h holds away l
                ]
          ] refl
    ] refl e

not_in_more : (u p : Path) (ps : List Path) → not (among u (ps ++ p ∷ [])) ≡ true
    → not (among u ps) ≡ true
not_in_more u p ps e =
    elim (among u ps) as (λ b. not (b || among u (p ∷ [])) ≡ true → not b ≡ true) [
      | true ↦ λ h. h
      | false ↦ λ h. refl
    ]
    (sym (ap not (list_any-append (eq_by_cmp path_cmp u) ps (p ∷ []))) ∙ e)

pub unseen_less : (us ps : List Path) (p : Path) → among p us ≡ true → among p ps ≡ false
    → unseen us (ps ++ p ∷ []) + 1 ≤ unseen us ps
unseen_less us ps p e h =
    one_fewer (λ u. not (among u ps)) (λ u. not (among u (ps ++ p ∷ []))) us p
    (λ u g. not_in_more u p ps g) (ap not h)
    (ap not (list_any-append (eq_by_cmp path_cmp p) ps (p ∷ [])
    ∙ or_right (among p ps) _ (or_left _ false (path_itself p)))) e
