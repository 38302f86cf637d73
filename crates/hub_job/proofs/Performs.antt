-- What the code of operations has against their definition.
use Rattle.std.proofs.Common.{◌≡◌, Bool, true, false, cond, not, ◌&&◌, ◌||◌, List, [], ◌∷◌, ◌++◌, length, map, refl, ap, sym, ◌∙◌, append_assoc, ◌<◌, ◌≤◌, drop, get_or, arith}
use Rattle.std.specs.Prelude.{ℕ, zero, suc, ◌==◌, filter}
use Rattle.std.specs.List.{list_any}
use Rattle.std.specs.FinMap as fin
use Rattle.std.proofs.lemmas.Bool.{false≢true, and_parts}
use Rattle.std.proofs.Math.Bool.{and-true, or-true}
use Rattle.hub_tree.specs.laws.Children.{one_item}
use Rattle.hub_reconcile.specs.laws.Views.{same_paths, paths_same}
use Rattle.hub_path.specs.Path.{Name, Path, path_eq, parent, last_name}
use Rattle.hub_path.specs.laws.General.{parent-last_name}
use Rattle.hub_profile.specs.Parts.{Parts}
use Rattle.hub_reach.specs.Reach.{reach, writes_at}
use Rattle.hub_tree.specs.Tree.{Replica, contents_at, children, mark_at, names_at, is_absent, is_child, is_directory}
use Rattle.hub_tree.specs.declared.contents.Mark.{Mark}
use Rattle.hub_tree.specs.declared.contents.Mark.TheVariants as mark
use Rattle.hub_reconcile.specs.Sight.{Sight, is_kept_value, is_kept_parent, reached_names, directory_or_absent, sight}

-- A Look.
pub some_path : (b : Bool) (p d : Path) → (not (length p == 0) && path_eq (parent p) d && b) ≡ true → d ++ last_name p ∷ [] ≡ p
some_path b [] d h = absurd (false≢true h)
some_path b (n ∷ p) d h =
    let child = and_parts (is_child d (n ∷ p)) b h in
    let own = and_parts (not (length (n ∷ p) == 0)) (path_eq (parent (n ∷ p)) d) child.0 in
    ap (λ q. q ++ last_name (n ∷ p) ∷ []) (sym (same_paths (parent (n ∷ p)) d own.1)) ∙ parent-last_name n p

abbrev pub child_where : Path → (Path → Bool) → Path → Bool
child_where d g p = is_child d p && g p

filtered_names : (d : Path) (f g : Path → Bool) (ps : List Path) → filter (λ n. f (d ++ n ∷ [])) (map last_name (filter (child_where d g) ps)) ≡ map last_name (filter f (filter (child_where d g) ps))
filtered_names d f g [] = refl
filtered_names d f g (p ∷ ps) =
    elim (child_where d g p) as (λ b. child_where d g p ≡ b
    → filter (λ n. f (d ++ n ∷ [])) (map last_name (cond b (p ∷ filter (child_where d g) ps) (filter (child_where d g) ps)))
    ≡ map last_name (filter f (cond b (p ∷ filter (child_where d g) ps) (filter (child_where d g) ps)))) [
      | true ↦ λ h.
          ap (λ q. cond (f q) (last_name p ∷ filter (λ n. f (d ++ n ∷ [])) (map last_name (filter (child_where d g) ps))) (filter (λ n. f (d ++ n ∷ [])) (map last_name (filter (child_where d g) ps)))) (some_path (g p) p d h)
          ∙ elim (f p) as (λ b. cond b (last_name p ∷ filter (λ n. f (d ++ n ∷ [])) (map last_name (filter (child_where d g) ps))) (filter (λ n. f (d ++ n ∷ [])) (map last_name (filter (child_where d g) ps)))
          ≡ map last_name (cond b (p ∷ filter f (filter (child_where d g) ps)) (filter f (filter (child_where d g) ps)))) [
            | true ↦ ap (λ ns. last_name p ∷ ns) (filtered_names d f g ps)
            | false ↦ filtered_names d f g ps
          ]
      | false ↦ λ h. filtered_names d f g ps
    ] refl

any_names : (d : Path) (f g : Path → Bool) (ps : List Path) → list_any (λ n. f (d ++ n ∷ [])) (map last_name (filter (child_where d g) ps)) ≡ list_any f (filter (child_where d g) ps)
any_names d f g [] = refl
any_names d f g (p ∷ ps) =
    elim (child_where d g p) as (λ b. child_where d g p ≡ b
    → list_any (λ n. f (d ++ n ∷ [])) (map last_name (cond b (p ∷ filter (child_where d g) ps) (filter (child_where d g) ps)))
    ≡ list_any f (cond b (p ∷ filter (child_where d g) ps) (filter (child_where d g) ps))) [
      | true ↦ λ h.
          ap (λ q. f q || list_any (λ n. f (d ++ n ∷ [])) (map last_name (filter (child_where d g) ps))) (some_path (g p) p d h)
          ∙ ap (λ b. f p || b) (any_names d f g ps)
      | false ↦ λ h. any_names d f g ps
    ] refl

pub names_reached : (P : Parts) (m : Replica) (d : Path) → filter (λ n. reach P (d ++ n ∷ [])) (names_at m d) ≡ reached_names P m d
names_reached P m d = filtered_names d (reach P) (λ p. not (is_absent (contents_at m p))) (fin.keys m)

pub names_not_reached : (P : Parts) (m : Replica) (d : Path) → list_any (λ n. not (reach P (d ++ n ∷ []))) (names_at m d) ≡ list_any (λ q. not (reach P q)) (children m d)
names_not_reached P m d = any_names d (λ q. not (reach P q)) (λ p. not (is_absent (contents_at m p))) (fin.keys m)

-- Each of some paths is one of them.
abbrev own : (Path → Bool) → (Path → Bool) → List Path → Path → Bool
own f k all s = list_any (path_eq s) all && f s && k s

pub true_and : (a b c : Bool) → a ≡ true → (a && b && c) ≡ (b && c)
true_and true b c e = refl
true_and false b c e = cc

pub any_middle : (front rest : List Path) (s : Path) → list_any (path_eq s) (front ++ s ∷ rest) ≡ true
any_middle [] rest s = ap (λ b. b || list_any (path_eq s) rest) (paths_same s)
any_middle (x ∷ front) rest s = ap (λ b. path_eq s x || b) (any_middle front rest s) ∙ or-true (path_eq s x)

any_own : (f k : Path → Bool) (front rest : List Path) → list_any (own f k (front ++ rest)) rest ≡ list_any (λ s. f s && k s) rest
any_own f k front [] = refl
any_own f k front (s ∷ rest) =
    ap (λ b. b || list_any (own f k (front ++ s ∷ rest)) rest) (true_and (list_any (path_eq s) (front ++ s ∷ rest)) (f s) (k s) (any_middle front rest s))
    ∙ ap (λ b. (f s && k s) || b) (ap (λ all. list_any (own f k all) rest) (sym (append_assoc front (s ∷ []) rest)) ∙ any_own f k (front ++ s ∷ []) rest)

pub kept_parent_is : (P : Parts) (d : Path) → is_kept_parent P d ≡ list_any (λ s. (length s == 0 || reach P s) && path_eq (parent s) d) P.paths
kept_parent_is P d = any_own (λ s. length s == 0 || reach P s) (λ s. path_eq (parent s) d) [] P.paths

-- What is seen of a path that is reached, of the whole replica, and elsewhere.
abbrev seen_there : Parts → Path → Replica → Path → Bool → Sight
seen_there P r m d b = record { mark = mark_at m d; names = reached_names P m d; others = writes_at P r d && b && list_any (λ q. not (reach P q)) (children m d) }

abbrev seen_at_top : Parts → Replica → Sight
seen_at_top P m = record { mark = mark.Directory; names = reached_names P m []; others = false }

abbrev seen_elsewhere : Parts → Replica → Path → Sight
seen_elsewhere P m d = record { mark = directory_or_absent (is_kept_parent P d && is_directory (contents_at m d)); names = []; others = false }

sight_by : (P : Parts) (r : Path) (m : Replica) (d : Path) (b c : Bool) → reach P d ≡ b → (length d == 0 && is_kept_value P []) ≡ c
    → sight P r m d ≡ cond b (seen_there P r m d b) (cond c (seen_at_top P m) (seen_elsewhere P m d))
unfolding sight
sight_by P r m d b c h k =
    ap (λ b. cond b (seen_there P r m d b) (cond (length d == 0 && is_kept_value P []) (seen_at_top P m) (seen_elsewhere P m d))) h
    ∙ ap (λ c. cond b (seen_there P r m d b) (cond c (seen_at_top P m) (seen_elsewhere P m d))) k

abbrev sight_with : Mark → List Name → Bool → Sight
sight_with m ns o = record { mark = m; names = ns; others = o }

same_seen : (a b : Mark) (ns ms : List Name) (o q : Bool) → a ≡ b → ns ≡ ms → o ≡ q → sight_with a ns o ≡ sight_with b ms q
same_seen a b ns ms o q e f g i = sight_with (e i) (f i) (g i)

pub sees_reached : (P : Parts) (r : Path) (m : Replica) (d : Path) (mk : Mark) (ns : List Name) (o : Bool) → reach P d ≡ true → mk ≡ mark_at m d
    → ns ≡ reached_names P m d → o ≡ (writes_at P r d && list_any (λ q. not (reach P q)) (children m d)) → sight_with mk ns o ≡ sight P r m d
sees_reached P r m d mk ns o h em en eo =
    same_seen mk (mark_at m d) ns (reached_names P m d) o (writes_at P r d && true && list_any (λ q. not (reach P q)) (children m d)) em en
    (eo ∙ ap (λ b. b && list_any (λ q. not (reach P q)) (children m d)) (sym (and-true (writes_at P r d))))
    ∙ sym (sight_by P r m d true (length d == 0 && is_kept_value P []) h refl)

pub sees_top : (P : Parts) (r : Path) (m : Replica) (d : Path) (ns : List Name) → reach P d ≡ false → (length d == 0 && list_any (path_eq d) P.paths) ≡ true
    → ns ≡ reached_names P m d → sight_with mark.Directory ns false ≡ sight P r m d
sees_top P r m [] ns h k en =
    same_seen mark.Directory mark.Directory ns (reached_names P m []) false false refl en refl
    ∙ sym (sight_by P r m [] false true h (and-true (list_any (path_eq []) P.paths) ∙ k))
sees_top P r m (n ∷ d) ns h k en = absurd (false≢true (sym (ap (λ b. b && list_any (path_eq (n ∷ d)) P.paths) (one_item n d)) ∙ k))

pub sees_elsewhere : (P : Parts) (r : Path) (m : Replica) (d : Path) (mk : Mark) → reach P d ≡ false → (length d == 0 && list_any (path_eq d) P.paths) ≡ false
    → mk ≡ directory_or_absent (is_kept_parent P d && is_directory (contents_at m d)) → sight_with mk [] false ≡ sight P r m d
sees_elsewhere P r m [] mk h k em =
    same_seen mk (directory_or_absent (is_kept_parent P [] && is_directory (contents_at m []))) [] [] false false em refl refl
    ∙ sym (sight_by P r m [] false false h (and-true (list_any (path_eq []) P.paths) ∙ k))
sees_elsewhere P r m (n ∷ d) mk h k em =
    same_seen mk (directory_or_absent (is_kept_parent P (n ∷ d) && is_directory (contents_at m (n ∷ d)))) [] [] false false em refl refl
    ∙ sym (sight_by P r m (n ∷ d) false false h (ap (λ b. b && is_kept_value P []) (one_item n d)))

-- A loop over kept values.
pub past_all : {X : Type 0} (n : ℕ) (xs : List X) → length xs ≤ n → drop n xs ≡ []
past_all zero [] h = refl
past_all zero (x ∷ xs) h = absurd (omega (arith, h))
past_all (suc n) [] h = refl
past_all (suc n) (x ∷ xs) h = past_all n xs (omega (arith, h))

pub one_passes : (f : Path → Bool) (ps : List Path) (i : ℕ) (p : Path) → i < length ps → p ≡ get_or ps i p → f p ≡ true → list_any f (drop i ps) ≡ true
one_passes f [] i p h e k = absurd (omega (arith, h))
one_passes f (q ∷ ps) zero p h e k = ap (λ b. b || list_any f ps) (ap f (sym e) ∙ k)
one_passes f (q ∷ ps) (suc i) p h e k = one_passes f ps i p (omega (arith, h)) e k
