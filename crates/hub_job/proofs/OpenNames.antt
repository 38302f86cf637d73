-- The names of a path's children where a profile ignores nothing: it reaches them all.
use Rattle.std.proofs.Common.{◌≡◌, Bool, true, false, cond, not, ◌&&◌, ◌||◌, List, [], ◌∷◌, ◌++◌, map, Option, Some, None, refl, ap, sym, ◌∙◌}
use Rattle.std.specs.Prelude.{filter, unwrap_or, is_some}
use Rattle.std.specs.List.{list_all, list_any}
use Rattle.std.specs.FinMap as fin
use Rattle.std.proofs.lemmas.Bool.{false≢true, and_parts}
use Rattle.std.proofs.Math.Bool.{or-true}
use Rattle.hub_path.specs.Path.{Name, Path, is_over, is_path, last_name}
use Rattle.hub_path.specs.laws.General.{is_over-append, is_over-transitive}
use Rattle.hub_profile.specs.Parts.{Parts}
use Rattle.hub_reach.specs.Reach.{reach}
use Rattle.hub_reach.specs.laws.General.{reach-open}
use Rattle.hub_tree.specs.Tree.{Replica, HasPaths, contents_at, is_absent, is_child, names_at}
use Rattle.hub_tree.specs.declared.contents.Contents.{Contents}
use Rattle.hub_tree.specs.declared.contents.Contents.TheVariants as contents
use Rattle.hub_job.proofs.Performs.{child_where, some_path}

-- The children of a path are paths.
present : (o : Option Contents) → not (is_absent (unwrap_or o contents.Absent)) ≡ true → is_some o ≡ true
present None h = absurd (false≢true h)
present (Some c) h = refl

child_path : (m : Replica) (d p : Path) → HasPaths m → child_where d (λ p. not (is_absent (contents_at m p))) p ≡ true → is_path p ≡ true
child_path m d [] paths h = absurd (false≢true h)
child_path m d (n ∷ p) paths h =
    paths (n ∷ p) (present (fin.get m (n ∷ p)) (and_parts (is_child d (n ∷ p)) (not (is_absent (contents_at m (n ∷ p)))) h).1)

names_of_paths : (d : Path) (g : Path → Bool) (ps : List Path) → ((p : Path) → child_where d g p ≡ true → is_path p ≡ true)
    → list_all (λ n. is_path (d ++ n ∷ [])) (map last_name (filter (child_where d g) ps)) ≡ true
names_of_paths d g [] known = refl
names_of_paths d g (p ∷ ps) known =
    elim (child_where d g p) as (λ b. child_where d g p ≡ b
    → list_all (λ n. is_path (d ++ n ∷ [])) (map last_name (cond b (p ∷ filter (child_where d g) ps) (filter (child_where d g) ps))) ≡ true) [
      | true ↦ λ h.
          ap (λ b. b && list_all (λ n. is_path (d ++ n ∷ [])) (map last_name (filter (child_where d g) ps))) (ap is_path (some_path (g p) p d h) ∙ known p h)
          ∙ names_of_paths d g ps known
      | false ↦ λ h. names_of_paths d g ps known
    ] refl

names_make_paths : (m : Replica) (d : Path) → HasPaths m → list_all (λ n. is_path (d ++ n ∷ [])) (names_at m d) ≡ true
names_make_paths m d paths = names_of_paths d (λ p. not (is_absent (contents_at m p))) (fin.keys m) (λ p h. child_path m d p paths h)

pub all_make_paths : (m : Replica) (d : Path) (ns : List Name) → ns ≡ names_at m d → HasPaths m → list_all (λ n. is_path (d ++ n ∷ [])) ns ≡ true
all_make_paths m d ns are paths = ap (λ ns. list_all (λ n. is_path (d ++ n ∷ [])) ns) are ∙ names_make_paths m d paths

-- A kept value is over what is below a path that it is over.
over_child : (ss : List Path) (d : Path) (n : Name) → list_any (λ s. is_over s d) ss ≡ true → list_any (λ s. is_over s (d ++ n ∷ [])) ss ≡ true
over_child [] d n h = absurd (false≢true h)
over_child (s ∷ ss) d n h =
    elim (is_over s d) as (λ b. is_over s d ≡ b → (b || list_any (λ s. is_over s d) ss) ≡ true → list_any (λ s. is_over s (d ++ n ∷ [])) (s ∷ ss) ≡ true) [
      | true ↦ λ g k. ap (λ b. b || list_any (λ s. is_over s (d ++ n ∷ [])) ss) (is_over-transitive s d (d ++ n ∷ []) g (is_over-append d (n ∷ [])))
      | false ↦ λ g k. ap (λ b. is_over s (d ++ n ∷ []) || b) (over_child ss d n k) ∙ or-true (is_over s (d ++ n ∷ []))
    ] refl h

reached_child : (P : Parts) (d : Path) (n : Name) → P.ignore ≡ [] → list_any (λ s. is_over s d) P.paths ≡ true → is_path (d ++ n ∷ []) ≡ true → reach P (d ++ n ∷ []) ≡ true
reached_child P d n none kept path =
    reach-open P (d ++ n ∷ []) none
    ∙ (ap (λ b. b && list_any (λ s. is_over s (d ++ n ∷ [])) P.paths) path ∙ over_child P.paths d n kept)

pub all_reached : (P : Parts) (d : Path) (ns : List Name) → P.ignore ≡ [] → list_any (λ s. is_over s d) P.paths ≡ true → list_all (λ n. is_path (d ++ n ∷ [])) ns ≡ true
    → ns ≡ filter (λ n. reach P (d ++ n ∷ [])) ns
all_reached P d [] none kept paths = refl
all_reached P d (n ∷ ns) none kept paths =
    let parts = and_parts (is_path (d ++ n ∷ [])) (list_all (λ n. is_path (d ++ n ∷ [])) ns) paths in
    ap (λ ns. n ∷ ns) (all_reached P d ns none kept parts.1)
    ∙ sym (ap (λ b. cond b (n ∷ filter (λ n. reach P (d ++ n ∷ [])) ns) (filter (λ n. reach P (d ++ n ∷ [])) ns)) (reached_child P d n none kept parts.0))

pub no_others : (P : Parts) (d : Path) (ns : List Name) → P.ignore ≡ [] → list_any (λ s. is_over s d) P.paths ≡ true → list_all (λ n. is_path (d ++ n ∷ [])) ns ≡ true
    → false ≡ list_any (λ n. not (reach P (d ++ n ∷ []))) ns
no_others P d [] none kept paths = refl
no_others P d (n ∷ ns) none kept paths =
    let parts = and_parts (is_path (d ++ n ∷ [])) (list_all (λ n. is_path (d ++ n ∷ [])) ns) paths in
    no_others P d ns none kept parts.1
    ∙ sym (ap (λ b. not b || list_any (λ n. not (reach P (d ++ n ∷ []))) ns) (reached_child P d n none kept parts.0))
