-- What is read is a profile.
use Rattle.std.proofs.Common.{◌≡◌, ◌==◌, Bool, true, false, not, ◌||◌, ◌&&◌, cond, List, [], ◌∷◌, ◌++◌, Some, None, length, IsTrue, arith, refl, sym, ◌∙◌}
use Rattle.std.specs.List.{list_any, list_all}
use Rattle.std.proofs.lemmas.Bool.{and_from, and_parts, or_parts, not-true, not_from_false, ne_eqb}
use Rattle.std.proofs.lemmas.List.Folds.{list_any-append}
use Rattle.hub_path.specs.Path.{Name, Path, path_eq, is_over, is_place, none_over}
use Rattle.hub_path.specs.laws.General.{path_eq-turned}
use Rattle.hub_profile.specs.declared.fault.Fault.TheVariants as fault
use Rattle.hub_profile.specs.Facts.{are_roots, are_kept}
use Rattle.hub_profile.specs.Parts.{IsProfile}
use Rattle.hub_profile.specs.Said.{Said}
use Rattle.hub_profile.specs.Reading.{adds, kept_after, kept, or_whole, roots_fault, profile}

-- Of a value that adds something nothing is properly over.
nothing_over : (all earlier : List Path) (s : Path) → adds all earlier s ≡ true → (list_any (path_eq s) earlier ≡ false) × (list_any (λ t. is_over t s && not (path_eq t s)) all ≡ false)
nothing_over all earlier s h =
    let parts = and_parts (not (list_any (path_eq s) earlier)) (not (list_any (λ t. is_over t s && not (path_eq t s)) all)) h in
    (not-true _ parts.0, not-true _ parts.1)

not_over : (b e : Bool) → (b && not e) ≡ false → e ≡ false → b ≡ false
not_over true true h k = cc
not_over true false h k = cc
not_over false e h k = refl

apart_of : (b c : Bool) → b ≡ false → c ≡ false → not (b || c) ≡ true
apart_of b c h k = rw (h, k) refl

-- A value that adds something is apart from each later one that does.
apart : (all earlier ss : List Path) (s : Path) → ((p : Path → Bool) → list_any p all ≡ false → p s ≡ false) → ((p : Path → Bool) → list_any p all ≡ false → list_any p ss ≡ false) → ((q : Path) → list_any (path_eq q) earlier ≡ false → path_eq q s ≡ false) → list_any (λ t. is_over t s && not (path_eq t s)) all ≡ false → list_all (λ q. not (is_over s q || is_over q s)) (kept_after all earlier ss) ≡ true
apart all earlier [] s stands rest before over = refl
apart all earlier (q ∷ ss) s stands rest before over =
    let later = apart all (earlier ++ q ∷ []) ss s stands (λ p h. (or_parts (p q) (list_any p ss) (rest p h)).1) (λ r h. before r (or_parts (list_any (path_eq r) earlier) (list_any (path_eq r) (q ∷ [])) (sym (list_any-append (path_eq r) earlier (q ∷ [])) ∙ h)).0) over in
    by_case (adds all earlier q) refl later
  where
    by_case : (b : Bool) → adds all earlier q ≡ b → list_all (λ r. not (is_over s r || is_over r s)) (kept_after all (earlier ++ q ∷ []) ss) ≡ true → list_all (λ r. not (is_over s r || is_over r s)) (cond b (q ∷ kept_after all (earlier ++ q ∷ []) ss) (kept_after all (earlier ++ q ∷ []) ss)) ≡ true
    by_case true e later =
        let free = nothing_over all earlier q e in
        let differs : path_eq q s ≡ false = before q free.0 in
        let below : is_over s q ≡ false = not_over (is_over s q) (path_eq s q) (stands (λ t. is_over t q && not (path_eq t q)) free.1) (path_eq-turned s q ∙ differs) in
        let above : is_over q s ≡ false = not_over (is_over q s) (path_eq q s) (or_parts (is_over q s && not (path_eq q s)) _ (rest (λ t. is_over t s && not (path_eq t s)) over)).0 differs in
        and_from _ _ (apart_of (is_over s q) (is_over q s) below above) later
    by_case false e later = later

none_over-kept : (all earlier ss : List Path) → ((p : Path → Bool) → list_any p all ≡ false → list_any p ss ≡ false) → none_over (kept_after all earlier ss) ≡ true
none_over-kept all earlier [] rest = refl
none_over-kept all earlier (s ∷ ss) rest =
    by_case (adds all earlier s) refl (none_over-kept all (earlier ++ s ∷ []) ss (λ p h. (or_parts (p s) (list_any p ss) (rest p h)).1))
  where
    by_case : (b : Bool) → adds all earlier s ≡ b → none_over (kept_after all (earlier ++ s ∷ []) ss) ≡ true → none_over (cond b (s ∷ kept_after all (earlier ++ s ∷ []) ss) (kept_after all (earlier ++ s ∷ []) ss)) ≡ true
    by_case true e later =
        and_from _ _
        (apart all (earlier ++ s ∷ []) ss s (λ p h. (or_parts (p s) (list_any p ss) (rest p h)).0) (λ p h. (or_parts (p s) (list_any p ss) (rest p h)).1)
        (λ q h. (or_parts (path_eq q s) false (or_parts (list_any (path_eq q) earlier) (list_any (path_eq q) (s ∷ [])) (sym (list_any-append (path_eq q) earlier (s ∷ [])) ∙ h)).1).0) (nothing_over all earlier s e).1)
        later
    by_case false e later = later

list_all-kept : (p : Path → Bool) (all earlier ss : List Path) → list_all p ss ≡ true → list_all p (kept_after all earlier ss) ≡ true
list_all-kept p all earlier [] h = refl
list_all-kept p all earlier (s ∷ ss) h =
    let parts = and_parts (p s) (list_all p ss) h in
    by_case (adds all earlier s) parts.0 (list_all-kept p all (earlier ++ s ∷ []) ss parts.1)
  where
    by_case : (b : Bool) → p s ≡ true → list_all p (kept_after all (earlier ++ s ∷ []) ss) ≡ true → list_all p (cond b (s ∷ kept_after all (earlier ++ s ∷ []) ss) (kept_after all (earlier ++ s ∷ []) ss)) ≡ true
    by_case true a b = and_from (p s) _ a b
    by_case false a b = b

kept_facts : (ps : List Path) → list_all is_place ps ≡ true → none_over ps ≡ true → are_kept (or_whole ps) ≡ true
kept_facts [] h k = refl
kept_facts (s ∷ ss) h k = and_from (not (length (s ∷ ss) == 0) && list_all is_place (s ∷ ss)) (none_over (s ∷ ss)) (and_from (not (length (s ∷ ss) == 0)) (list_all is_place (s ∷ ss)) (not_from_false (length (s ∷ ss) == 0) (ne_eqb (length (s ∷ ss)) 0 (λ e. omega (arith, e)))) h) k

apart_roots : (a b c : Bool) → cond a (Some fault.SameRoots) (cond (b || c) (Some fault.RootsNested) None) ≡ None → not (b || c) ≡ true
apart_roots true b c h = cc
apart_roots false true c h = cc
apart_roots false false true h = cc
apart_roots false false false h = refl

roots_facts : (rs : List Path) → list_all is_place rs ≡ true → roots_fault rs ≡ None → are_roots rs ≡ true
roots_facts [] h k = cc
roots_facts (r ∷ []) h k = cc
roots_facts (r ∷ s ∷ []) h k = and_from (list_all is_place (r ∷ s ∷ [])) (none_over (r ∷ s ∷ [])) h (and_from _ true (and_from _ true (apart_roots (path_eq r s) (is_over r s) (is_over s r) k) refl) refl)
roots_facts (r ∷ s ∷ t ∷ rs) h k = cc

-- Roots without a fault and values that are places make a profile.
pub IsProfile-profile : (name : Name) (said : Said) → IsTrue (list_all is_place said.roots) → IsTrue (list_all is_place said.paths) → roots_fault said.roots ≡ None → IsProfile (profile name said)
IsProfile-profile name said r v k = record {
  roots = roots_facts said.roots r k;
  paths = kept_facts (kept said.paths) (list_all-kept is_place said.paths [] said.paths v) (none_over-kept said.paths [] said.paths (λ p h. h));
}
