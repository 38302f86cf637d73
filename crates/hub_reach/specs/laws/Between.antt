-- What lies between a kept value and a reached path is reached.
use Rattle.std.proofs.Common.{◌≡◌, Bool, true, false, not, ◌&&◌, ◌||◌, List, [], ◌∷◌, ◌++◌, drop, length, refl, ap, sym, ◌∙◌, subst, append-nil}
use Rattle.std.specs.Prelude.{IsTrue}
use Rattle.std.specs.List.{list_any}
use Rattle.std.proofs.lemmas.Bool.{false≢true, false_from_ne_true, and_from, and_parts, not-true, or_right}
use Rattle.hub_path.specs.laws.General.{is_over-rest}
use Rattle.hub_path.specs.Path.{Name, Path, path_eq, is_over, is_path, parent, last_name, prefixes}
use Rattle.hub_path.specs.laws.General as path
use Rattle.hub_path.specs.laws.Text.{any-prefixes, prefixes-push}
use Rattle.hub_profile.specs.Parts.{Parts, IsProfile}
use Rattle.hub_reach.specs.Reach.{reach, is_ignored}
use Rattle.hub_reach.specs.laws.General.{reach-is_path}
use Rattle.hub_reach.specs.Walk.{is_inside, is_cut, is_walked}
use Rattle.hub_reach.specs.laws.Walk.{walks, kept-over-path}

parent-append : (x : Path) (k : Name) (z : Path) → parent (x ++ k ∷ z) ≡ x ++ parent (k ∷ z)
parent-append [] k z = refl
parent-append (a ∷ []) k z = refl
parent-append (a ∷ b ∷ x) k z = ap (λ q. a ∷ q) (parent-append (b ∷ x) k z)

any-last : (f : Path → Bool) (ps : List Path) (q : Path) → f q ≡ true
    → list_any f (ps ++ q ∷ []) ≡ true
any-last f [] q e = ap (λ c. c || false) e
any-last f (p ∷ ps) q e = or_right (f p) (list_any f (ps ++ q ∷ [])) (any-last f ps q e)

-- The last prefix of a path is the path.
any-itself : (f : Path → Bool) (n : Name) (p : Path) → f (n ∷ p) ≡ true
    → list_any f (prefixes (n ∷ p)) ≡ true
any-itself f n p e =
    let whole : parent (n ∷ p) ++ last_name (n ∷ p) ∷ [] ≡ n ∷ p = path.parent-last_name n p in
    subst (λ q. list_any f (prefixes q) ≡ true) whole
    (ap (list_any f) (prefixes-push (parent (n ∷ p)) (last_name (n ∷ p)))
    ∙ any-last f (prefixes (parent (n ∷ p))) (parent (n ∷ p) ++ last_name (n ∷ p) ∷ []) (ap f whole
    ∙ e))

any-parent : (f : Path → Bool) (n : Name) (p : Path) → list_any f (prefixes (parent (n ∷ p))) ≡ true
    → list_any f (prefixes (n ∷ p)) ≡ true
any-parent f n p e =
    subst (λ q. list_any f (prefixes q) ≡ true) (path.parent-last_name n p)
    (any-prefixes f (parent (n ∷ p)) (last_name (n ∷ p) ∷ []) e)

all_three : (a b c : Bool) → a ≡ false → b ≡ false → c ≡ true → (not a && (not b && c)) ≡ true
all_three true b c e f g = absurd (false≢true (sym e))
all_three false true c e f g = absurd (false≢true (sym f))
all_three false false c e f g = g

-- Above y nothing is cut off, and x with all that is above it is above y.
between : (P : Parts) (n : Name) (x : Path) (k : Name) (z : Path) → IsProfile P
    → IsTrue (reach P ((n ∷ x) ++ k ∷ z)) → list_any (λ s. is_over s (n ∷ x)) P.paths ≡ true
    → IsTrue (is_path (n ∷ x)) → IsTrue (reach P (n ∷ x))
between P n x k z facts h kept good =
    let y = (n ∷ x) ++ k ∷ z in
    let g : Path → Bool = λ q. is_ignored P q && list_any (λ s. is_over s q) P.paths in
    let w : IsTrue (is_walked P y) = sym (walks P y facts (reach-is_path P y h)) ∙ h in
    let uncut : list_any g (prefixes (parent y)) ≡ false = not-true (is_cut P y)
    (and_parts (not (is_cut P y))
    (not (is_ignored P y) && (is_inside P y || list_any (λ s. path_eq s y) P.paths)) w).0 in
    let up : list_any g (prefixes (n ∷ x)) ≡ true
    → ⊥ =
    λ e. false≢true (sym uncut ∙ (ap (λ q. list_any g (prefixes q)) (parent-append (n ∷ x) k z)
    ∙ any-prefixes g (n ∷ x) (parent (k ∷ z)) e)) in
    let plain : is_ignored P (n ∷ x) ≡ false = false_from_ne_true (is_ignored P (n ∷ x))
    (λ e. up (any-itself g n x (and_from (is_ignored P (n ∷ x))
    (list_any (λ s. is_over s (n ∷ x)) P.paths) e kept))) in
    let clear : is_cut P (n ∷ x) ≡ false = false_from_ne_true (is_cut P (n ∷ x))
    (λ e. up (any-parent g n x e)) in
    walks P (n ∷ x) facts good
    ∙ all_three (is_cut P (n ∷ x)) (is_ignored P (n ∷ x))
    (is_inside P (n ∷ x) || list_any (λ s. path_eq s (n ∷ x)) P.paths) clear plain
    (sym (kept-over-path P (n ∷ x) good) ∙ kept)

by_rest : (P : Parts) (x y r : Path) → IsProfile P → IsTrue (reach P y)
    → list_any (λ s. is_over s x) P.paths ≡ true → IsTrue (is_path x) → y ≡ x ++ r
    → IsTrue (reach P x)
by_rest P [] y r facts h kept good e = absurd (false≢true good)
by_rest P (n ∷ x) y [] facts h kept good e =
    subst (λ q. IsTrue (reach P q)) (e ∙ append-nil (n ∷ x)) h
by_rest P (n ∷ x) y (k ∷ z) facts h kept good e =
    between P n x k z facts (subst (λ q. IsTrue (reach P q)) e h) kept good

pub reach-between : (P : Parts) (x y : Path) → IsProfile P → IsTrue (reach P y)
    → IsTrue (is_over x y) → list_any (λ s. is_over s x) P.paths ≡ true → IsTrue (is_path x)
    → IsTrue (reach P x)
reach-between P x y facts h o kept good =
    by_rest P x y (drop (length x) y) facts h kept good (is_over-rest x y o)
