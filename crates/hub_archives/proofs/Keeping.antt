-- What readings that keep a folder out don't reach, and roots by their places.
use Rattle.std.proofs.Common.{◌≡◌, ◌∙◌, ◌++◌, ◌||◌, ◌==◌, ◌⊎◌, ◌<◌, ◌+◌, not, ℕ, length, suc, Bool, false, true, List, [], ◌∷◌, Some, None, Option, Result, Ok, Err, IfOk, MatchOption, slice_get, unwrap_or, ap, subst, sym, refl, arith, inl, inr, ⊎_elim, IsTrue}
use Rattle.std.proofs.lemmas.Bool.{and_from, and_parts, cases_lt, or_cases, or_right, false_from_ne_true, false≢true, true_from_ne_false}
use Rattle.std.proofs.lemmas.Bool.Decides.{nat_tests}
use Rattle.std.proofs.lemmas.List.{append_cancel_left}
use Rattle.std.proofs.lemmas.Map.Keys.{any_passes_from_place}
use Rattle.std.specs.List.{list_any}
use Rattle.hub_path.specs.Path.{Path, is_over, is_place, path_eq}
use Rattle.hub_path.specs.laws.General.{is_over-comparable, is_over-continued, is_place-over, path_eq-decides}
use Rattle.hub_profile.specs.Parts.{IsProfile, Parts, has_root}
use Rattle.hub_reach.specs.Reach.{reach}
use Rattle.hub_reach.specs.laws.Between.{reach-between}
use Rattle.hub_reach.specs.laws.General.{reach-below, reach-is_path}
use Rattle.hub_unison.specs.ReadingOf.{cautious_of}
use Rattle.hub_unison.specs.UnisonReach.{IsCautious, reach_by}
use Rattle.hub_unison.specs.Written.{IsWrittenAs, Written}
use Rattle.hub_archives.specs.KeptOut.{AllKeepOut, IsHeldBy, keeps_out}
use Rattle.hub_archives.specs.Seen.{IsHeldByAs, KeptOutBelow, KeptOutBy, KeptOutOf, keeps_out_as}

-- A value over what is below a path is over the path, or at or below it.
either : (ks : List Path) (x q : Path) → IsTrue (is_over x q) → list_any (λ s. is_over s q) ks ≡ true
    → (list_any (λ s. is_over s x) ks ≡ true) ⊎ (list_any (λ s. is_over x s) ks ≡ true)
either [] x q o h = absurd (false≢true h)
either (k ∷ ks) x q o h =
    ⊎_elim (λ at. ⊎_elim (λ e. inl (ap (λ b. b || list_any (λ s. is_over s x) ks) e))
    (λ e. inr (ap (λ b. b || list_any (λ s. is_over x s) ks) e)) (is_over-comparable k x q at o))
    (λ rest. ⊎_elim (λ e. inl (or_right (is_over k x) (list_any (λ s. is_over s x) ks) e))
    (λ e. inr (or_right (is_over x k) (list_any (λ s. is_over x s) ks) e)) (either ks x q o rest))
    (or_cases (is_over k q) (list_any (λ s. is_over s q) ks) h)

-- Nothing is kept at or below the path.
not_kept : (C : Parts) (x : Path) → IsTrue (keeps_out C x) → list_any (λ k. is_over x k) C.paths ≡ true → ⊥
not_kept C x out kept =
    false≢true (ap not (sym kept) ∙ (and_parts (not (reach C x)) (not (list_any (λ k. is_over x k) C.paths)) out).1)

unreached : (C : Parts) (x : Path) → IsTrue (keeps_out C x) → IsTrue (reach C x) → ⊥
unreached C x out h =
    false≢true (ap not (sym h) ∙ (and_parts (not (reach C x)) (not (list_any (λ k. is_over x k) C.paths)) out).0)

all_below : (ks : List Path) (q : Path) → list_any (λ s. is_over s q) ks ≡ true → list_any (λ k. is_over [] k) ks ≡ true
all_below [] q h = h
all_below (k ∷ ks) q h = refl

-- A path under which something is reached is one, if no value is kept there.
pub reached_at : (C : Parts) (x q : Path) → IsProfile C → IsTrue (keeps_out C x) → IsTrue (is_over x q)
    → IsTrue (reach C q) → ⊥
reached_at C [] q facts out o h = not_kept C [] out (all_below C.paths q (reach-below C q h))
reached_at C (n ∷ x) q facts out o h =
    let place : IsTrue (is_place (n ∷ x)) =
    is_place-over (n ∷ x) q (and_parts (not (length q == 0)) (is_place q) (reach-is_path C q h)).1 o in
    let some : not (length (n ∷ x) == 0) ≡ true = grind (arith, nat_tests) in
    ⊎_elim (λ over. unreached C (n ∷ x) out (reach-between C (n ∷ x) q facts h o over
    (and_from (not (length (n ∷ x) == 0)) (is_place (n ∷ x)) some place)))
    (not_kept C (n ∷ x) out) (either C.paths (n ∷ x) q o (reach-below C q h))

pub reaches_nothing : (C : Parts) (x q : Path) → IsProfile C → IsTrue (keeps_out C x)
    → IsTrue (is_over x q) → reach C q ≡ false
reaches_nothing C x q facts out o = false_from_ne_true (reach C q) (reached_at C x q facts out o)

-- A root of a profile by its place.
pub root_at_place : (C : Parts) (rs : List Path) (m : ℕ) (r : Path) → rs ≡ C.roots → slice_get rs m ≡ Some r
    → IsTrue (has_root C r)
root_at_place C rs m r same at =
    any_passes_from_place (λ own. path_eq own r) C.roots m r (ap (λ l. slice_get l m) (sym same) ∙ at)
    ((path_eq-decides r r).1 refl)

none_any : {X : Type 0} (t : X → Bool) (xs : List X) → ((k : ℕ) (x : X) → slice_get xs k ≡ Some x → t x ≡ false)
    → list_any t xs ≡ false
none_any t [] none = refl
none_any t (x ∷ xs) none =
    ap (λ b. b || list_any t xs) (none 0 x refl) ∙ none_any t xs (λ k y e. none (suc k) y e)

-- What holds of each root by its place holds of each root.
pub at_each_root : (b : Bool) (C : Parts) (rs : List Path) (f : Path) → rs ≡ C.roots
    → ((m : ℕ) (r : Path) → slice_get rs m ≡ Some r → KeptOutBelow b r f C) → KeptOutBy b f C
at_each_root b C rs f same each r has x e =
    true_from_ne_false (keeps_out_as b C x)
    (λ out. false≢true
    (sym (none_any (λ own. path_eq own r) C.roots
    (λ k own at. false_from_ne_true (path_eq own r)
    (λ is. false≢true (sym out ∙ each k r (ap (λ l. slice_get l k) same
    ∙ (at ∙ ap Some ((path_eq-decides own r).0 is))) x e))))
    ∙ has))

-- The path below a root is one.
pub same_rest : (r x y f : Path) → f ≡ r ++ x → f ≡ r ++ y → x ≡ y
same_rest r x y f e d = append_cancel_left r x y (sym e ∙ d)

pub not_below : (r x f : Path) → is_over r f ≡ false → f ≡ r ++ x → ⊥
not_below r x f apart e = false≢true (sym apart ∙ is_over-continued r f x e)

is_same : (g f : Path) → Some g ≡ Some f → g ≡ f
is_same g f e = ap (λ (o : Option Path). unwrap_or o g) e

-- One more of the folders is kept out.
pub one_more_kept : (b : Bool) (C : Parts) (fs : List Path) (n : ℕ) (g : Path)
    → ((m : ℕ) (f : Path) → m < n → slice_get fs m ≡ Some f → IsProfile C × KeptOutBy b f C)
    → slice_get fs n ≡ Some g → IsProfile C → KeptOutBy b g C
    → (m : ℕ) (f : Path) → m < n + 1 → slice_get fs m ≡ Some f → IsProfile C × KeptOutBy b f C
one_more_kept b C fs n g before at facts kept m f lt here =
    ⊎_elim (λ less. before m f less here)
    (λ more. let same : m ≡ n = omega (arith, lt, more) in
    (facts, subst (λ h. KeptOutBy b h C) (is_same g f (sym at ∙ (ap (slice_get fs) (sym same) ∙ here))) kept))
    (cases_lt m n)

-- A cautious reading that keeps out folders says that Unison does.
pub all_keep_out : (P C : Parts) (fs : List Path) → ((W : Written) → IsWrittenAs W P → IsCautious W C)
    → KeptOutOf false fs C → AllKeepOut fs P
all_keep_out P C fs wide each i f at W r x is has e m q by o =
    let facts = each i f at in
    let reading : IsCautious W C = wide W is in
    let own : IsTrue (has_root C r) = ap (list_any (λ own. path_eq own r)) (reading.roots ∙ ap (λ P. P.roots) is.parts) ∙ has in
    false_from_ne_true (reach_by m W q)
    (λ h. reached_at C x q facts.0 (facts.1 r own x e) o (reading.reach m by q h))

-- What a walk over the folders finds by the cautious reading, it finds of the profile.
pub held_as_it_stands : {E : Type 0} (P C : Parts) (fs : List Path) (r : Result (Option (ℕ × Path)) E)
    → C ≡ cautious_of P → ((W : Written) → IsWrittenAs W P → IsCautious W C)
    → IfOk r (λ o. MatchOption o (KeptOutOf false fs C) (λ h. IsHeldByAs false fs C h.0 h.1))
    → IfOk r (λ o. MatchOption o (AllKeepOut fs P) (λ h. IsHeldBy fs P h.0 h.1))
held_as_it_stands P C fs (Ok None) is wide kept = all_keep_out P C fs wide kept
held_as_it_stands P C fs (Ok (Some h)) is wide held = subst (λ D. IsHeldByAs false fs D h.0 h.1) is held
held_as_it_stands P C fs (Err e) is wide h = h
