-- The paths over a path, by how many of its names they have.
use Rattle.std.proofs.Common.{◌≡◌, ℕ, suc, zero, ◌+◌, ◌<◌, ◌≤◌, Bool, true, false, ◌&&◌, ◌||◌, [], ◌∷◌, ◌++◌, length, take, drop, get_or, refl, sym, ap, ◌∙◌, arith}
use Rattle.std.specs.Prelude.{IsTrue, nat_le}
use Rattle.std.specs.List.{list_any}
use Rattle.std.proofs.lemmas.List.{take_more, take-append-drop}
use Rattle.std.proofs.lemmas.List.Folds.{list_any-append}
use Rattle.std.proofs.lemmas.Bool.{and_parts}
use Rattle.std.proofs.lemmas.Bool.Decides.{nat_tests}
use Rattle.hub_path.specs.Path.{Path, name_eq, is_over, prefixes}
use Rattle.hub_path.specs.laws.Text.{any-prefixes, prefixes-push}
use Rattle.std.proofs.Math.Bool.{or-false, or-true, and-false}

-- One name more.
pub any-more : (f : Path → Bool) (p : Path) (i : ℕ) → i < length p
    → list_any f (prefixes (take (i + 1) p))
    ≡ (list_any f (prefixes (take i p)) || f (take (i + 1) p))
any-more f p i l =
    let more = take_more p i [] l in
    ap (λ q. list_any f (prefixes q)) more
    ∙ (ap (list_any f) (prefixes-push (take i p) (get_or p i []))
    ∙ (list_any-append f (prefixes (take i p)) ((take i p ++ get_or p i [] ∷ []) ∷ [])
    ∙ (ap (λ b. list_any f (prefixes (take i p)) || b)
    (or-false (f (take i p ++ get_or p i [] ∷ [])))
    ∙ ap (λ q. list_any f (prefixes (take i p)) || f q) (sym more))))

-- What some prefix of a front passes, some prefix of the path does.
pub any-front : (f : Path → Bool) (p : Path) (i : ℕ) → list_any f (prefixes (take i p)) ≡ true
    → list_any f (prefixes p) ≡ true
any-front f p i h =
    ap (λ q. list_any f (prefixes q)) (sym (take-append-drop i p))
    ∙ any-prefixes f (take i p) (drop i p) h

-- A front that passes is a prefix that passes.
pub any-at-front : (f : Path → Bool) (p : Path) (i : ℕ) → i < length p → f (take (i + 1) p) ≡ true
    → list_any f (prefixes p) ≡ true
any-at-front f p i l h =
    any-front f p (i + 1) (any-more f p i l
    ∙ (ap (λ b. list_any f (prefixes (take i p)) || b) h
    ∙ or-true (list_any f (prefixes (take i p)))))

-- A path over another one is over its fronts that are as long.
pub over-front : (s p : Path) (k : ℕ) → IsTrue (is_over s p)
    → is_over s (take k p) ≡ nat_le (length s) k
over-front [] p k h = grind (arith, nat_tests)
over-front (n ∷ s) [] k h = cc
over-front (n ∷ s) (m ∷ p) zero h = grind (arith, nat_tests)
over-front (n ∷ s) (m ∷ p) (suc k) h =
    let parts = and_parts (name_eq n m) (is_over s p) h in
    rw parts.0 (over-front s p k parts.1 ∙ less (length s) k)
  where
    less : (a b : ℕ) → nat_le a b ≡ nat_le (suc a) (suc b)
    less a b = grind (arith, nat_tests)

-- A front that is as long as the kept value and ignored closes the way; one that is shorter, or not
-- ignored, doesn't.
pub closed-at : (f : Path → Bool) (s p : Path) (i : ℕ) → IsTrue (is_over s p) → i < length p
    → length s ≤ i + 1 → f (take (i + 1) p) ≡ true
    → list_any (λ q. is_over s q && f q) (prefixes p) ≡ true
closed-at f s p i over l long h =
    let as_long : is_over s (take (i + 1) p) ≡ true = over-front s p (i + 1) over
    ∙ long-enough (length s) (i + 1) long in
    any-at-front (λ q. is_over s q && f q) p i l (rw (as_long, h) refl)
  where
    long-enough : (a b : ℕ) → a ≤ b → nat_le a b ≡ true
    long-enough a b l = grind (arith, nat_tests)

pub open-ignored : (f : Path → Bool) (s p : Path) (i : ℕ) → i < length p
    → f (take (i + 1) p) ≡ false → list_any (λ q. is_over s q && f q) (prefixes (take i p)) ≡ false
    → list_any (λ q. is_over s q && f q) (prefixes (take (i + 1) p)) ≡ false
open-ignored f s p i l h before =
    any-more (λ q. is_over s q && f q) p i l
    ∙ rw (before, h) (and-false (is_over s (take (i + 1) p)))

pub open-short : (f : Path → Bool) (s p : Path) (i : ℕ) → IsTrue (is_over s p) → i < length p
    → i + 1 < length s → list_any (λ q. is_over s q && f q) (prefixes (take i p)) ≡ false
    → list_any (λ q. is_over s q && f q) (prefixes (take (i + 1) p)) ≡ false
open-short f s p i over l short before =
    let shorter : is_over s (take (i + 1) p) ≡ false = over-front s p (i + 1) over
    ∙ too-short (length s) (i + 1) short in
    any-more (λ q. is_over s q && f q) p i l ∙ rw (before, shorter) refl
  where
    too-short : (a b : ℕ) → b < a → nat_le a b ≡ false
    too-short a b l = grind (arith, nat_tests)
