-- Which characters have classes, which are mentioned, and that samples may stand in paths.
use Rattle.std.proofs.Common.{◌≡◌, ℕ, suc, zero, ◌+◌, ◌<◌, Bool, true, false, not, ◌&&◌, ◌||◌, ◌==◌, cond, List, [], ◌∷◌, length, get_or, refl, sym, ap, ◌∙◌, arith, subst}
use Rattle.std.specs.Prelude.{Option, Some, None, unwrap_or}
use Rattle.std.specs.List.{list_all, position_from}
use Rattle.std.specs.Str.{all_scalars}
use Rattle.std.proofs.Math.Utf8.{low_scalar}
use Rattle.std.proofs.lemmas.Bool.{and_from, and_parts}
use Rattle.std.proofs.lemmas.Bool.Decides.{nat_tests}
use lib.Utf8.{scalar}
use Rattle.hub_automaton.specs.Alphabet.{is_never_mentioned, is_mentioned, is_path_character, class_of, class_count, sample, IsAlphabet, inserted, with_character, with_characters}
use Rattle.hub_automaton.proofs.Alphabets.{mentioned_at, mentioned-placed, free_from, free-low, free-high, first_is_free}

place_low : (ms : List ℕ) (n x k : ℕ) → position_from (λ m. m == x) n ms ≡ Some k → k < n + length ms
place_low [] n x k h = cc
place_low (m ∷ ms) n x k h = by_test (m == x) h (place_low ms (n + 1) x k) where
  by_test : (b : Bool) → cond b (Some n) (position_from (λ l. l == x) (n + 1) ms) ≡ Some k
      → (position_from (λ l. l == x) (n + 1) ms ≡ Some k → k < (n + 1) + length ms) → k < n + suc (length ms)
  by_test true h go = let s : n ≡ k = cc in omega (arith, s)
  by_test false h go = omega (arith, go h)

pub class_low : (ms : List ℕ) (x k : ℕ) → class_of ms x ≡ Some k → k < class_count ms
class_low ms x k h = by_test (is_never_mentioned x) h where
  by_place : (o : Option ℕ) → position_from (λ m. m == x) 1 ms ≡ o → Some (unwrap_or o 0) ≡ Some k → k < length ms + 1
  by_place None e h = let s : 0 ≡ k = cc in omega (arith, s)
  by_place (Some j) e h = let s : j ≡ k = cc in omega (arith, s, place_low ms 1 x j e)

  by_test : (b : Bool) → cond b None (Some (unwrap_or (position_from (λ m. m == x) 1 ms) 0)) ≡ Some k → k < length ms + 1
  by_test true h = cc
  by_test false h = by_place (position_from (λ m. m == x) 1 ms) refl h

pub class_some : (ms : List ℕ) (x : ℕ) → is_never_mentioned x ≡ false → (k : ℕ) × (class_of ms x ≡ Some k)
class_some ms x h =
    let k = unwrap_or (position_from (λ m. m == x) 1 ms) 0 in
    (k, ap (λ b. cond b None (Some k)) h)

pub class_allowed : (ms : List ℕ) (x k : ℕ) → class_of ms x ≡ Some k → is_never_mentioned x ≡ false
class_allowed ms x k h = by_test (is_never_mentioned x) h where
  by_test : (b : Bool) → cond b None (Some (unwrap_or (position_from (λ m. m == x) 1 ms) 0)) ≡ Some k → b ≡ false
  by_test true h = cc
  by_test false h = refl

-- Samples.
mentioned_allowed : (ms : List ℕ) (x : ℕ) → list_all (λ m. not (is_never_mentioned m)) ms ≡ true → all_scalars ms ≡ true → is_mentioned ms x ≡ true → is_path_character x ≡ true
mentioned_allowed [] x a s h = cc
mentioned_allowed (m ∷ ms) x a s h = by_test (m == x) refl h v w (mentioned_allowed ms x v.1 w.1) where
  v : (not (is_never_mentioned m) ≡ true) × (list_all (λ n. not (is_never_mentioned n)) ms ≡ true)
  v = and_parts (not (is_never_mentioned m)) (list_all (λ n. not (is_never_mentioned n)) ms) a

  w : (scalar m ≡ true) × (all_scalars ms ≡ true)
  w = and_parts (scalar m) (all_scalars ms) s

  by_test : (b : Bool) → (m == x) ≡ b → (b || is_mentioned ms x) ≡ true → (not (is_never_mentioned m) ≡ true) × (list_all (λ n. not (is_never_mentioned n)) ms ≡ true)
      → (scalar m ≡ true) × (all_scalars ms ≡ true) → (is_mentioned ms x ≡ true → is_path_character x ≡ true) → is_path_character x ≡ true
  by_test true e h v w go =
      let same : m ≡ x = grind (arith, nat_tests, e) in
      ap is_path_character (sym same) ∙ and_from (all_scalars (m ∷ [])) (not (is_never_mentioned m)) (and_from (scalar m) true w.0 refl) v.0
  by_test false e h v w go = go h

pub mentioned_in_paths : (ms : List ℕ) (x : ℕ) → IsAlphabet ms → is_mentioned ms x ≡ true → is_path_character x ≡ true
mentioned_in_paths ms x a h = mentioned_allowed ms x a.allowed a.scalars h

pub sample_in_paths : (ms : List ℕ) (k : ℕ) → IsAlphabet ms → k < class_count ms → is_path_character (sample ms k) ≡ true
sample_in_paths ms zero a l =
    let c = free_from 97 ms in
    let low = free-low 97 ms in
    let high : c < 55296 = omega (arith, free-high 97 ms, a.few) in
    let n0 : (c == 0) ≡ false = grind (arith, nat_tests, low) in
    let n1 : (c == 10) ≡ false = grind (arith, nat_tests, low) in
    let n2 : (c == 13) ≡ false = grind (arith, nat_tests, low) in
    ap is_path_character (sym (first_is_free ms a.ascends))
    ∙ and_from (all_scalars (c ∷ [])) (not (is_never_mentioned c)) (and_from (scalar c) true (low_scalar c high) refl) (λ i. not ((n0 i || n1 i) || n2 i))
sample_in_paths ms (suc i) a l = mentioned_in_paths ms (get_or ms i 0) a (mentioned_at ms i (get_or ms i 0) (omega arith) refl)

-- Exactly what is added is mentioned besides.
one_more : (ms : List ℕ) (c x : ℕ) → is_mentioned (with_character ms c) x ≡ (is_mentioned ms x || (not (is_never_mentioned x) && (c == x)))
one_more ms c x = by_test (c == x) refl where
  not_this : (a b : Bool) → a ≡ (a || (b && false))
  not_this true b = refl
  not_this false true = refl
  not_this false false = refl

  other : (e : Bool) → (c == x) ≡ false → is_mentioned (cond e ms (inserted ms c)) x ≡ is_mentioned ms x
  other true h = refl
  other false h = mentioned-placed ms c x ∙ ap (λ a. a || is_mentioned ms x) h

  itself : (a b : Bool) → is_mentioned ms c ≡ b → is_mentioned (cond (a || b) ms (inserted ms c)) c ≡ (b || (not a && true))
  itself true true h = h
  itself true false h = h
  itself false true h = h
  itself false false h = let e : (c == c) ≡ true = grind (arith, nat_tests) in mentioned-placed ms c c ∙ ap (λ a. a || is_mentioned ms c) e

  by_test : (b : Bool) → (c == x) ≡ b → is_mentioned (with_character ms c) x ≡ (is_mentioned ms x || (not (is_never_mentioned x) && b))
  by_test false h = other (is_never_mentioned c || is_mentioned ms c) h ∙ not_this (is_mentioned ms x) (not (is_never_mentioned x))
  by_test true h =
      let same : c ≡ x = grind (arith, nat_tests, h) in
      let P : ℕ → Type 0 = λ y. is_mentioned (with_character ms c) y ≡ (is_mentioned ms y || (not (is_never_mentioned y) && true)) in
      subst P same (itself (is_never_mentioned c) (is_mentioned ms c) refl)

pub exactly_added : (ms cs : List ℕ) (x : ℕ) → is_mentioned (with_characters ms cs) x ≡ (is_mentioned ms x || (not (is_never_mentioned x) && is_mentioned cs x))
exactly_added ms [] x = none (is_mentioned ms x) (is_never_mentioned x) where
  none : (a b : Bool) → a ≡ (a || (not b && false))
  none true b = refl
  none false true = refl
  none false false = refl
exactly_added ms (c ∷ cs) x =
    exactly_added (with_character ms c) cs x ∙ ap (λ b. b || (not (is_never_mentioned x) && is_mentioned cs x)) (one_more ms c x)
    ∙ regroup (is_mentioned ms x) (not (is_never_mentioned x)) (c == x) (is_mentioned cs x)
  where
    regroup : (a b c d : Bool) → ((a || (b && c)) || (b && d)) ≡ (a || (b && (c || d)))
    regroup true b c d = refl
    regroup false true c d = refl
    regroup false false c d = refl
