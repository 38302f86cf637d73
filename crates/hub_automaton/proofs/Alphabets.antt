-- Mentioned characters: what stays true as more are mentioned, and the class and the sample of each.
use Rattle.std.proofs.Common.{◌≡◌, ◌⊎◌, inl, inr, ⊎_elim, ℕ, suc, zero, ◌+◌, ◌<◌, ◌≤◌, Bool, true, false, not, ◌&&◌, ◌||◌, ◌==◌, cond, List, [], ◌∷◌, ◌++◌, length, drop, get_or, refl, sym, ap, ◌∙◌, arith, add-one, subst}
use Rattle.std.specs.Prelude.{Some, None, Ok, Err, find, unwrap_or, nat_lt, slice_get, insert}
use Rattle.std.specs.Ordering.{nat_cmp}
use Rattle.std.specs.List.Sorted.{IsBinarySearchResult}
use Rattle.std.proofs.lemmas.List.Sorted.{searched}
use Rattle.std.specs.List.{list_all, flat_map, range_with_len, position_from}
use Rattle.std.specs.Str.{all_scalars}
use lib.Utf8.{scalar}
use Rattle.std.proofs.lemmas.List.{drop_all}
use Rattle.std.proofs.lemmas.Bool.{and_from, and_parts, cases_Bool, cases_lt, not-true, or_parts, or_right}
use Rattle.std.proofs.lemmas.Bool.Decides.{nat_tests}
use Rattle.hub_text.specs.laws.Test.{or-swap, or-then}
use Rattle.hub_automaton.specs.declared.alphabet.TheConstants.{MENTIONED_CHARACTERS}
use Rattle.hub_automaton.specs.Alphabet.{is_never_mentioned, is_mentioned, class_of, class_count, first_unmentioned, sample, ascends, IsAlphabet, inserted, with_character, with_characters, mentions}
use Rattle.hub_automaton.specs.laws.Adding.{length-placed}

-- Tests of all elements.
all_below : (m n : ℕ) (ms : List ℕ) → m ≤ n → list_all (λ k. nat_lt n k) ms ≡ true → list_all (λ k. nat_lt m k) ms ≡ true
all_below m n [] l h = refl
all_below m n (k ∷ ms) l h =
    let w = and_parts (nat_lt n k) (list_all (λ k. nat_lt n k) ms) h in
    let first : nat_lt m k ≡ true = grind (arith, nat_tests, w.0) in
    and_from (nat_lt m k) (list_all (λ k. nat_lt m k) ms) first (all_below m n ms l w.1)

all_at : (m : ℕ) (ms : List ℕ) (i : ℕ) → list_all (λ k. nat_lt m k) ms ≡ true → i < length ms → m < get_or ms i 0
all_at m [] i h l = absurd (omega arith)
all_at m (k ∷ ms) zero h l = let w = and_parts (nat_lt m k) (list_all (λ k. nat_lt m k) ms) h in grind (arith, nat_tests, w.0)
all_at m (k ∷ ms) (suc i) h l = all_at m ms i (and_parts (nat_lt m k) (list_all (λ k. nat_lt m k) ms) h).1 (omega arith)

pub ascends_at : (ms : List ℕ) (i j : ℕ) → ascends ms ≡ true → i < j → j < length ms → get_or ms i 0 < get_or ms j 0
ascends_at [] i j h l k = absurd (omega arith)
ascends_at (m ∷ ms) zero zero h l k = absurd (omega arith)
ascends_at (m ∷ ms) zero (suc j) h l k = all_at m ms j (and_parts (list_all (λ n. nat_lt m n) ms) (ascends ms) h).0 (omega arith)
ascends_at (m ∷ ms) (suc i) zero h l k = absurd (omega arith)
ascends_at (m ∷ ms) (suc i) (suc j) h l k = ascends_at ms i j (and_parts (list_all (λ n. nat_lt m n) ms) (ascends ms) h).1 (omega arith) (omega arith)

pub does_not_fall : (ms : List ℕ) → ascends ms ≡ true → (i j : ℕ) → i ≤ j → j < length ms → get_or ms i 0 ≤ get_or ms j 0
does_not_fall ms h i j l k = ⊎_elim (λ s. omega (arith, ascends_at ms i j h s k)) (λ s. let e : i ≡ j = omega (arith, l, s) in let same : get_or ms i 0 ≡ get_or ms j 0 = ap (λ k. get_or ms k 0) e in omega (arith, same)) (cases_lt i j)

-- To be mentioned, by places.
pub mentioned_at : (ms : List ℕ) (i c : ℕ) → i < length ms → get_or ms i 0 ≡ c → is_mentioned ms c ≡ true
mentioned_at [] i c l h = absurd (omega arith)
mentioned_at (m ∷ ms) zero c l h = let e : (m == c) ≡ true = grind (arith, nat_tests, h) in ap (λ b. b || is_mentioned ms c) e
mentioned_at (m ∷ ms) (suc i) c l h = or_right (m == c) (is_mentioned ms c) (mentioned_at ms i c (omega arith) h)

pub not_mentioned : (ms : List ℕ) (i c : ℕ) → ((k : ℕ) → k < i → get_or ms k 0 < c) → ((k : ℕ) → i ≤ k → k < length ms → c < get_or ms k 0)
    → is_mentioned ms c ≡ false
not_mentioned [] i c below above = refl
not_mentioned (m ∷ ms) zero c below above =
    let l : c < m = above 0 (omega arith) (omega arith) in
    let e : (m == c) ≡ false = grind (arith, nat_tests, l) in
    (λ j. e j || is_mentioned ms c) ∙ not_mentioned ms 0 c (λ k s. absurd (omega arith)) (λ k s t. above (suc k) (omega arith) (omega arith))
not_mentioned (m ∷ ms) (suc i) c below above =
    let l : m < c = below 0 (omega arith) in
    let e : (m == c) ≡ false = grind (arith, nat_tests, l) in
    (λ j. e j || is_mentioned ms c) ∙ not_mentioned ms i c (λ k s. below (suc k) (omega arith)) (λ k s t. above (suc k) (omega arith) (omega arith))

pub placed_at : (ms : List ℕ) (i c : ℕ) → i ≤ length ms → ((k : ℕ) → k < i → get_or ms k 0 < c) → ((k : ℕ) → i ≤ k → k < length ms → c < get_or ms k 0)
    → insert ms i c ≡ inserted ms c
placed_at [] zero c l below above = refl
placed_at [] (suc i) c l below above = absurd (omega arith)
placed_at (m ∷ ms) zero c l below above =
    let s : c < m = above 0 (omega arith) (omega arith) in
    let e : nat_lt c m ≡ true = grind (arith, nat_tests, s) in
    ap (λ b. cond b (c ∷ m ∷ ms) (m ∷ inserted ms c)) (sym e)
placed_at (m ∷ ms) (suc i) c l below above =
    let s : m < c = below 0 (omega arith) in
    let e : nat_lt c m ≡ false = grind (arith, nat_tests, s) in
    ap (λ ns. m ∷ ns) (placed_at ms i c (omega arith) (λ k s. below (suc k) (omega arith)) (λ k s t. above (suc k) (omega arith) (omega arith)))
    ∙ ap (λ b. cond b (c ∷ m ∷ ms) (m ∷ inserted ms c)) (sym e)

-- A character put in its place: who is mentioned then, and what holds of all.
swap_and : (a b c : Bool) → (a && (b && c)) ≡ (b && (a && c))
swap_and true b c = refl
swap_and false true c = refl
swap_and false false c = refl

pub mentioned-placed : (ms : List ℕ) (c x : ℕ) → is_mentioned (inserted ms c) x ≡ ((c == x) || is_mentioned ms x)
mentioned-placed [] c x = refl
mentioned-placed (m ∷ ms) c x = by_test (nat_lt c m) (mentioned-placed ms c x) where
  by_test : (b : Bool) → is_mentioned (inserted ms c) x ≡ ((c == x) || is_mentioned ms x)
      → is_mentioned (cond b (c ∷ m ∷ ms) (m ∷ inserted ms c)) x ≡ ((c == x) || ((m == x) || is_mentioned ms x))
  by_test true h = refl
  by_test false h = ap (λ b. (m == x) || b) h ∙ or-swap (m == x) (c == x) (is_mentioned ms x)

all-placed : (p : ℕ → Bool) (ms : List ℕ) (c : ℕ) → list_all p (inserted ms c) ≡ (p c && list_all p ms)
all-placed p [] c = refl
all-placed p (m ∷ ms) c = by_test (nat_lt c m) (all-placed p ms c) where
  by_test : (b : Bool) → list_all p (inserted ms c) ≡ (p c && list_all p ms)
      → list_all p (cond b (c ∷ m ∷ ms) (m ∷ inserted ms c)) ≡ (p c && (p m && list_all p ms))
  by_test true h = refl
  by_test false h = ap (λ b. p m && b) h ∙ swap_and (p m) (p c) (list_all p ms)

ascends-placed : (ms : List ℕ) (c : ℕ) → ascends ms ≡ true → is_mentioned ms c ≡ false → ascends (inserted ms c) ≡ true
ascends-placed [] c h k = refl
ascends-placed (m ∷ ms) c h k = by_test (nat_lt c m) refl (λ a b. ascends-placed ms c a b) where
  by_test : (b : Bool) → nat_lt c m ≡ b → (ascends ms ≡ true → is_mentioned ms c ≡ false → ascends (inserted ms c) ≡ true) → ascends (cond b (c ∷ m ∷ ms) (m ∷ inserted ms c)) ≡ true
  by_test true e go =
      let w = and_parts (list_all (λ n. nat_lt m n) ms) (ascends ms) h in
      let l : c ≤ m = grind (arith, nat_tests, e) in
      and_from (nat_lt c m && list_all (λ n. nat_lt c n) ms) (list_all (λ n. nat_lt m n) ms && ascends ms)
      (and_from (nat_lt c m) (list_all (λ n. nat_lt c n) ms) e (all_below c m ms l w.0)) h
  by_test false e go =
      let w = and_parts (list_all (λ n. nat_lt m n) ms) (ascends ms) h in
      let n = or_parts (m == c) (is_mentioned ms c) k in
      let l : nat_lt m c ≡ true = grind (arith, nat_tests, e, n.0) in
      and_from (list_all (λ n. nat_lt m n) (inserted ms c)) (ascends (inserted ms c))
      (all-placed (λ n. nat_lt m n) ms c ∙ and_from (nat_lt m c) (list_all (λ n. nat_lt m n) ms) l w.0)
      (go w.1 n.1)

-- One more character.
pub still_mentioned : (ms : List ℕ) (c x : ℕ) → is_mentioned ms x ≡ true → is_mentioned (with_character ms c) x ≡ true
still_mentioned ms c x h = by_test (is_never_mentioned c || is_mentioned ms c) where
  by_test : (b : Bool) → is_mentioned (cond b ms (inserted ms c)) x ≡ true
  by_test true = h
  by_test false = mentioned-placed ms c x ∙ or_right (c == x) (is_mentioned ms x) h

scalars-placed : (ms : List ℕ) (c : ℕ) → scalar c ≡ true → all_scalars ms ≡ true → all_scalars (inserted ms c) ≡ true
scalars-placed [] c s h = and_from (scalar c) true s refl
scalars-placed (m ∷ ms) c s h = by_test (nat_lt c m) (scalars-placed ms c s) where
  by_test : (b : Bool) → (all_scalars ms ≡ true → all_scalars (inserted ms c) ≡ true) → all_scalars (cond b (c ∷ m ∷ ms) (m ∷ inserted ms c)) ≡ true
  by_test true go = and_from (scalar c) (all_scalars (m ∷ ms)) s h
  by_test false go = let w = and_parts (scalar m) (all_scalars ms) h in and_from (scalar m) (all_scalars (inserted ms c)) w.0 (go w.1)

pub alphabet-with : (ms : List ℕ) (c : ℕ) → scalar c ≡ true → IsAlphabet ms → length (with_character ms c) ≤ MENTIONED_CHARACTERS → IsAlphabet (with_character ms c)
alphabet-with ms c s a few = record {
  ascends = by_ascent (is_never_mentioned c || is_mentioned ms c) refl;
  dot = still_mentioned ms c 46 a.dot;
  slash = still_mentioned ms c 47 a.slash;
  allowed = by_allowed (is_never_mentioned c || is_mentioned ms c) refl;
  scalars = by_scalars (is_never_mentioned c || is_mentioned ms c);
  few = few;
} where
  by_scalars : (b : Bool) → all_scalars (cond b ms (inserted ms c)) ≡ true
  by_scalars true = a.scalars
  by_scalars false = scalars-placed ms c s a.scalars

  by_ascent : (b : Bool) → (is_never_mentioned c || is_mentioned ms c) ≡ b → ascends (cond b ms (inserted ms c)) ≡ true
  by_ascent true e = a.ascends
  by_ascent false e = ascends-placed ms c a.ascends (or_parts (is_never_mentioned c) (is_mentioned ms c) e).1

  by_allowed : (b : Bool) → (is_never_mentioned c || is_mentioned ms c) ≡ b → list_all (λ m. not (is_never_mentioned m)) (cond b ms (inserted ms c)) ≡ true
  by_allowed true e = a.allowed
  by_allowed false e =
      let n = or_parts (is_never_mentioned c) (is_mentioned ms c) e in
      all-placed (λ m. not (is_never_mentioned m)) ms c ∙ and_from (not (is_never_mentioned c)) (list_all (λ m. not (is_never_mentioned m)) ms) (ap not n.0) a.allowed

pub with_there : (ms : List ℕ) (c : ℕ) → is_mentioned ms c ≡ true → ms ≡ with_character ms c
with_there ms c h = ap (λ b. cond b ms (inserted ms c)) (sym (or_right (is_never_mentioned c) (is_mentioned ms c) h))

with_new : (ms : List ℕ) (c : ℕ) → is_never_mentioned c ≡ false → is_mentioned ms c ≡ false → inserted ms c ≡ with_character ms c
with_new ms c h k = λ i. cond (sym h i || sym k i) ms (inserted ms c)

length-with_new : (ms : List ℕ) (c : ℕ) → is_never_mentioned c ≡ false → is_mentioned ms c ≡ false → length (with_character ms c) ≡ length ms + 1
length-with_new ms c h k = ap length (sym (with_new ms c h k)) ∙ length-placed ms c

pub still_mentioned-all : (ms cs : List ℕ) (x : ℕ) → is_mentioned ms x ≡ true → is_mentioned (with_characters ms cs) x ≡ true
still_mentioned-all ms [] x h = h
still_mentioned-all ms (c ∷ cs) x h = still_mentioned-all (with_character ms c) cs x (still_mentioned ms c x h)

names_drop-suc : (p : List (List ℕ)) (i : ℕ) (n : List ℕ) → slice_get p i ≡ Some n → flat_map (λ m. m) (drop i p) ≡ n ++ flat_map (λ m. m) (drop (suc i) p)
names_drop-suc [] i n h = cc
names_drop-suc (m ∷ p) zero n h = let e : m ≡ n = cc in ap (λ k. k ++ flat_map (λ m. m) p) e
names_drop-suc (m ∷ p) (suc i) n h = names_drop-suc p i n h

pub names_drop : (p : List (List ℕ)) (i : ℕ) (n : List ℕ) → slice_get p i ≡ Some n → flat_map (λ m. m) (drop i p) ≡ n ++ flat_map (λ m. m) (drop (i + 1) p)
names_drop p i n h = names_drop-suc p i n h ∙ ap (λ k. n ++ flat_map (λ m. m) (drop k p)) (sym (add-one i))

pub mention_end : (rest ms whole : List ℕ) → rest ≡ [] → with_characters ms rest ≡ whole → ms ≡ whole
mention_end rest ms whole e h = ap (with_characters ms) (sym e) ∙ h

-- What is added is mentioned.
with_is_mentioned : (ms : List ℕ) (c : ℕ) → (is_never_mentioned c || is_mentioned (with_character ms c) c) ≡ true
with_is_mentioned ms c = by_tests (is_never_mentioned c) (is_mentioned ms c) refl where
  by_tests : (a b : Bool) → is_mentioned ms c ≡ b → (a || is_mentioned (cond (a || b) ms (inserted ms c)) c) ≡ true
  by_tests true b e = refl
  by_tests false true e = e
  by_tests false false e = mentioned-placed ms c c ∙ (let t : (c == c) ≡ true = grind (arith, nat_tests) in ap (λ b. b || is_mentioned ms c) t)

pub mentions_kept : (ms cs ds : List ℕ) → mentions ms ds ≡ true → mentions (with_characters ms cs) ds ≡ true
mentions_kept ms cs [] h = refl
mentions_kept ms cs (d ∷ ds) h =
    let w = and_parts (is_never_mentioned d || is_mentioned ms d) (mentions ms ds) h in
    and_from (is_never_mentioned d || is_mentioned (with_characters ms cs) d) (mentions (with_characters ms cs) ds)
    (or-then (is_never_mentioned d) (is_mentioned ms d) (is_mentioned (with_characters ms cs) d) w.0 (still_mentioned-all ms cs d))
    (mentions_kept ms cs ds w.1)

pub mentions_added : (ms cs : List ℕ) → mentions (with_characters ms cs) cs ≡ true
mentions_added ms [] = refl
mentions_added ms (c ∷ cs) =
    and_from (is_never_mentioned c || is_mentioned (with_characters (with_character ms c) cs) c) (mentions (with_characters (with_character ms c) cs) cs)
    (or-then (is_never_mentioned c) (is_mentioned (with_character ms c) c) (is_mentioned (with_characters (with_character ms c) cs) c) (with_is_mentioned ms c)
    (still_mentioned-all (with_character ms c) cs c))
    (mentions_added (with_character ms c) cs)

-- The class of a mentioned character is the number of its place, counted from 1.
position_at : (ms : List ℕ) (n i c : ℕ) → ascends ms ≡ true → i < length ms → get_or ms i 0 ≡ c → position_from (λ m. m == c) n ms ≡ Some (i + n)
position_at [] n i c h l e = absurd (omega arith)
position_at (m ∷ ms) n zero c h l e = let t : (m == c) ≡ true = grind (arith, nat_tests, e) in
    ap (λ b. cond b (Some n) (position_from (λ m. m == c) (n + 1) ms)) t ∙ ap Some (let k : n ≡ 0 + n = omega arith in k)
position_at (m ∷ ms) n (suc i) c h l e =
    let w = and_parts (list_all (λ k. nat_lt m k) ms) (ascends ms) h in
    let s : m < get_or ms i 0 = all_at m ms i w.0 (omega arith) in
    let t : (m == c) ≡ false = grind (arith, nat_tests, e, s) in
    ap (λ b. cond b (Some n) (position_from (λ m. m == c) (n + 1) ms)) t ∙ position_at ms (n + 1) i c w.1 (omega arith) e
    ∙ ap Some (let k : i + (n + 1) ≡ suc i + n = omega arith in k)

position_none : (ms : List ℕ) (n c : ℕ) → is_mentioned ms c ≡ false → position_from (λ m. m == c) n ms ≡ None
position_none [] n c h = refl
position_none (m ∷ ms) n c h =
    let w = or_parts (m == c) (is_mentioned ms c) h in
    ap (λ b. cond b (Some n) (position_from (λ m. m == c) (n + 1) ms)) w.0 ∙ position_none ms (n + 1) c w.1

pub class_at : (ms : List ℕ) (i c : ℕ) → ascends ms ≡ true → is_never_mentioned c ≡ false → i < length ms → get_or ms i 0 ≡ c → class_of ms c ≡ Some (i + 1)
class_at ms i c h a l e = λ j. cond (a j) None (Some (unwrap_or (position_at ms 1 i c h l e j) 0))

pub class_other : (ms : List ℕ) (c : ℕ) → is_never_mentioned c ≡ false → is_mentioned ms c ≡ false → class_of ms c ≡ Some 0
class_other ms c a h = λ j. cond (a j) None (Some (unwrap_or (position_none ms 1 c h j) 0))

-- What a binary search for a character says.
pub found : (ms xs : List ℕ) (c i : ℕ) → xs ≡ ms → ascends ms ≡ true → IsBinarySearchResult (λ y. nat_cmp y c) xs (Ok i) → (i < length ms) × (get_or ms i 0 ≡ c)
found ms xs c i e a h =
    let s = searched xs c (Ok i) h (subst (λ ns. (k j : ℕ) → k ≤ j → j < length ns → get_or ns k 0 ≤ get_or ns j 0) (sym e) (does_not_fall ms a)) in
    subst (λ ns. (i < length ns) × (get_or ns i 0 ≡ c)) e s

pub missing : (ms xs : List ℕ) (c i : ℕ) → xs ≡ ms → ascends ms ≡ true → IsBinarySearchResult (λ y. nat_cmp y c) xs (Err i) → (is_mentioned ms c ≡ false) × (insert ms i c ≡ inserted ms c)
missing ms xs c i e a h =
    let s = searched xs c (Err i) h (subst (λ ns. (k j : ℕ) → k ≤ j → j < length ns → get_or ns k 0 ≤ get_or ns j 0) (sym e) (does_not_fall ms a)) in
    let P : List ℕ → Type 0 = λ ns. (i ≤ length ns) × ((k : ℕ) → k < i → get_or ns k 0 < c) × ((k : ℕ) → i ≤ k → k < length ns → c < get_or ns k 0) in
    let t : P ms = subst P e s in (not_mentioned ms i c t.1 t.2, placed_at ms i c t.0 t.1 t.2)

-- A character that isn't found is put where it comes in the order.
pub put_new : (ms xs : List ℕ) (c i : ℕ) → xs ≡ ms → ascends ms ≡ true → is_never_mentioned c ≡ false → IsBinarySearchResult (λ y. nat_cmp y c) xs (Err i)
    → (insert ms i c ≡ with_character ms c) × (length (with_character ms c) ≡ length ms + 1)
put_new ms xs c i e a kept h =
    let m = missing ms xs c i e a h in (m.1 ∙ with_new ms c kept m.0, length-with_new ms c kept m.0)

-- The first character from `a` on that isn't mentioned, found by going through those that are.
abbrev pub free_from : ℕ → List ℕ → ℕ
free_from c [] = c
free_from c (m ∷ ms) = free_from (cond (m == c) (c + 1) c) ms

pub free-same : (c m : ℕ) (ms : List ℕ) → (m == c) ≡ true → free_from c (m ∷ ms) ≡ free_from (c + 1) ms
free-same c m ms e = ap (λ b. free_from (cond b (c + 1) c) ms) e

pub free-other : (c m : ℕ) (ms : List ℕ) → (m == c) ≡ false → free_from c (m ∷ ms) ≡ free_from c ms
free-other c m ms e = ap (λ b. free_from (cond b (c + 1) c) ms) e

pub free-low : (c : ℕ) (ms : List ℕ) → c ≤ free_from c ms
free-low c [] = omega arith
free-low c (m ∷ ms) = ⊎_elim (λ e. omega (arith, free-same c m ms e, free-low (c + 1) ms)) (λ e. omega (arith, free-other c m ms e, free-low c ms)) (cases_Bool (m == c))

pub free-high : (c : ℕ) (ms : List ℕ) → free_from c ms ≤ c + length ms
free-high c [] = omega arith
free-high c (m ∷ ms) = ⊎_elim (λ e. omega (arith, free-same c m ms e, free-high (c + 1) ms)) (λ e. omega (arith, free-other c m ms e, free-high c ms)) (cases_Bool (m == c))

free-above : (c : ℕ) (ms : List ℕ) → list_all (λ k. nat_lt c k) ms ≡ true → free_from c ms ≡ c
free-above c [] h = refl
free-above c (m ∷ ms) h =
    let w = and_parts (nat_lt c m) (list_all (λ k. nat_lt c k) ms) h in
    let e : (m == c) ≡ false = grind (arith, nat_tests, w.0) in
    free-other c m ms e ∙ free-above c ms w.1

free-not : (c : ℕ) (ms : List ℕ) → ascends ms ≡ true → is_mentioned ms (free_from c ms) ≡ false
free-not c [] h = refl
free-not c (m ∷ ms) h =
    let w = and_parts (list_all (λ k. nat_lt m k) ms) (ascends ms) h in
    ⊎_elim
    (λ e.
    let d : free_from c (m ∷ ms) ≡ free_from (c + 1) ms = free-same c m ms e in
    let l = free-low (c + 1) ms in
    let n : (m == free_from (c + 1) ms) ≡ false = grind (arith, nat_tests, e, l) in
    ap (is_mentioned (m ∷ ms)) d ∙ (λ i. n i || is_mentioned ms (free_from (c + 1) ms)) ∙ free-not (c + 1) ms w.1)
    (λ e.
    let d : free_from c (m ∷ ms) ≡ free_from c ms = free-other c m ms e in
    let n : (m == free_from c ms) ≡ false = other (nat_lt c m) refl e (free-low c ms) w.0 in
    ap (is_mentioned (m ∷ ms)) d ∙ (λ i. n i || is_mentioned ms (free_from c ms)) ∙ free-not c ms w.1)
    (cases_Bool (m == c))
  where
    other : (b : Bool) → nat_lt c m ≡ b → (m == c) ≡ false → c ≤ free_from c ms → list_all (λ k. nat_lt m k) ms ≡ true → (m == free_from c ms) ≡ false
    other true e n l a =
        let up : c ≤ m = grind (arith, nat_tests, e) in
        ap (λ d. m == d) (free-above c ms (all_below c m ms up a)) ∙ n
    other false e n l a = grind (arith, nat_tests, e, n, l)

free-all : (c : ℕ) (ms : List ℕ) (x : ℕ) → c ≤ x → x < free_from c ms → is_mentioned ms x ≡ true
free-all c [] x l h = absurd (omega arith)
free-all c (m ∷ ms) x l h =
    ⊎_elim
    (λ e. ⊎_elim
    (λ s. let t : (m == x) ≡ true = grind (arith, nat_tests, e, s) in ap (λ b. b || is_mentioned ms x) t)
    (λ n. or_right (m == x) (is_mentioned ms x) (free-all (c + 1) ms x (let k : c + 1 ≤ x = grind (arith, nat_tests, n, l) in k) (let k : x < free_from (c + 1) ms = omega (arith, h, free-same c m ms e) in k)))
    (either_is (x == c) refl))
    (λ e. or_right (m == x) (is_mentioned ms x) (free-all c ms x l (let k : x < free_from c ms = omega (arith, h, free-other c m ms e) in k)))
    (cases_Bool (m == c))
  where
    either_is : (b : Bool) → (x == c) ≡ b → (x ≡ c) ⊎ ((x == c) ≡ false)
    either_is true e = inl (let k : x ≡ c = grind (arith, nat_tests, e) in k)
    either_is false e = inr e

find_first : (p : ℕ → Bool) (d c n : ℕ) → c ≤ d → d < c + n → p d ≡ true → ((x : ℕ) → c ≤ x → x < d → p x ≡ false) → find p (range_with_len c n) ≡ Some d
find_first p d c zero l h t none = absurd (omega arith)
find_first p d c (suc n) l h t none =
    ⊎_elim
    (λ s. ap (λ b. cond b (Some c) (find p (range_with_len (c + 1) n))) (none c (let k : c ≤ c = omega arith in k) s) ∙ find_first p d (c + 1) n (omega (arith, s)) (omega (arith, h)) t (λ x a b. none x (omega (arith, a)) b))
    (λ s. let e : d ≡ c = omega (arith, l, s) in ap (λ b. cond b (Some c) (find p (range_with_len (c + 1) n))) (ap p (sym e) ∙ t) ∙ ap Some (sym e))
    (cases_lt c d)

pub first_is_free : (ms : List ℕ) → ascends ms ≡ true → free_from 97 ms ≡ first_unmentioned ms
first_is_free ms h =
    ap (λ o. unwrap_or o 97)
    (sym
    (find_first (λ c. not (is_mentioned ms c)) (free_from 97 ms) 97 (length ms + 1) (free-low 97 ms) (omega (arith, free-high 97 ms)) (ap not (free-not 97 ms h))
    (λ x a b. ap not (free-all 97 ms x a b))))

pub free_end : (ms : List ℕ) (i c whole : ℕ) → length ms ≤ i → free_from c (drop i ms) ≡ whole → c ≡ whole
free_end ms i c whole l h = ap (free_from c) (sym (drop_all i ms l)) ∙ h

-- The sample of a class is of that class.
all_allowed : (ms : List ℕ) (i : ℕ) → list_all (λ m. not (is_never_mentioned m)) ms ≡ true → i < length ms → is_never_mentioned (get_or ms i 0) ≡ false
all_allowed [] i h l = absurd (omega arith)
all_allowed (m ∷ ms) zero h l = not-true (is_never_mentioned m) (and_parts (not (is_never_mentioned m)) (list_all (λ k. not (is_never_mentioned k)) ms) h).0
all_allowed (m ∷ ms) (suc i) h l = all_allowed ms i (and_parts (not (is_never_mentioned m)) (list_all (λ k. not (is_never_mentioned k)) ms) h).1 (omega arith)

pub sample_class : (ms : List ℕ) (k : ℕ) → IsAlphabet ms → k < class_count ms → class_of ms (sample ms k) ≡ Some k
sample_class ms zero a l =
    let e = first_is_free ms a.ascends in
    let low = free-low 97 ms in
    let n0 : (free_from 97 ms == 0) ≡ false = grind (arith, nat_tests, low) in
    let n1 : (free_from 97 ms == 10) ≡ false = grind (arith, nat_tests, low) in
    let n2 : (free_from 97 ms == 13) ≡ false = grind (arith, nat_tests, low) in
    ap (class_of ms) (sym e) ∙ class_other ms (free_from 97 ms) (λ i. (n0 i || n1 i) || n2 i) (free-not 97 ms a.ascends)
sample_class ms (suc i) a l =
    class_at ms i (get_or ms i 0) a.ascends (all_allowed ms i a.allowed (omega arith)) (omega arith) refl ∙ ap Some (add-one i)
