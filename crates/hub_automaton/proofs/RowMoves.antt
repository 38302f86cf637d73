-- Rows of words moved on by a character, each word without the one before it first.
use Rattle.std.proofs.Common.{◌≡◌, ◌≢◌, ℕ, zero, suc, ◌+◌, ◌-◌, ◌*◌, ◌/◌, ◌%◌, ◌^◌, ◌<◌, ◌≤◌, min, Bool, true, false, ◌&&◌, ◌==◌, ◌⊎◌, inl, inr, List, [], ◌∷◌, ◌++◌, cond, length, take, drop, refl, sym, ap, ◌∙◌, arith, add-one}
use Rattle.std.specs.Prelude.{slice_index_or, slice_set}
use Rattle.std.specs.Int.RustNames.{bit_or}
use Rattle.std.specs.Int.Bits.{and_zero_r}
use Rattle.std.proofs.Math.Nat.{eq-or-lt_of_le}
use Rattle.std.proofs.lemmas.Nat.{le_or_l, le_or_r}
use Rattle.std.proofs.lemmas.Bool.{cases_lt}
use Rattle.std.proofs.lemmas.Grind.{get_or-set_at}
use Rattle.std.proofs.lemmas.List.{drop_min, drop-set-lt, drop-set-add, length-append, length-drop, length-set, length-take, get_or-append-add, get_or-drop, get_or-set_same, get_or-set_other, get_or-take, set-append_right, set_past, take-set-le, take-append-drop}
use lib.Bits.{bit_and}
use Rattle.hub_glob.specs.declared.piece.NextCharacter.{NextCharacter}
use Rattle.hub_glob.specs.declared.piece.Piece.TheVariants.{Run}
use Rattle.hub_glob.specs.Taking.{takes}
use Rattle.hub_automaton.specs.declared.alternatives.Alternatives.{Alternatives}
use Rattle.hub_automaton.specs.declared.words.Masks.{Masks}
use Rattle.hub_automaton.specs.Masks.{ended_at, marked, moved_row, moved_state}
use Rattle.hub_automaton.specs.forms.Rows.{AreMovedApart, AreMoved, AreTakenAlike, NoneCarried, last_before, masks_at, shifted_at, word_at}
use Rattle.hub_automaton.specs.Spots.{PackedState, is_below_kind, spot_count}
use Rattle.hub_automaton.specs.Words.{first_word, other_words, spread, moved_word, moved_words, with_bit}
use Rattle.hub_automaton.proofs.WordLoops.{first-drop}

abbrev get : List ℕ → ℕ → ℕ
get ws i = slice_index_or ws i 0

-- Words copied from a place on.
abbrev pub SameBetween : List ℕ → List ℕ → ℕ → ℕ → Type 0
SameBetween xs ys m n = (j : ℕ) → m ≤ j → j < n → slice_index_or xs j 0 ≡ slice_index_or ys j 0

-- The spot before a word.
before-set : (ws : List ℕ) (i j w : ℕ) → j ≤ i → last_before 0 (slice_set ws i w) j ≡ last_before 0 ws j
before-set ws i zero w l = refl
before-set ws i (suc j) w l = ap (λ p. p / 2 ^ 63) (get_or-set_other ws i j w 0 (let d : j ≢ i = omega arith in d))

pub before-next : (ws : List ℕ) (i p : ℕ) → p ≡ slice_index_or ws i 0 → p / 2 ^ 63 ≡ last_before 0 ws (i + 1)
before-next ws i p e = ap (λ q. q / 2 ^ 63) e ∙ ap (last_before 0 ws) (sym (add-one i))

pub before-minus : (ws : List ℕ) (i : ℕ) → 1 ≤ i → slice_index_or ws (i - 1) 0 / 2 ^ 63 ≡ last_before 0 ws i
before-minus ws zero l = absurd (omega arith)
before-minus ws (suc i) l = ap (λ k. get ws k / 2 ^ 63) (let e : suc i - 1 ≡ i = omega arith in e)

-- Without a star to go on to, the spot before a word doesn't matter.
before_apart : (stays : Bool) (m : Masks) (o here b : ℕ) → bit_and m.stars b ≡ 0 → moved_word stays m o here 0 ≡ moved_word stays m o here b
before_apart stays m o here b none =
    λ k. spread m.stars (bit_or m.entries (bit_or (cond stays (bit_and m.stars o) 0) (bit_or (bit_and m.takers (bit_or (o * 2 ^ 1 % 2 ^ 64) here)) ((and_zero_r m.stars ∙ sym none) k))))

pub apart_moved : (stays : Bool) (es ss ts old ws : List ℕ) (n : ℕ) → AreMovedApart stays es ss ts old ws n → NoneCarried ss ws n → AreMoved stays es ss ts old ws n
apart_moved stays es ss ts old ws n h k i l = h i l ∙ before_apart stays (masks_at es ss ts i) (get old i) (last_before 0 old i) (last_before 0 ws i) (k i l)

-- A row in which the words up to a place are moved, each without the spot before it.
pub record Apart (stays : Bool) (es ss ts old first ws : List ℕ) (n i here before carried : ℕ) : Type 0 where
  pub long : length ws ≡ length old
  pub here_is : here ≡ last_before 0 old i
  pub before_is : before ≡ last_before 0 ws i
  pub apart : AreMovedApart stays es ss ts old ws i
  pub after : drop n ws ≡ drop n first
  pub none : carried ≡ 0 → NoneCarried ss ws i

pub apart_step : (stays : Bool) (es ss ts old first ws : List ℕ) (n i here before carried o w : ℕ) (m : Masks)
    → Apart stays es ss ts old first ws n i here before carried → i < n → i < length ws
    → m ≡ masks_at es ss ts i → o ≡ slice_index_or old i 0 → w ≡ moved_word stays m o here 0
    → Apart stays es ss ts old first (slice_set ws i w) n (i + 1) (o / 2 ^ 63) (w / 2 ^ 63) (bit_or carried (bit_and m.stars before))
apart_step stays es ss ts old first ws n i here before carried o w m h l r em eo ew =
    record {
      long = length-set ws i w ∙ h.long;
      here_is = before-next old i o eo;
      before_is = before-next (slice_set ws i w) i w (sym (get_or-set_same ws i w 0 r));
      apart = λ j q. by_place j (eq-or-lt_of_le (let k : j ≤ i = omega arith in k));
      after = drop-set-lt n ws i w l ∙ h.after;
      none = λ z j q. ap (bit_and (get ss j)) (before-set ws i j w (omega arith)) ∙ by_carry z j (eq-or-lt_of_le (let k : j ≤ i = omega arith in k));
    }
  where
    by_place : (j : ℕ) → (j ≡ i) ⊎ (j < i) → get (slice_set ws i w) j ≡ word_at stays es ss ts old j 0
    by_place j (inl s) =
        get_or-set_at ws i j w 0 s r ∙ ew ∙ (λ k. moved_word stays (em k) (eo k) (h.here_is k) 0) ∙ ap (λ p. word_at stays es ss ts old p 0) (sym s)
    by_place j (inr s) = get_or-set_other ws i j w 0 (let d : j ≢ i = omega arith in d) ∙ h.apart j s

    by_carry : bit_or carried (bit_and m.stars before) ≡ 0 → (j : ℕ) → (j ≡ i) ⊎ (j < i) → bit_and (get ss j) (last_before 0 ws j) ≡ 0
    by_carry z j (inl s) =
        let e : bit_and m.stars before ≡ 0 = omega (arith, le_or_r carried (bit_and m.stars before), z) in
        ap (λ p. bit_and (get ss p) (last_before 0 ws p)) s ∙ sym (λ k. let q : Masks = em k in bit_and q.stars (h.before_is k)) ∙ e
    by_carry z j (inr s) = h.none (omega (arith, le_or_l carried (bit_and m.stars before), z)) j s

-- A row in which the words up to a place are moved, and those from it on are still without the spot before them.
pub record Carried (stays : Bool) (es ss ts old first ws : List ℕ) (n i : ℕ) : Type 0 where
  pub some : 1 ≤ i
  pub long : length ws ≡ length old
  pub moved : (j : ℕ) → j < i → j < n → slice_index_or ws j 0 ≡ word_at stays es ss ts old j (last_before 0 ws j)
  pub apart : (j : ℕ) → i ≤ j → j < n → slice_index_or ws j 0 ≡ word_at stays es ss ts old j 0
  pub after : drop n ws ≡ drop n first

pub carry_skips : (stays : Bool) (es ss ts old first ws : List ℕ) (n i before : ℕ) → Carried stays es ss ts old first ws n i
    → before ≡ slice_index_or ws (i - 1) 0 / 2 ^ 63 → bit_and (slice_index_or ss i 0) before ≡ 0 → Carried stays es ss ts old first ws n (i + 1)
carry_skips stays es ss ts old first ws n i before h eb z =
    record {
      some = omega arith;
      long = h.long;
      after = h.after;
      moved = λ j p q. by j q (eq-or-lt_of_le (let k : j ≤ i = omega arith in k));
      apart = λ j p q. h.apart j (omega arith) q;
    }
  where
    last : before ≡ last_before 0 ws i
    last = eb ∙ before-minus ws i h.some

    by : (j : ℕ) → j < n → (j ≡ i) ⊎ (j < i) → get ws j ≡ word_at stays es ss ts old j (last_before 0 ws j)
    by j q (inl s) =
        h.apart j (omega arith) q
        ∙ before_apart stays (masks_at es ss ts j) (get old j) (last_before 0 old j) (last_before 0 ws j)
        (ap (λ p. bit_and (get ss p) (last_before 0 ws p)) s ∙ ap (bit_and (get ss i)) (sym last) ∙ z)
    by j q (inr s) = h.moved j s q

pub carry_step : (stays : Bool) (es ss ts old first ws : List ℕ) (n i here before o w : ℕ) (m : Masks) → Carried stays es ss ts old first ws n i → i < n → i < length ws
    → before ≡ slice_index_or ws (i - 1) 0 / 2 ^ 63 → here ≡ slice_index_or old (i - 1) 0 / 2 ^ 63
    → m ≡ masks_at es ss ts i → o ≡ slice_index_or old i 0 → w ≡ moved_word stays m o here before
    → Carried stays es ss ts old first (slice_set ws i w) n (i + 1)
carry_step stays es ss ts old first ws n i here before o w m h l r eb eh em eo ew =
    record {
      some = omega arith;
      long = length-set ws i w ∙ h.long;
      after = drop-set-lt n ws i w l ∙ h.after;
      moved = λ j p q. by j q (eq-or-lt_of_le (let k : j ≤ i = omega arith in k));
      apart = λ j p q. get_or-set_other ws i j w 0 (let d : j ≢ i = omega arith in d) ∙ h.apart j (omega arith) q;
    }
  where
    by : (j : ℕ) → j < n → (j ≡ i) ⊎ (j < i) → get (slice_set ws i w) j ≡ word_at stays es ss ts old j (last_before 0 (slice_set ws i w) j)
    by j q (inl s) =
        get_or-set_at ws i j w 0 s r ∙ ew
        ∙ (λ k. moved_word stays (em k) (eo k) ((eh ∙ before-minus old i h.some) k) ((eb ∙ before-minus ws i h.some) k))
        ∙ ap (λ p. word_at stays es ss ts old p (last_before 0 ws p)) (sym s)
        ∙ ap (word_at stays es ss ts old j) (sym (before-set ws i j w (omega arith)))
    by j q (inr s) =
        get_or-set_other ws i j w 0 (let d : j ≢ i = omega arith in d) ∙ h.moved j s q
        ∙ ap (word_at stays es ss ts old j) (sym (before-set ws i j w (omega arith)))

-- A list of words that are moved one by one.
others-at : (ws : List ℕ) (j : ℕ) → slice_index_or ws (suc j) 0 ≡ slice_index_or (other_words ws) j 0
others-at [] zero = refl
others-at [] (suc j) = refl
others-at (w ∷ ws) j = refl

before-others : (o : ℕ) (os : List ℕ) (j : ℕ) → slice_index_or (o ∷ os) j 0 / 2 ^ 63 ≡ last_before (o / 2 ^ 63) os j
before-others o os zero = refl
before-others o os (suc j) = refl

all_moved : (stays : Bool) (es ss ts os ws : List ℕ) (here before : ℕ) → length ws ≡ length os
    → ((j : ℕ) → j < length os → slice_index_or ws j 0 ≡ moved_word stays (masks_at es ss ts j) (slice_index_or os j 0) (last_before here os j) (last_before before ws j))
    → ws ≡ moved_words stays es ss ts os here before
all_moved stays es ss ts [] [] here before l h = refl
all_moved stays es ss ts [] (w ∷ ws) here before l h = absurd (omega (arith, l))
all_moved stays es ss ts (o ∷ os) [] here before l h = absurd (omega (arith, l))
all_moved stays es ss ts (o ∷ os) (w ∷ ws) here before l h =
    let first : w ≡ moved_word stays (record { entries = first_word es; stars = first_word ss; takers = first_word ts }) o here before =
    h zero (omega arith) ∙ (λ k. let m : Masks = record { entries = first-drop 0 es k; stars = first-drop 0 ss k; takers = first-drop 0 ts k } in moved_word stays m o here before) in
    let rest : ws ≡ moved_words stays (other_words es) (other_words ss) (other_words ts) os (o / 2 ^ 63) (w / 2 ^ 63) =
    all_moved stays (other_words es) (other_words ss) (other_words ts) os ws (o / 2 ^ 63) (w / 2 ^ 63) (omega (arith, l))
    (λ j q. h (suc j) (omega arith)
    ∙ (λ k. let m : Masks = record { entries = others-at es j k; stars = others-at ss j k; takers = others-at ts j k } in
    moved_word stays m (slice_index_or os j 0) (before-others o os j k) (before-others w ws j k))) in
    (λ k. w ∷ rest k) ∙ (λ k. first k ∷ moved_words stays (other_words es) (other_words ss) (other_words ts) os (o / 2 ^ 63) (first k / 2 ^ 63))

before-take : (n : ℕ) (ws : List ℕ) (j : ℕ) → j < n → last_before 0 ws j ≡ last_before 0 (take n ws) j
before-take n ws zero l = refl
before-take n ws (suc j) l = ap (λ p. p / 2 ^ 63) (sym (get_or-take n ws j 0 (omega arith)))

pub row_moved : (stays : Bool) (es ss ts old ws : List ℕ) → length ws ≡ length old
    → AreMoved stays es ss ts old ws (min (length ss) (length old)) → drop (min (length ss) (length old)) ws ≡ drop (min (length ss) (length old)) old
    → ws ≡ moved_row stays es ss ts old
row_moved stays es ss ts old ws l h e =
    let n = min (length ss) (length old) in
    let os = take (length ss) old in
    let long : length (take n ws) ≡ length os = omega (arith, length-take n ws, length-take (length ss) old, l) in
    let front : take n ws ≡ moved_words stays es ss ts os 0 0 =
    all_moved stays es ss ts os (take n ws) 0 0 long
    (λ j q. let p : j < n = omega (arith, q, length-take (length ss) old) in
    get_or-take n ws j 0 p ∙ h j p
    ∙ (λ k. moved_word stays (masks_at es ss ts j) (sym (get_or-take (length ss) old j 0 (omega (arith, p))) k) (before-take (length ss) old j (omega (arith, p)) k) (before-take n ws j p k))) in
    sym (take-append-drop n ws) ∙ (λ k. front k ++ (e ∙ drop_min (length ss) old) k)

-- By masks that let the same spots go on a row moves alike.
words_alike : (stays : Bool) (es ss ts us os : List ℕ) (here before : ℕ)
    → ((j : ℕ) → j < length os
    → bit_and (slice_index_or ts j 0) (bit_or (slice_index_or os j 0 * 2 ^ 1 % 2 ^ 64) (last_before here os j))
    ≡ bit_and (slice_index_or us j 0) (bit_or (slice_index_or os j 0 * 2 ^ 1 % 2 ^ 64) (last_before here os j)))
    → moved_words stays es ss ts os here before ≡ moved_words stays es ss us os here before
words_alike stays es ss ts us [] here before h = refl
words_alike stays es ss ts us (o ∷ os) here before h =
    let shifted : ℕ = bit_or (o * 2 ^ 1 % 2 ^ 64) here in
    let taken : bit_and (first_word ts) shifted ≡ bit_and (first_word us) shifted =
    ap (λ w. bit_and w shifted) (sym (first-drop 0 ts)) ∙ h zero (omega arith) ∙ ap (λ w. bit_and w shifted) (first-drop 0 us) in
    let word : ℕ → ℕ = λ z. spread (first_word ss) (bit_or (first_word es) (bit_or (cond stays (bit_and (first_word ss) o) 0) (bit_or z (bit_and (first_word ss) before)))) in
    let w : ℕ = word (bit_and (first_word us) shifted) in
    let rest : moved_words stays (other_words es) (other_words ss) (other_words ts) os (o / 2 ^ 63) (w / 2 ^ 63) ≡ moved_words stays (other_words es) (other_words ss) (other_words us) os (o / 2 ^ 63) (w / 2 ^ 63) =
    words_alike stays (other_words es) (other_words ss) (other_words ts) (other_words us) os (o / 2 ^ 63) (w / 2 ^ 63)
    (λ j q. (λ k. bit_and (sym (others-at ts j) k) (bit_or (slice_index_or os j 0 * 2 ^ 1 % 2 ^ 64) (sym (before-others o os j) k)))
    ∙ h (suc j) (omega arith)
    ∙ (λ k. bit_and (others-at us j k) (bit_or (slice_index_or os j 0 * 2 ^ 1 % 2 ^ 64) (before-others o os j k)))) in
    (λ k. word (taken k) ∷ moved_words stays (other_words es) (other_words ss) (other_words ts) os (o / 2 ^ 63) (word (taken k) / 2 ^ 63))
    ∙ ap (λ ws. w ∷ ws) rest

pub row_alike : (stays : Bool) (es ss ts us row : List ℕ) → length ts ≡ length ss → AreTakenAlike ts us row (min (length ts) (length row))
    → moved_row stays es ss ts row ≡ moved_row stays es ss us row
row_alike stays es ss ts us row l h =
    let n = length ss in
    let os = take n row in
    ap (λ ws. ws ++ drop n row)
    (words_alike stays es ss ts us os 0 0
    (λ j q.
    let p : j < n = omega (arith, q, length-take n row) in
    let r : j < min (length ts) (length row) = omega (arith, q, length-take n row, l) in
    let at : bit_or (get os j * 2 ^ 1 % 2 ^ 64) (last_before 0 os j) ≡ shifted_at row j = λ k. bit_or (get_or-take n row j 0 p k * 2 ^ 1 % 2 ^ 64) (sym (before-take n row j p) k) in
    ap (bit_and (get ts j)) at ∙ h j r ∙ ap (bit_and (get us j)) (sym at)))

-- Flags after the words that are moved.
moved_words-length : (stays : Bool) (es ss ts os : List ℕ) (here before : ℕ) → length (moved_words stays es ss ts os here before) ≡ length os
moved_words-length stays es ss ts [] here before = refl
moved_words-length stays es ss ts (o ∷ os) here before =
    let w = moved_word stays (record { entries = first_word es; stars = first_word ss; takers = first_word ts }) o here before in
    ap suc (moved_words-length stays (other_words es) (other_words ss) (other_words ts) os (o / 2 ^ 63) (w / 2 ^ 63))

row-length : (stays : Bool) (es ss ts row : List ℕ) → length (moved_row stays es ss ts row) ≡ length row
row-length stays es ss ts row =
    omega (
      arith,
      length-append (moved_words stays es ss ts (take (length ss) row) 0 0) (drop (length ss) row),
      moved_words-length stays es ss ts (take (length ss) row) 0 0,
      length-take (length ss) row,
      length-drop (length ss) row,
    )

word_set : (stays : Bool) (es ss ts row : List ℕ) (k : ℕ) (f : ℕ → ℕ)
    → slice_set (moved_row stays es ss ts row) (length ss + k) (f (slice_index_or (moved_row stays es ss ts row) (length ss + k) 0))
    ≡ moved_row stays es ss ts (slice_set row (length ss + k) (f (slice_index_or row (length ss + k) 0)))
word_set stays es ss ts row k f = by (cases_lt (length row) (length ss)) where
  front : List ℕ
  front = moved_words stays es ss ts (take (length ss) row) 0 0

  by : (length row < length ss) ⊎ (length ss ≤ length row)
      → slice_set (moved_row stays es ss ts row) (length ss + k) (f (slice_index_or (moved_row stays es ss ts row) (length ss + k) 0))
      ≡ moved_row stays es ss ts (slice_set row (length ss + k) (f (slice_index_or row (length ss + k) 0)))
  by (inr l) =
      let long : length front ≡ length ss = omega (arith, moved_words-length stays es ss ts (take (length ss) row) 0 0, length-take (length ss) row) in
      let less : length ss ≤ length ss + k = omega arith in
      let same : slice_index_or (front ++ drop (length ss) row) (length ss + k) 0 ≡ slice_index_or row (length ss + k) 0 =
      ap (λ p. slice_index_or (front ++ drop (length ss) row) (p + k) 0) (sym long) ∙ get_or-append-add front (drop (length ss) row) k 0 ∙ get_or-drop (length ss) row k 0 in
      let v = f (slice_index_or row (length ss + k) 0) in
      let past : length ss + k - length ss ≡ k = omega arith in
      ap (λ p. slice_set (front ++ drop (length ss) row) (length ss + k) (f p)) same
      ∙ set-append_right front (drop (length ss) row) (length ss) (length ss + k) v long less
      ∙ (λ i. moved_words stays es ss ts (sym (take-set-le (length ss) row (length ss + k) v less) i) 0 0
      ++ (ap (λ p. slice_set (drop (length ss) row) p v) past ∙ sym (drop-set-add (length ss) row k v)) i)
  by (inl l) =
      set_past (moved_row stays es ss ts row) (length ss + k) (f (slice_index_or (moved_row stays es ss ts row) (length ss + k) 0)) (omega (arith, row-length stays es ss ts row))
      ∙ ap (moved_row stays es ss ts) (sym (set_past row (length ss + k) (f (slice_index_or row (length ss + k) 0)) (omega (arith, l))))

pub marks_move : (stays : Bool) (es ss ts live : List ℕ) (ls : List Alternatives) (n i : ℕ) (row : List ℕ)
    → marked ls live n (length ss) i (moved_row stays es ss ts row) ≡ moved_row stays es ss ts (marked ls live n (length ss) i row)
marks_move stays es ss ts live [] n i row = refl
marks_move stays es ss ts live (a ∷ ls) n i row =
    ap (marked ls live (n + spot_count a.choices) (length ss) (i + 1)) (by (is_below_kind a.kind && ended_at a.choices live n))
    ∙ marks_move stays es ss ts live ls (n + spot_count a.choices) (i + 1) (cond (is_below_kind a.kind && ended_at a.choices live n) (with_bit (length ss) i row) row)
  where
    by : (b : Bool) → cond b (with_bit (length ss) i (moved_row stays es ss ts row)) (moved_row stays es ss ts row) ≡ moved_row stays es ss ts (cond b (with_bit (length ss) i row) row)
    by true = word_set stays es ss ts row (i / 64) (λ w. bit_or w (2 ^ (i % 64)))
    by false = refl

-- Before a `/` the flags may be set after the words that are moved already.
pub seen_moves : (x : NextCharacter) (ls : List Alternatives) (es ss ts row : List ℕ) (s : PackedState)
    → row ≡ cond (x.character == 47) (marked ls (take (length ss) s.row) 0 (length ss) 0 (moved_row (takes x Run) (cond (x.character == 47) es []) ss ts s.row))
    (moved_row (takes x Run) (cond (x.character == 47) es []) ss ts s.row)
    → let r : PackedState = record { row = row; start = x.character == 47 } in r ≡ moved_state x ls es ss ts s
seen_moves x ls es ss ts row s e =
    λ j. let r : PackedState = record { row = (e ∙ by (x.character == 47) (cond (x.character == 47) es [])) j; start = x.character == 47 } in r
  where
    by : (b : Bool) (entered : List ℕ)
        → cond b (marked ls (take (length ss) s.row) 0 (length ss) 0 (moved_row (takes x Run) entered ss ts s.row)) (moved_row (takes x Run) entered ss ts s.row)
        ≡ moved_row (takes x Run) entered ss ts (cond b (marked ls (take (length ss) s.row) 0 (length ss) 0 s.row) s.row)
    by true entered = marks_move (takes x Run) entered ss ts (take (length ss) s.row) ls 0 0 s.row
    by false entered = refl
