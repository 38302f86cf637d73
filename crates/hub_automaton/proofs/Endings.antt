-- Masks of last positions: a row meets one exactly when one of its specifications matches.
use Rattle.std.proofs.Common.{◌≡◌, ℕ, zero, suc, ◌+◌, ◌-◌, ◌*◌, ◌/◌, ◌%◌, ◌^◌, ◌<◌, ◌≤◌, min, Bool, true, false, not, ◌&&◌, ◌||◌, ◌==◌, cond, List, [], ◌∷◌, ◌++◌, map, length, take, drop, refl, sym, ap, ◌∙◌, arith, append_assoc, length-append}
use Rattle.std.specs.Prelude.{slice_index_or, nat_lt}
use Rattle.std.specs.List.{list_any}
use Rattle.std.proofs.lemmas.List.{drop-drop, drop_all, take-map, length-map, length-drop, get_or-append-add}
use Rattle.std.proofs.lemmas.Nat.{and_block}
use Rattle.std.specs.Int.Bits.{and_zero_l, and_zero_r}
use Rattle.std.proofs.lemmas.Bool.{false_from_ne_true, or_parts}
use Rattle.std.proofs.lemmas.Bool.Decides.{nat_tests}
use Rattle.std.proofs.Math.Bool.{and_comm, and-true, and-false}
use lib.Bits.{bit_and}
use mir.Val.{bool_byte}
use Rattle.hub_glob.specs.declared.piece.Piece.{Piece}
use Rattle.hub_text.specs.laws.Test.{any-map, not-not, or-assoc}
use Rattle.hub_automaton.specs.declared.alternatives.Alternatives.{Alternatives}
use Rattle.hub_automaton.specs.Ends.{meets, end_choice, end_choices, in_range, end_all, end_flags, ends_in, end_below, below_ends}
use Rattle.hub_automaton.specs.Spots.{is_matched_above, is_below_kind, is_matched, spot_count, spots_count, unpacked, state_after}
use Rattle.hub_automaton.specs.forms.Stepping.{ended_matches, ended_choices, matched_each}
use Rattle.hub_automaton.specs.Words.{word, words_for, packed_by, packed, bit, with_bit}
use Rattle.hub_automaton.specs.Masks.{ended_at, marked}
use Rattle.hub_automaton.proofs.Kept.{any_from, any_from-drop, drop-map, range_is}
use Rattle.hub_automaton.proofs.Loops.{ended_is}
use Rattle.hub_automaton.proofs.SpecStates.{length-live}
use Rattle.hub_automaton.proofs.Spotted.{each_law}
use Rattle.hub_automaton.proofs.WordBits.{number_few, test, test-and, test-zero}
use Rattle.hub_automaton.proofs.WordMoves.{bit_is, drop-none, length-packed, packed_bit}

-- Rows gone through from the front.
meets-none : (ws : List ℕ) → meets ws [] ≡ false
meets-none [] = refl
meets-none (w ∷ ws) = refl

pub meets_end : (ws vs : List ℕ) (i : ℕ) → min (length ws) (length vs) ≤ i → meets (drop i ws) (drop i vs) ≡ false
meets_end ws vs i l = by_test (nat_lt (length ws) (length vs)) refl where
  by_test : (b : Bool) → nat_lt (length ws) (length vs) ≡ b → meets (drop i ws) (drop i vs) ≡ false
  by_test true e =
      let less : length ws < length vs = grind (arith, nat_tests, e) in
      ap (λ xs. meets xs (drop i vs)) (drop_all i ws (omega (arith, l, less)))
  by_test false e =
      let more : length vs ≤ length ws = grind (arith, nat_tests, e) in
      ap (meets (drop i ws)) (drop_all i vs (omega (arith, l, more))) ∙ meets-none (drop i ws)

-- The same of bits.
abbrev overlaps : List Bool → List Bool → Bool
overlaps [] us = false
overlaps (x ∷ xs) [] = false
overlaps (x ∷ xs) (u ∷ us) = (x && u) || overlaps xs us

overlaps-none : (xs : List Bool) → overlaps xs [] ≡ false
overlaps-none [] = refl
overlaps-none (x ∷ xs) = refl

even : (n : ℕ) → (n * 2 ^ 1 + 0 == 0) ≡ (n == 0)
even n = grind (arith, nat_tests)

odd : (n : ℕ) → (n * 2 ^ 1 + 1 == 0) ≡ false
odd n = grind (arith, nat_tests)

bit_overlap : (x u b : Bool) (n : ℕ) → (n == 0) ≡ not b → (n * 2 ^ 1 + bit_and (bool_byte x) (bool_byte u) == 0) ≡ not ((x && u) || b)
bit_overlap true true b n e = odd n
bit_overlap true false b n e = even n ∙ e
bit_overlap false true b n e = even n ∙ e
bit_overlap false false b n e = even n ∙ e

bits-up : (x : Bool) (xs : List Bool) → word (x ∷ xs) ≡ word xs * 2 ^ 1 + bool_byte x
bits-up x xs = omega arith

word_overlap : (xs us : List Bool) → (bit_and (word xs) (word us) == 0) ≡ not (overlaps xs us)
word_overlap [] us = ap (λ n. n == 0) (and_zero_l (word us))
word_overlap (x ∷ xs) [] = ap (λ n. n == 0) (and_zero_r (word (x ∷ xs)))
word_overlap (x ∷ xs) (u ∷ us) =
    (λ i. bit_and (bits-up x xs i) (bits-up u us i) == 0)
    ∙ ap (λ n. n == 0) (and_block 1 (word xs) (word us) (bool_byte x) (bool_byte u) (number_few x) (number_few u))
    ∙ bit_overlap x u (overlaps xs us) (bit_and (word xs) (word us)) (word_overlap xs us)

overlaps-split : (n : ℕ) (xs us : List Bool) → (overlaps (take n xs) (take n us) || overlaps (drop n xs) (drop n us)) ≡ overlaps xs us
overlaps-split zero xs us = refl
overlaps-split (suc n) [] us = refl
overlaps-split (suc n) (x ∷ xs) [] = overlaps-none (drop n xs)
overlaps-split (suc n) (x ∷ xs) (u ∷ us) =
    sym (or-assoc (x && u) (overlaps (take n xs) (take n us)) (overlaps (drop n xs) (drop n us))) ∙ ap (λ b. (x && u) || b) (overlaps-split n xs us)

shorter : (n : ℕ) (xs : List Bool) → length xs ≤ 64 * suc n → length (drop 64 xs) ≤ 64 * n
shorter n xs l = omega (arith, length-drop 64 xs, l)

meets-packed : (n : ℕ) (xs us : List Bool) → length xs ≤ 64 * n → meets (packed_by n xs) (packed_by n us) ≡ overlaps xs us
meets-packed zero [] us l = refl
meets-packed zero (x ∷ xs) us l = absurd (omega arith)
meets-packed (suc n) xs us l =
    (λ i. (ap not (word_overlap (take 64 xs) (take 64 us)) ∙ not-not (overlaps (take 64 xs) (take 64 us))) i || meets-packed n (drop 64 xs) (drop 64 us) (shorter n xs l) i)
    ∙ overlaps-split 64 xs us

packed_meets : (xs us : List Bool) → length us ≡ length xs → meets (packed xs) (packed us) ≡ overlaps xs us
packed_meets xs us e =
    ap (λ n. meets (packed xs) (packed_by (words_for n) us)) e ∙ meets-packed (words_for (length xs)) xs us (let few : length xs ≤ 64 * words_for (length xs) = omega arith in few)

meets-append : (ws vs xs ys : List ℕ) → length vs ≡ length ws → meets (ws ++ xs) (vs ++ ys) ≡ (meets ws vs || meets xs ys)
meets-append [] [] xs ys e = refl
meets-append [] (v ∷ vs) xs ys e = absurd (omega (arith, e))
meets-append (w ∷ ws) [] xs ys e = absurd (omega (arith, e))
meets-append (w ∷ ws) (v ∷ vs) xs ys e =
    ap (λ b. not (bit_and w v == 0) || b) (meets-append ws vs xs ys (omega (arith, e))) ∙ or-assoc (not (bit_and w v == 0)) (meets ws vs) (meets xs ys)

-- The last positions of choices.
length-end : (on : Bool) (c : List Piece) → length (end_choice on c) ≡ length c + 1
length-end on c = length-append (map (λ p. false) c) (on ∷ []) ∙ ap (λ n. n + 1) (length-map c (λ p. false))

length-ends : (on : Bool) (cs : List (List Piece)) → length (end_choices on cs) ≡ spot_count cs
length-ends on [] = refl
length-ends on (c ∷ cs) = length-append (end_choice on c) (end_choices on cs) ∙ (λ i. length-end on c i + length-ends on cs i)

length-end_all : (from to i : ℕ) (ls : List Alternatives) → length (end_all from to i ls) ≡ spots_count ls
length-end_all from to i [] = refl
length-end_all from to i (a ∷ ls) =
    length-append (end_choices (in_range from to i) a.choices) (end_all from to (i + 1) ls)
    ∙ (λ j. length-ends (in_range from to i) a.choices j + length-end_all from to (i + 1) ls j)

length-end_flags : (from to i : ℕ) (ls : List Alternatives) → length (end_flags from to i ls) ≡ length ls
length-end_flags from to i [] = refl
length-end_flags from to i (a ∷ ls) = ap suc (length-end_flags from to (i + 1) ls)

flags-drop : (from to i n : ℕ) (ls : List Alternatives) → n < length ls
    → end_flags from to i (drop n ls) ≡ in_range from to i ∷ end_flags from to (i + 1) (drop (n + 1) ls)
flags-drop from to i n [] l = absurd (omega arith)
flags-drop from to i zero (a ∷ ls) l = refl
flags-drop from to i (suc n) (a ∷ ls) l =
    let one : suc (n + 1) ≡ suc n + 1 = omega arith in
    flags-drop from to i n ls (omega arith) ∙ ap (λ m. in_range from to i ∷ end_flags from to (i + 1) (drop m (a ∷ ls))) one

pub flags_step : (from to i : ℕ) (ls : List Alternatives) (b : Bool) (new more whole : List Bool) → i < length ls → b ≡ in_range from to i
    → more ≡ new ++ b ∷ [] → new ++ end_flags from to i (drop i ls) ≡ whole → more ++ end_flags from to (i + 1) (drop (i + 1) ls) ≡ whole
flags_step from to i ls b new more whole l e m h =
    let rest = end_flags from to (i + 1) (drop (i + 1) ls) in
    ap (λ bs. bs ++ rest) m ∙ append_assoc new (b ∷ []) rest ∙ ap (λ c. new ++ c ∷ rest) e ∙ ap (λ bs. new ++ bs) (sym (flags-drop from to i i ls l)) ∙ h

none_active : (on : Bool) → false ≡ ((on && false) || false)
none_active true = refl
none_active false = refl

choice_meets : (on : Bool) (c : List Piece) (old rest : List Bool)
    → overlaps old (end_choice on c ++ rest) ≡ ((on && slice_index_or old (length c) false) || overlaps (drop (length c + 1) old) rest)
choice_meets on [] [] rest = none_active on
choice_meets on [] (o ∷ old) rest = ap (λ b. b || overlaps old rest) (and_comm o on)
choice_meets on (p ∷ ps) [] rest = none_active on ∙ ap (λ bs. (on && false) || overlaps bs rest) (sym (drop-none (suc (length ps) + 1)))
choice_meets on (p ∷ ps) (o ∷ old) rest =
    let one : suc (length ps + 1) ≡ suc (length ps) + 1 = omega arith in
    ap (λ b. b || overlaps old (end_choice on ps ++ rest)) (and-false o) ∙ choice_meets on ps old rest
    ∙ ap (λ n. (on && slice_index_or old (length ps) false) || overlaps (drop n (o ∷ old)) rest) one

or_within : (on a b c : Bool) → ((on && a) || ((on && b) || c)) ≡ ((on && (a || b)) || c)
or_within true a b c = or-assoc a b c
or_within false a b c = refl

choices_meet : (on : Bool) (cs : List (List Piece)) (old rest : List Bool)
    → overlaps old (end_choices on cs ++ rest) ≡ ((on && ended_choices cs old) || overlaps (drop (spot_count cs) old) rest)
choices_meet true [] old rest = refl
choices_meet false [] old rest = refl
choices_meet on (c ∷ cs) old rest =
    let next = drop (length c + 1) old in
    ap (overlaps old) (append_assoc (end_choice on c) (end_choices on cs) rest)
    ∙ choice_meets on c old (end_choices on cs ++ rest)
    ∙ (λ i. (on && sym (ended_is c old) i) || choices_meet on cs next rest i)
    ∙ or_within on (ended_matches c old) (ended_choices cs next) (overlaps (drop (spot_count cs) next) rest)
    ∙ ap (λ bs. (on && (ended_matches c old || ended_choices cs next)) || overlaps bs rest) (drop-drop (spot_count cs) (length c + 1) old)

-- Those of a range are passed on.
abbrev any_in : ℕ → ℕ → ℕ → List Bool → Bool
any_in from to i [] = false
any_in from to i (b ∷ bs) = (in_range from to i && b) || any_in from to (i + 1) bs

shuffled : (on e a f b : Bool) → (((on && e) || a) || ((f && on) || b)) ≡ ((on && (f || e)) || (a || b))
shuffled true true a true b = refl
shuffled true true a false b = refl
shuffled true false true true b = refl
shuffled true false false true b = refl
shuffled true false a false b = refl
shuffled false e a true b = refl
shuffled false e a false b = refl

all_meet : (from to i : ℕ) (ls : List Alternatives) (flags old : List Bool) → length flags ≡ length ls
    → (overlaps old (end_all from to i ls) || overlaps flags (end_flags from to i ls)) ≡ any_in from to i (matched_each ls flags old)
all_meet from to i [] flags old e = λ j. overlaps-none old j || overlaps-none flags j
all_meet from to i (a ∷ ls) [] old e = absurd (omega (arith, e))
all_meet from to i (a ∷ ls) (f ∷ flags) old e =
    let on = in_range from to i in
    let next = drop (spot_count a.choices) old in
    ap (λ b. b || overlaps (f ∷ flags) (on ∷ end_flags from to (i + 1) ls)) (choices_meet on a.choices old (end_all from to (i + 1) ls))
    ∙ shuffled on (ended_choices a.choices old) (overlaps next (end_all from to (i + 1) ls)) f (overlaps flags (end_flags from to (i + 1) ls))
    ∙ ap (λ b. (on && (f || ended_choices a.choices old)) || b) (all_meet from to (i + 1) ls flags next (omega (arith, e)))

take-none : (n : ℕ) → take {A = Bool} n [] ≡ []
take-none zero = refl
take-none (suc n) = refl

any_in-take : (from to i : ℕ) (bs : List Bool) → any_in from to i bs ≡ any_from from i (take (to - i) bs)
any_in-take from to i [] = ap (any_from from i) (sym (take-none (to - i)))
any_in-take from to i (b ∷ bs) = by_test (nat_lt i to) refl (any_in-take from to (i + 1) bs) where
  by_test : (c : Bool) → nat_lt i to ≡ c → any_in from to (i + 1) bs ≡ any_from from (i + 1) (take (to - (i + 1)) bs)
      → (((not (nat_lt i from) && c) && b) || any_in from to (i + 1) bs) ≡ any_from from i (take (to - i) (b ∷ bs))
  by_test true e more =
      let l : i < to = grind (arith, nat_tests, e) in
      let next : suc (to - (i + 1)) ≡ to - i = omega arith in
      (λ j. (and-true (not (nat_lt i from)) j && b) || more j) ∙ ap (λ n. any_from from i (take n (b ∷ bs))) next
  by_test false e more =
      let l : to ≤ i = grind (arith, nat_tests, e) in
      let none : to - (i + 1) ≡ 0 = omega arith in
      let here : 0 ≡ to - i = omega arith in
      (λ j. (and-false (not (nat_lt i from)) j && b) || (more ∙ ap (λ n. any_from from (i + 1) (take n bs)) none) j) ∙ ap (λ n. any_from from i (take n (b ∷ bs))) here

-- A row of a text meets the mask of a range exactly when one of these specifications matches the text.
pub ends_law : (ls : List Alternatives) (t : List ℕ) (from to : ℕ)
    → meets (state_after ls t).row (ends_in ls from to) ≡ list_any (λ a. is_matched a t) (take (to - from) (drop from ls))
ends_law ls t from to =
    let u = unpacked ls t in
    let g : Alternatives → Bool = λ a. is_matched a t in
    let es = end_all from to 0 ls in
    let fs = end_flags from to 0 ls in
    let flags : length u.below ≡ length ls = length-map ls (λ a. is_matched_above a t) in
    let same : length es ≡ length u.live = length-end_all from to 0 ls ∙ sym (length-live ls t) in
    let words : length (packed es) ≡ length (packed u.live) =
    length-packed (words_for (length es)) es ∙ ap words_for same ∙ sym (length-packed (words_for (length u.live)) u.live) in
    let whole : from - 0 ≡ from = omega arith in
    let all : to - 0 ≡ to = omega arith in
    meets-append (packed u.live) (packed es) (packed u.below) (packed fs) words
    ∙ (λ j. packed_meets u.live es same j || packed_meets u.below fs (length-end_flags from to 0 ls ∙ sym flags) j)
    ∙ all_meet from to 0 ls u.below u.live flags
    ∙ any_in-take from to 0 (matched_each ls u.below u.live)
    ∙ any_from-drop from 0 (take (to - 0) (matched_each ls u.below u.live))
    ∙ (λ j. list_any (λ b. b) (drop (whole j) (take (all j) (each_law ls t j))))
    ∙ ap (λ bs. list_any (λ b. b) (drop from bs)) (take-map g to ls)
    ∙ ap (list_any (λ b. b)) (drop-map g from (take to ls)) ∙ sym (any-map (λ b. b) g (drop from (take to ls)))
    ∙ ap (list_any g) (range_is from to ls)

-- Where no last position of a `BelowPath` specification is active, none is flagged.
zero_by : (n : ℕ) (b : Bool) → (n == 0) ≡ b → not b ≡ false → n ≡ 0
zero_by n true e h = grind (arith, nat_tests, e)
zero_by n false e h = cc

words_apart : (ws vs : List ℕ) (k : ℕ) → meets ws vs ≡ false → bit_and (slice_index_or ws k 0) (slice_index_or vs k 0) ≡ 0
words_apart [] vs zero h = and_zero_l (slice_index_or vs 0 0)
words_apart [] vs (suc k) h = and_zero_l (slice_index_or vs (suc k) 0)
words_apart (w ∷ ws) [] zero h = and_zero_r w
words_apart (w ∷ ws) [] (suc k) h = and_zero_r (slice_index_or ws k 0)
words_apart (w ∷ ws) (v ∷ vs) zero h = zero_by (bit_and w v) (bit_and w v == 0) refl (or_parts (not (bit_and w v == 0)) (meets ws vs) h).0
words_apart (w ∷ ws) (v ∷ vs) (suc k) h = words_apart ws vs k (or_parts (not (bit_and w v == 0)) (meets ws vs) h).1

bits_apart : (ws vs : List ℕ) (p : ℕ) → meets ws vs ≡ false → bit ws p ≡ true → bit vs p ≡ true → ⊥
bits_apart ws vs p h a b =
    let k = p / 64 in
    let i = p % 64 in
    let w = slice_index_or ws k 0 in
    let v = slice_index_or vs k 0 in
    let none : (test w i && test v i) ≡ false = sym (test-and w v i) ∙ ap (λ n. test n i) (words_apart ws vs k h) ∙ test-zero i in
    let both : true ≡ false = (λ j. (sym a ∙ bit_is ws p) j && (sym b ∙ bit_is vs p) j) ∙ none in
    cc

-- No position is active and in a mask, from a place on.
abbrev Apart : List ℕ → ℕ → List Bool → Type 0
Apart live n bs = (p : ℕ) → bit live (n + p) ≡ true → slice_index_or bs p false ≡ true → ⊥

end_there : (c : List Piece) (rest : List Bool) → slice_index_or (end_choice true c ++ rest) (length c) false ≡ true
end_there [] rest = refl
end_there (p ∷ ps) rest = end_there ps rest

apart_more : (live : List ℕ) (n m : ℕ) (xs ys : List Bool) → length xs ≡ m → Apart live n (xs ++ ys) → Apart live (n + m) ys
apart_more live n m xs ys l h p a b =
    let at : n + m + p ≡ n + (length xs + p) = omega (arith, l) in
    h (length xs + p) (ap (bit live) (sym at) ∙ a) (get_or-append-add xs ys p false ∙ b)

none_ended : (live : List ℕ) (n : ℕ) (cs : List (List Piece)) (rest : List Bool) → Apart live n (end_choices true cs ++ rest) → ended_at cs live n ≡ false
none_ended live n [] rest h = refl
none_ended live n (c ∷ cs) rest h =
    let all = append_assoc (end_choice true c) (end_choices true cs) rest in
    let here : Apart live n (end_choice true c ++ (end_choices true cs ++ rest)) = λ p a b. h p a (ap (λ bs. slice_index_or bs p false) all ∙ b) in
    let first : bit live (n + length c) ≡ false = false_from_ne_true (bit live (n + length c)) (λ a. here (length c) a (end_there c (end_choices true cs ++ rest))) in
    (λ i. first i || ended_at cs live (n + (length c + 1)))
    ∙ none_ended live (n + (length c + 1)) cs rest (apart_more live n (length c + 1) (end_choice true c) (end_choices true cs ++ rest) (length-end true c) here)

none_by_one : (live : List ℕ) (n : ℕ) (on : Bool) (cs : List (List Piece)) (rest : List Bool) → Apart live n (end_choices on cs ++ rest) → (on && ended_at cs live n) ≡ false
none_by_one live n true cs rest h = none_ended live n cs rest h
none_by_one live n false cs rest h = refl

none_from : (live : List ℕ) (n first i : ℕ) (ls : List Alternatives) (row : List ℕ) → Apart live n (end_below ls) → marked ls live n first i row ≡ row
none_from live n first i [] row h = refl
none_from live n first i (a ∷ ls) row h =
    let on = is_below_kind a.kind in
    (λ j. marked ls live (n + spot_count a.choices) first (i + 1) (cond (none_by_one live n on a.choices (end_below ls) h j) (with_bit first i row) row))
    ∙ none_from live (n + spot_count a.choices) first (i + 1) ls row (apart_more live n (spot_count a.choices) (end_choices on a.choices) (end_below ls) (length-ends on a.choices) h)

pub none_marked : (ls : List Alternatives) (live ends row : List ℕ) (first : ℕ) → ends ≡ below_ends ls → meets live ends ≡ false → row ≡ marked ls live 0 first 0 row
none_marked ls live ends row first e h =
    sym (none_from live 0 first 0 ls row
    (λ p a b. bits_apart live ends p h (ap (bit live) (let z : p ≡ 0 + p = omega arith in z) ∙ a)
    (ap (λ ws. bit ws p) e ∙ packed_bit (words_for (length (end_below ls))) p (end_below ls) (omega arith) ∙ b)))
