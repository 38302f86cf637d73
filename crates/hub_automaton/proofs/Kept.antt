-- What is kept of a text as words, with one more character.
use Rattle.std.proofs.Common.{◌≡◌, ℕ, suc, zero, ◌+◌, ◌-◌, ◌*◌, ◌<◌, ◌≤◌, min, Bool, true, false, not, ◌&&◌, ◌||◌, ◌==◌, cond, List, [], ◌∷◌, ◌++◌, map, length, take, drop, get_or, refl, sym, ap, ◌∙◌, subst, arith, length-append, append_assoc, add-one}
use Rattle.std.specs.Prelude.{slice_index_or, nat_lt}
use Rattle.std.specs.List.{list_any, list_all}
use Rattle.std.proofs.lemmas.List.{drop-drop, drop_at, take_at, take-map, take_min, set_at, length-map, length_push}
use Rattle.std.proofs.lemmas.Bool.Decides.{nat_tests}
use Rattle.hub_glob.specs.declared.piece.Piece.{Piece}
use Rattle.hub_glob.specs.declared.piece.Piece.TheVariants.{Run}
use Rattle.hub_glob.specs.declared.path_spec.Kind.{Kind}
use Rattle.hub_glob.specs.Taking.{takes}
use Rattle.hub_text.specs.laws.List.{drop-tail, head-drop}
use Rattle.hub_text.specs.laws.Test.{head, tail, any-map}
use Rattle.std.proofs.Math.Bool.{and-true, and-false, or-false, or-true}
use Rattle.hub_automaton.specs.declared.alternatives.Alternatives.{Alternatives}
use Rattle.hub_automaton.specs.declared.masks.Mask.{Mask}
use Rattle.hub_automaton.specs.declared.masks.Mask.TheVariants as mask
use Rattle.hub_glob.specs.declared.piece.NextCharacter.{NextCharacter}
use Rattle.hub_automaton.specs.Masks.{masks_piece, mask_choice, mask_choices, mask_all, ended_at, matched_at, marked, moved_row, moved_state}
use Rattle.hub_automaton.specs.Spots.{is_below_kind, is_matched_above, is_matched, spot_count, spots_count, unpacked, packed_state, Unpacked, PackedState, state_after}
use Rattle.hub_automaton.specs.forms.Stepping.{stepped_all, ended_choices, goes_below, below_one, below_all, matched_each, pushed}
use Rattle.hub_automaton.specs.Words.{word, words_for, packed_by, packed, bit, with_bit, moved_words}
use Rattle.hub_automaton.proofs.Loops.{ended_place}
use Rattle.hub_automaton.proofs.Masked.{entry, entry_choices, entries, all_move}
use Rattle.hub_automaton.proofs.SpecStates.{length-live}
use Rattle.hub_automaton.proofs.SetBits.{set_packed}
use Rattle.hub_automaton.proofs.Spotted.{push_law, each_law}
use Rattle.hub_automaton.proofs.Steps.{next_of}
use Rattle.hub_automaton.proofs.WordMoves.{Packs, packs_by, words_move, packed_bit, length-packed, drop-none}
use Rattle.hub_glob.specs.Specification.{is_name_kind}

-- How long masks are.
pub length-mask_choice : (m : Mask) (k : Kind) (c : List Piece) → length (mask_choice m k c) ≡ length c + 1
length-mask_choice m k c = ap suc (length-map c (masks_piece m k)) ∙ sym (add-one (length c))

pub length-mask_choices : (m : Mask) (k : Kind) (cs : List (List Piece)) → length (mask_choices m k cs) ≡ spot_count cs
length-mask_choices m k [] = refl
length-mask_choices m k (c ∷ cs) = length-append (mask_choice m k c) (mask_choices m k cs) ∙ (λ i. length-mask_choice m k c i + length-mask_choices m k cs i)

pub length-mask_all : (m : Mask) (ls : List Alternatives) → length (mask_all m ls) ≡ spots_count ls
length-mask_all m [] = refl
length-mask_all m (a ∷ ls) = length-append (mask_choices m a.kind a.choices) (mask_all m ls) ∙ (λ i. length-mask_choices m a.kind a.choices i + length-mask_all m ls i)

length-entry_choices : (x : NextCharacter) (k : Kind) (cs : List (List Piece)) → length (entry_choices x k cs) ≡ spot_count cs
length-entry_choices x k [] = refl
length-entry_choices x k (c ∷ cs) =
    length-append (entry x k c) (entry_choices x k cs) ∙ (λ i. (ap suc (length-map c (λ p. false)) ∙ sym (add-one (length c))) i + length-entry_choices x k cs i)

length-entries : (x : NextCharacter) (ls : List Alternatives) → length (entries x ls) ≡ spots_count ls
length-entries x [] = refl
length-entries x (a ∷ ls) = length-append (entry_choices x a.kind a.choices) (entries x ls) ∙ (λ i. length-entry_choices x a.kind a.choices i + length-entries x ls i)

-- Which spots are entered after a `/`, and that none are after another character.
choices_entered : (x : NextCharacter) (k : Kind) (cs : List (List Piece)) → (x.character == 47) ≡ true → entry_choices x k cs ≡ mask_choices mask.Entries k cs
choices_entered x k [] e = refl
choices_entered x k (c ∷ cs) e = λ i. (((ap (λ b. is_name_kind k && b) e ∙ and-true (is_name_kind k)) i) ∷ map (λ p. false) c) ++ choices_entered x k cs e i

all_entered : (x : NextCharacter) (ls : List Alternatives) → (x.character == 47) ≡ true → entries x ls ≡ mask_all mask.Entries ls
all_entered x [] e = refl
all_entered x (a ∷ ls) e = λ i. choices_entered x a.kind a.choices e i ++ all_entered x ls e i

abbrev none_set : List Bool → Bool
none_set bs = list_all not bs

none-append : (cs bs : List Bool) → none_set cs ≡ true → none_set bs ≡ true → none_set (cs ++ bs) ≡ true
none-append [] bs h k = k
none-append (true ∷ cs) bs h k = cc
none-append (false ∷ cs) bs h k = none-append cs bs h k

none-pieces : (c : List Piece) → none_set (map (λ p. false) c) ≡ true
none-pieces [] = refl
none-pieces (p ∷ c) = none-pieces c

choices_not_entered : (x : NextCharacter) (k : Kind) (cs : List (List Piece)) → (x.character == 47) ≡ false → none_set (entry_choices x k cs) ≡ true
choices_not_entered x k [] e = refl
choices_not_entered x k (c ∷ cs) e =
    none-append (entry x k c) (entry_choices x k cs)
    ((λ i. not ((ap (λ b. is_name_kind k && b) e ∙ and-false (is_name_kind k)) i) && none_set (map (λ p. false) c)) ∙ none-pieces c) (choices_not_entered x k cs e)

none_entered : (x : NextCharacter) (ls : List Alternatives) → (x.character == 47) ≡ false → none_set (entries x ls) ≡ true
none_entered x [] e = refl
none_entered x (a ∷ ls) e = none-append (entry_choices x a.kind a.choices) (entries x ls) (choices_not_entered x a.kind a.choices e) (none_entered x ls e)

none-take : (n : ℕ) (bs : List Bool) → none_set bs ≡ true → 0 ≡ word (take n bs)
none-take zero bs h = refl
none-take (suc n) [] h = refl
none-take (suc n) (true ∷ bs) h = cc
none-take (suc n) (false ∷ bs) h = ap (λ w. 0 + 2 * w) (none-take n bs h)

none-drop : (n : ℕ) (bs : List Bool) → none_set bs ≡ true → none_set (drop n bs) ≡ true
none-drop zero bs h = h
none-drop (suc n) [] h = refl
none-drop (suc n) (true ∷ bs) h = cc
none-drop (suc n) (false ∷ bs) h = none-drop n bs h

none_packs : (n : ℕ) (bs : List Bool) → none_set bs ≡ true → Packs n [] bs
none_packs zero bs h = tt
none_packs (suc n) bs h = (none-take 64 bs h, none_packs n (drop 64 bs) (none-drop 64 bs h))

-- The words of spots with one more character.
packs_of : (n : ℕ) (ws : List ℕ) (bs : List Bool) → length bs ≡ n → ws ≡ packed bs → Packs (words_for n) ws bs
packs_of n ws bs l e = subst (λ vs. Packs (words_for n) vs bs) (sym (e ∙ ap (λ m. packed_by (words_for m) bs) l)) (packs_by (words_for n) bs)

packs_entries : (x : NextCharacter) (ls : List Alternatives) (ws : List ℕ) → ws ≡ packed (mask_all mask.Entries ls) → Packs (words_for (spots_count ls)) (cond (x.character == 47) ws []) (entries x ls)
packs_entries x ls ws e = by_test (x.character == 47) refl where
  n : ℕ
  n = words_for (spots_count ls)

  by_test : (b : Bool) → (x.character == 47) ≡ b → Packs n (cond b ws []) (entries x ls)
  by_test true h = subst (λ bs. Packs n ws bs) (sym (all_entered x ls h)) (packs_of (spots_count ls) ws (mask_all mask.Entries ls) (length-mask_all mask.Entries ls) e)
  by_test false h = none_packs n (entries x ls) (none_entered x ls h)

live_moves : (x : NextCharacter) (ls : List Alternatives) (old : List Bool) (ews sws tws : List ℕ) → length old ≡ spots_count ls
    → ews ≡ packed (mask_all mask.Entries ls) → sws ≡ packed (mask_all mask.Stars ls) → tws ≡ packed (mask_all (mask.Takers x.character) ls)
    → length (stepped_all x ls old) ≡ spots_count ls
    → moved_words (takes x Run) (cond (x.character == 47) ews []) sws tws (packed old) 0 0 ≡ packed (stepped_all x ls old)
live_moves x ls old ews sws tws l e s t m =
    let n = words_for (spots_count ls) in
    let ss = mask_all mask.Stars ls in
    let ts = mask_all (mask.Takers x.character) ls in
    sym (words_move n (takes x Run) (entries x ls) ss ts old (cond (x.character == 47) ews []) sws tws (packed old) false false
    (omega (arith, length-entries x ls, length-mask_all mask.Stars ls)) (omega (arith, length-mask_all (mask.Takers x.character) ls, length-mask_all mask.Stars ls))
    (packs_entries x ls ews e) (packs_of (spots_count ls) sws ss (length-mask_all mask.Stars ls) s)
    (packs_of (spots_count ls) tws ts (length-mask_all (mask.Takers x.character) ls) t) (ap (λ k. packed_by (words_for k) old) l))
    ∙ ap (packed_by n) (all_move x ls old false false) ∙ ap (λ k. packed_by (words_for k) (stepped_all x ls old)) (sym m)

-- How many words masks and spots have.
pub mask_words : (m : Mask) (ls : List Alternatives) (ws : List ℕ) → ws ≡ packed (mask_all m ls) → length ws ≡ words_for (spots_count ls)
mask_words m ls ws e = ap length e ∙ length-packed (words_for (length (mask_all m ls))) (mask_all m ls) ∙ ap words_for (length-mask_all m ls)

live_words : (ls : List Alternatives) (t : List ℕ) → length (packed (unpacked ls t).live) ≡ words_for (spots_count ls)
live_words ls t = length-packed (words_for (length (unpacked ls t).live)) (unpacked ls t).live ∙ ap words_for (length-live ls t)

pub same_row_length : (ls : List Alternatives) (t u : List ℕ) → length (state_after ls t).row ≡ length (state_after ls u).row
same_row_length ls t u =
    let a = unpacked ls t in
    let b = unpacked ls u in
    let flags : length a.below ≡ length b.below = length-map ls (λ c. is_matched_above c t) ∙ sym (length-map ls (λ c. is_matched_above c u)) in
    let words : length (packed a.below) ≡ length (packed b.below) =
    length-packed (words_for (length a.below)) a.below ∙ ap words_for flags ∙ sym (length-packed (words_for (length b.below)) b.below) in
    length-append (packed a.live) (packed a.below) ∙ (λ i. (live_words ls t ∙ sym (live_words ls u)) i + words i) ∙ sym (length-append (packed b.live) (packed b.below))

-- Whether choices match, by words.
bit_is : (old : List Bool) (i : ℕ) → bit (packed old) i ≡ slice_index_or old i false
bit_is old i = packed_bit (words_for (length old)) i old (omega arith)

ended_is_at : (cs : List (List Piece)) (old : List Bool) (n : ℕ) → ended_at cs (packed old) n ≡ ended_choices cs (drop n old)
ended_is_at [] old n = refl
ended_is_at (c ∷ cs) old n =
    λ i. (bit_is old (n + length c) ∙ sym (ended_place c old n (slice_index_or old (n + length c) false) refl)) i
    || (ended_is_at cs old (n + (length c + 1)) ∙ ap (ended_choices cs) (sym (drop-drop (length c + 1) n old))) i

-- Whether some test is passed from a place on, where the first of them has this number.
abbrev pub any_from : ℕ → ℕ → List Bool → Bool
any_from from i [] = false
any_from from i (b ∷ bs) = (not (nat_lt i from) && b) || any_from from (i + 1) bs

pub any_from-drop : (from i : ℕ) (bs : List Bool) → any_from from i bs ≡ list_any (λ b. b) (drop (from - i) bs)
any_from-drop from i [] = ap (list_any (λ b. b)) (sym (drop-none (from - i)))
any_from-drop from i (b ∷ bs) = by_test (nat_lt i from) refl (any_from-drop from (i + 1) bs) where
  by_test : (c : Bool) → nat_lt i from ≡ c → any_from from (i + 1) bs ≡ list_any (λ b. b) (drop (from - (i + 1)) bs)
      → ((not c && b) || any_from from (i + 1) bs) ≡ list_any (λ b. b) (drop (from - i) (b ∷ bs))
  by_test true e more =
      let l : i < from = grind (arith, nat_tests, e) in
      let next : suc (from - (i + 1)) ≡ from - i = omega arith in
      more ∙ ap (λ n. list_any (λ b. b) (drop n (b ∷ bs))) next
  by_test false e more =
      let l : from ≤ i = grind (arith, nat_tests, e) in
      let none : from - (i + 1) ≡ 0 = omega arith in
      let here : 0 ≡ from - i = omega arith in
      ap (λ c. b || c) (more ∙ ap (λ n. list_any (λ b. b) (drop n bs)) none) ∙ ap (λ n. list_any (λ b. b) (drop n (b ∷ bs))) here

matched_is_at : (ls : List Alternatives) (from : ℕ) (flags old : List Bool) (n i : ℕ)
    → matched_at ls from (packed old) (packed flags) n i ≡ any_from from i (matched_each ls (drop i flags) (drop n old))
matched_is_at [] from flags old n i = refl
matched_is_at (a ∷ ls) from flags old n i =
    λ j. (not (nat_lt i from) && ((bit_is flags i ∙ head-drop i flags) j || ended_is_at a.choices old n j))
    || (matched_is_at ls from flags old (n + spot_count a.choices) (i + 1)
    ∙ (λ k. any_from from (i + 1) (matched_each ls ((ap (λ m. drop m flags) (add-one i) ∙ drop-tail i flags) k) (sym (drop-drop (spot_count a.choices) n old) k)))) j

each-take : (n : ℕ) (ls : List Alternatives) (flags old : List Bool) → matched_each (take n ls) flags old ≡ take n (matched_each ls flags old)
each-take zero ls flags old = refl
each-take (suc n) [] flags old = refl
each-take (suc n) (a ∷ ls) flags old =
    ap (λ bs. (head flags || ended_choices a.choices old) ∷ bs) (each-take n ls (tail flags) (drop (spot_count a.choices) old))

pub drop-map : (f : Alternatives → Bool) (n : ℕ) (ls : List Alternatives) → drop n (map f ls) ≡ map f (drop n ls)
drop-map f zero ls = refl
drop-map f (suc n) [] = refl
drop-map f (suc n) (a ∷ ls) = drop-map f n ls

pub range_is : (from to : ℕ) (ls : List Alternatives) → drop from (take to ls) ≡ take (to - from) (drop from ls)
range_is zero to ls = ap (λ n. take n ls) (let e : to ≡ to - 0 = omega arith in e)
range_is (suc from) zero ls = ap (λ n. take n (drop (suc from) ls)) (let e : 0 ≡ 0 - suc from = omega arith in e)
range_is (suc from) (suc to) [] = ap (λ bs. bs) (sym (none (suc to - suc from))) where
  none : (n : ℕ) → take {A = Alternatives} n [] ≡ []
  none zero = refl
  none (suc n) = refl
range_is (suc from) (suc to) (a ∷ ls) = range_is from to ls ∙ ap (λ n. take n (drop from ls)) (let e : to - from ≡ suc to - suc from = omega arith in e)

-- The row of a text, in front of the flags and from them on.
pub front_words : (ls : List Alternatives) (t : List ℕ) (n : ℕ) → n ≡ words_for (spots_count ls) → take n (state_after ls t).row ≡ packed (unpacked ls t).live
front_words ls t n e = take_at (packed (unpacked ls t).live) (packed (unpacked ls t).below) n (live_words ls t ∙ sym e)

pub rest_words : (ls : List Alternatives) (t : List ℕ) (n : ℕ) → n ≡ words_for (spots_count ls) → drop n (state_after ls t).row ≡ packed (unpacked ls t).below
rest_words ls t n e = drop_at (packed (unpacked ls t).live) (packed (unpacked ls t).below) n (live_words ls t ∙ sym e)

-- Which of some specifications match a text, by its row.
pub range_matches : (ls : List Alternatives) (t : List ℕ) (n from to m : ℕ) → n ≡ words_for (spots_count ls) → m ≡ min to (length ls)
    → matched_at (take m ls) from (take n (state_after ls t).row) (drop n (state_after ls t).row) 0 0 ≡ list_any (λ a. is_matched a t) (take (to - from) (drop from ls))
range_matches ls t n from to m e f =
    let u = unpacked ls t in
    let g : Alternatives → Bool = λ a. is_matched a t in
    let whole : from - 0 ≡ from = omega arith in
    (λ j. matched_at (take m ls) from (front_words ls t n e j) (rest_words ls t n e j) 0 0)
    ∙ matched_is_at (take m ls) from u.below u.live 0 0
    ∙ any_from-drop from 0 (matched_each (take m ls) u.below u.live)
    ∙ ap (λ k. list_any (λ b. b) (drop k (matched_each (take m ls) u.below u.live))) whole
    ∙ ap (λ bs. list_any (λ b. b) (drop from bs)) (each-take m ls u.below u.live ∙ ap (take m) (each_law ls t) ∙ take-map g m ls)
    ∙ ap (list_any (λ b. b)) (drop-map g from (take m ls)) ∙ sym (any-map (λ b. b) g (drop from (take m ls)))
    ∙ ap (λ ks. list_any g (drop from ks)) (ap (λ k. take k ls) f ∙ take_min to ls)
    ∙ ap (list_any g) (range_is from to ls)

below_is : (x : NextCharacter) (a : Alternatives) (old : List Bool) (n : ℕ) → (x.character == 47) ≡ true
    → (is_below_kind a.kind && ended_at a.choices (packed old) n) ≡ goes_below x a (drop n old)
below_is x a old n e = λ i. sym (ap (λ b. is_below_kind a.kind && b) e ∙ and-true (is_below_kind a.kind)) i && ended_is_at a.choices old n i

pub flag_set : (front : List ℕ) (before flags : List Bool) (f b : Bool)
    → cond b (with_bit (length front) (length before) (front ++ packed (before ++ f ∷ flags))) (front ++ packed (before ++ f ∷ flags))
    ≡ front ++ packed (before ++ (f || b) ∷ flags)
flag_set front before flags f false = ap (λ g. front ++ packed (before ++ g ∷ flags)) (sym (or-false f))
flag_set front before flags f true =
    set_packed front (length before) (before ++ f ∷ flags) (omega (arith, length-append before (f ∷ flags)))
    ∙ ap (λ bs. front ++ packed bs) (set_at before f flags true (length before) refl) ∙ ap (λ g. front ++ packed (before ++ g ∷ flags)) (sym (or-true f))

marks : (x : NextCharacter) (ls : List Alternatives) (flags old : List Bool) (front : List ℕ) (n : ℕ) (before : List Bool) → (x.character == 47) ≡ true → length flags ≡ length ls
    → marked ls (packed old) n (length front) (length before) (front ++ packed (before ++ flags)) ≡ front ++ packed (before ++ below_all x ls flags (drop n old))
marks x [] [] old front n before e l = refl
marks x [] (f ∷ flags) old front n before e l = absurd (omega (arith, l))
marks x (a ∷ ls) [] old front n before e l = absurd (omega (arith, l))
marks x (a ∷ ls) (f ∷ flags) old front n before e l =
    let g = below_one x a f (drop n old) in
    let next = before ++ g ∷ [] in
    let m = n + spot_count a.choices in
    let row = front ++ packed (before ++ f ∷ flags) in
    let one : cond (is_below_kind a.kind && ended_at a.choices (packed old) n) (with_bit (length front) (length before) row) row ≡ front ++ packed (next ++ flags) =
    flag_set front before flags f (is_below_kind a.kind && ended_at a.choices (packed old) n)
    ∙ ap (λ b. front ++ packed (before ++ (f || b) ∷ flags)) (below_is x a old n e)
    ∙ ap (λ bs. front ++ packed bs) (sym (append_assoc before (g ∷ []) flags)) in
    (λ i. marked ls (packed old) m (length front) (sym (length_push before g) i) (one i))
    ∙ marks x ls flags old front m next e (omega (arith, l))
    ∙ ap (λ bs. front ++ packed bs) (append_assoc before (g ∷ []) (below_all x ls flags (drop m old)))
    ∙ ap (λ bs. front ++ packed (before ++ g ∷ below_all x ls flags bs)) (sym (drop-drop (spot_count a.choices) n old))

below_stays : (x : NextCharacter) (ls : List Alternatives) (flags old : List Bool) → (x.character == 47) ≡ false → length flags ≡ length ls → flags ≡ below_all x ls flags old
below_stays x [] [] old e l = refl
below_stays x [] (f ∷ flags) old e l = absurd (omega (arith, l))
below_stays x (a ∷ ls) [] old e l = absurd (omega (arith, l))
below_stays x (a ∷ ls) (f ∷ flags) old e l =
    λ i. (sym (ap (λ b. f || (is_below_kind a.kind && b && ended_choices a.choices old)) e ∙ ap (λ b. f || (b && ended_choices a.choices old)) (and-false (is_below_kind a.kind)) ∙ or-false f)) i
    ∷ below_stays x ls flags (drop (spot_count a.choices) old) e (omega (arith, l)) i

-- What is kept with one more character, by masks.
row_marked : (ls : List Alternatives) (t : List ℕ) (c n : ℕ) → n ≡ words_for (spots_count ls)
    → let u = unpacked ls t in
    cond (c == 47) (marked ls (take n (state_after ls t).row) 0 n 0 (state_after ls t).row) (state_after ls t).row ≡ packed u.live ++ packed (below_all (next_of t c) ls u.below u.live)
row_marked ls t c n e = by_test (c == 47) refl where
  u : Unpacked
  u = unpacked ls t

  flags : length u.below ≡ length ls
  flags = length-map ls (λ a. is_matched_above a t)

  by_test : (b : Bool) → (c == 47) ≡ b
      → cond b (marked ls (take n (state_after ls t).row) 0 n 0 (state_after ls t).row) (state_after ls t).row ≡ packed u.live ++ packed (below_all (next_of t c) ls u.below u.live)
  by_test true h =
      (λ j. marked ls (front_words ls t n e j) 0 ((e ∙ sym (live_words ls t)) j) 0 (state_after ls t).row)
      ∙ marks (next_of t c) ls u.below u.live (packed u.live) 0 [] h flags
  by_test false h = ap (λ bs. packed u.live ++ packed bs) (below_stays (next_of t c) ls u.below u.live h flags)

pub kept_moves : (ls : List Alternatives) (t : List ℕ) (c : ℕ) (ews sws tws : List ℕ)
    → ews ≡ packed (mask_all mask.Entries ls) → sws ≡ packed (mask_all mask.Stars ls) → tws ≡ packed (mask_all (mask.Takers c) ls)
    → moved_state (next_of t c) ls ews sws tws (state_after ls t) ≡ packed_state (pushed ls (unpacked ls t) c)
kept_moves ls t c ews sws tws e s k =
    let x = next_of t c in
    let u = unpacked ls t in
    let n = length sws in
    let stays = takes x Run in
    let es = cond (c == 47) ews [] in
    let many : length (stepped_all x ls u.live) ≡ spots_count ls = ap (λ (v : Unpacked). length v.live) (push_law ls t c) ∙ length-live ls (t ++ c ∷ []) in
    let words : n ≡ words_for (spots_count ls) = mask_words mask.Stars ls sws s in
    let flags = packed (below_all x ls u.below u.live) in
    let cut : take n (packed u.live ++ flags) ≡ packed u.live = take_at (packed u.live) flags n (live_words ls t ∙ sym words) in
    let rest : drop n (packed u.live ++ flags) ≡ flags = drop_at (packed u.live) flags n (live_words ls t ∙ sym words) in
    let row : moved_row stays es sws tws (packed u.live ++ flags) ≡ packed (stepped_all x ls u.live) ++ flags =
    (λ j. moved_words stays es sws tws (cut j) 0 0 ++ rest j) ∙ ap (λ ws. ws ++ flags) (live_moves x ls u.live ews sws tws (length-live ls t) e s k many) in
    λ i. let r : PackedState = record { row = (ap (moved_row stays es sws tws) (row_marked ls t c n words) ∙ row) i; start = c == 47 } in r

-- What stands at a place of a list that was made from another one.
pub mapped_at : (f : ℕ → List ℕ) (xs : List ℕ) (ys : List (List ℕ)) (i x : ℕ) (y : List ℕ) → i < length xs → ys ≡ map f xs → x ≡ get_or xs i x → y ≡ get_or ys i y → y ≡ f x
mapped_at f xs ys i x y l m e h = h ∙ ap (λ zs. get_or zs i y) m ∙ by xs i l ∙ ap f (sym e) where
  by : (xs : List ℕ) (i : ℕ) → i < length xs → get_or (map f xs) i y ≡ f (get_or xs i x)
  by [] i l = absurd (omega arith)
  by (z ∷ zs) zero l = refl
  by (z ∷ zs) (suc i) l = by zs i (omega arith)

pub few_spots : (m : ℕ) (ls : List Alternatives) → spots_count (take m ls) ≤ spots_count ls
few_spots zero ls = omega arith
few_spots (suc m) [] = omega arith
few_spots (suc m) (a ∷ ls) = omega (arith, few_spots m ls)
