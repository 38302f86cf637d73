-- Lines as lists of bytes: how a text is cut into them.
use Rattle.std.proofs.Common.{◌+◌, ◌/◌, ◌%◌, ◌≡◌, ℕ, zero, suc, ◌≤◌, Bool, true, false, not, ◌==◌, cond, ltb, List, [], ◌∷◌, ◌++◌, length, map, take, drop, refl, sym, ap, ◌∙◌, arith, append_assoc}
use Rattle.std.specs.Prelude.{slice_index}
use Rattle.std.specs.List.{list_all, list_any, before_first, after_first, position_or_len}
use Rattle.std.specs.Char.{encode_utf8}
use Rattle.std.specs.Str.{encode_utf8_all}
use Rattle.std.proofs.lemmas.List.{take_at}
use Rattle.std.proofs.lemmas.List.Folds.{list_all-append}
use Rattle.std.proofs.lemmas.Bool.Decides.{nat_tests}
use Rattle.std.proofs.lemmas.Bool.{and_parts, and_from, or_right, not-true}
use Rattle.hub_text.specs.declared.line.Line.{Line}
use Rattle.hub_text.specs.Lines.{is_lf, lines_of, ended}
use Rattle.hub_text.specs.laws.Line.{lines_of-ended}
use Rattle.hub_text.specs.laws.Test.{list_all-not}
use Rattle.hex.specs.Hex.{encode_with, encode_lower, lower_digits}
use lib.Utf8.{encode, next}
use Rattle.hub_state.specs.Writing.{joined_lines}
use Rattle.hub_state.specs.Reading.{above_end, lines_reading, nothing_above}
use Rattle.hub_text.specs.Blanks.{is_space}

-- A byte that ends no line, and one that separates no fields.
abbrev pub in_line : ℕ → Bool
in_line b = not (is_lf b)

abbrev pub in_field : ℕ → Bool
in_field b = not (b == 32)

-- Lines that all end with LF.
abbrev pub all_ended : List (List ℕ) → List (Line (List ℕ))
all_ended ls = map ended ls

no_lf : (l : List ℕ) → list_all in_line l ≡ true → list_any is_lf l ≡ false
no_lf l h = not-true (list_any is_lf l) (sym (list_all-not is_lf l) ∙ h)

lines_of-joined : (ls : List (List ℕ)) → list_all (list_all in_line) ls ≡ true → lines_of (joined_lines ls) ≡ all_ended ls
lines_of-joined [] h = refl
lines_of-joined (l ∷ ls) h =
    let parts = and_parts (list_all in_line l) (list_all (list_all in_line) ls) h in
    ap lines_of (append_assoc l (10 ∷ []) (joined_lines ls)) ∙ lines_of-ended l (joined_lines ls) (no_lf l parts.0) ∙ ap (λ ks. ended l ∷ ks) (lines_of-joined ls parts.1)

-- The lines of a text whose lines all end are read from the first on.
pub above_end-joined : (ls : List (List ℕ)) → list_all (list_all in_line) ls ≡ true → above_end (joined_lines ls) ≡ lines_reading 1 nothing_above (all_ended ls)
above_end-joined ls h = ap (lines_reading 1 nothing_above) (lines_of-joined ls h)

-- Bytes of a character other than LF.
high-in_line : (b : ℕ) → 128 ≤ b → in_line b ≡ true
high-in_line b h = grind (arith, nat_tests)

cond-in_line : (t : Bool) (xs ys : List ℕ) → (t ≡ true → list_all in_line xs ≡ true) → list_all in_line ys ≡ true → list_all in_line (cond t xs ys) ≡ true
cond-in_line true xs ys h k = h refl
cond-in_line false xs ys h k = k

one-in_line : (b : ℕ) → in_line b ≡ true → list_all in_line (b ∷ []) ≡ true
one-in_line b h = rw h refl

more-in_line : (b : ℕ) (bs : List ℕ) → 128 ≤ b → list_all in_line bs ≡ true → list_all in_line (b ∷ bs) ≡ true
more-in_line b bs h k = and_from (in_line b) (list_all in_line bs) (high-in_line b h) k

four : ℕ → List ℕ
four c = (240 + c / 262144) ∷ next (c / 4096) ∷ next (c / 64) ∷ next c ∷ []

three : ℕ → List ℕ
three c = (224 + c / 4096) ∷ next (c / 64) ∷ next c ∷ []

two : ℕ → List ℕ
two c = (192 + c / 64) ∷ next c ∷ []

next-in_line : (c : ℕ) → list_all in_line (next c ∷ []) ≡ true
next-in_line c = more-in_line (next c) [] (omega arith) refl

two-in_line : (c : ℕ) → list_all in_line (two c) ≡ true
unfolding two
two-in_line c = more-in_line (192 + c / 64) (next c ∷ []) (omega arith) (next-in_line c)

three-in_line : (c : ℕ) → list_all in_line (three c) ≡ true
unfolding three
three-in_line c =
    more-in_line (224 + c / 4096) (next (c / 64) ∷ next c ∷ []) (omega arith) (more-in_line (next (c / 64)) (next c ∷ []) (omega arith) (next-in_line c))

four-in_line : (c : ℕ) → list_all in_line (four c) ≡ true
unfolding four
four-in_line c =
    more-in_line (240 + c / 262144) (next (c / 4096) ∷ next (c / 64) ∷ next c ∷ []) (omega arith)
    (more-in_line (next (c / 4096)) (next (c / 64) ∷ next c ∷ []) (omega arith) (more-in_line (next (c / 64)) (next c ∷ []) (omega arith) (next-in_line c)))

encode-in_line : (c : ℕ) → in_line c ≡ true → list_all in_line (encode_utf8 c) ≡ true
unfolding encode two three four
encode-in_line c h =
    cond-in_line (ltb c 128) (c ∷ []) (cond (ltb c 2048) (two c) (cond (ltb c 65536) (three c) (four c))) (λ _. one-in_line c h)
    (cond-in_line (ltb c 2048) (two c) (cond (ltb c 65536) (three c) (four c)) (λ _. two-in_line c)
    (cond-in_line (ltb c 65536) (three c) (four c) (λ _. three-in_line c) (four-in_line c)))

pub encodes-in_line : (cs : List ℕ) → list_all in_line cs ≡ true → list_all in_line (encode_utf8_all cs) ≡ true
encodes-in_line [] h = refl
encodes-in_line (c ∷ cs) h =
    let parts = and_parts (in_line c) (list_all in_line cs) h in
    list_all-append in_line (encode_utf8 c) (encode_utf8_all cs)
    ∙ and_from (list_all in_line (encode_utf8 c)) (list_all in_line (encode_utf8_all cs)) (encode-in_line c parts.0) (encodes-in_line cs parts.1)

-- Hexadecimal digits stand in a line, and in a field.
all_at : (p : ℕ → Bool) (t : List ℕ) (k : ℕ) → p 0 ≡ true → list_all p t ≡ true → p (slice_index t k) ≡ true
all_at p [] k z h = z
all_at p (x ∷ t) zero z h = (and_parts (p x) (list_all p t) h).0
all_at p (x ∷ t) (suc k) z h = all_at p t k z (and_parts (p x) (list_all p t) h).1

digits-pass : (p : ℕ → Bool) (bytes : List ℕ) → p 0 ≡ true → list_all p lower_digits ≡ true → list_all p (encode_lower bytes) ≡ true
unfolding encode_with
digits-pass p [] z h = refl
digits-pass p (b ∷ bytes) z h =
    and_from _ _ (all_at p lower_digits (b / 16) z h) (and_from _ _ (all_at p lower_digits (b % 16) z h) (digits-pass p bytes z h))

pub digits-in_line : (bytes : List ℕ) → list_all in_line (encode_lower bytes) ≡ true
digits-in_line bytes = digits-pass in_line bytes refl refl

pub digits-in_field : (bytes : List ℕ) → list_all in_field (encode_lower bytes) ≡ true
digits-in_field bytes = digits-pass in_field bytes refl refl

-- A field ends at the first space.
not_found : (t : Bool) (m n : ℕ) → not t ≡ true → cond (not t) m n ≡ m
not_found true m n h = cc
not_found false m n h = refl

field_end : (f rest : List ℕ) → list_all in_field f ≡ true → position_or_len is_space (f ++ 32 ∷ rest) ≡ length f
field_end [] rest h = refl
field_end (b ∷ f) rest h =
    let parts = and_parts (in_field b) (list_all in_field f) h in
    not_found (b == 32) (1 + position_or_len is_space (f ++ 32 ∷ rest)) 0 parts.0 ∙ ap (λ n. 1 + n) (field_end f rest parts.1) ∙ one_more (length f)
  where
    one_more : (n : ℕ) → 1 + n ≡ suc n
    one_more n = omega arith

pub field_before : (f rest : List ℕ) → list_all in_field f ≡ true → before_first is_space (f ++ 32 ∷ rest) ≡ f
field_before f rest h = ap (λ n. take n (f ++ 32 ∷ rest)) (field_end f rest h) ∙ take_at f (32 ∷ rest) (length f) refl

drop_field : (f rest : List ℕ) → drop (suc (length f)) (f ++ 32 ∷ rest) ≡ rest
drop_field [] rest = refl
drop_field (b ∷ f) rest = drop_field f rest

next_one : (n : ℕ) → n + 1 ≡ suc n
next_one n = omega arith

pub field_after : (f rest : List ℕ) → list_all in_field f ≡ true → after_first is_space (f ++ 32 ∷ rest) ≡ rest
field_after f rest h = ap (λ n. drop (n + 1) (f ++ 32 ∷ rest)) (field_end f rest h) ∙ ap (λ n. drop n (f ++ 32 ∷ rest)) (next_one (length f)) ∙ drop_field f rest

pub field_ends : (f rest : List ℕ) → list_any is_space (f ++ 32 ∷ rest) ≡ true
field_ends [] rest = refl
field_ends (b ∷ f) rest = or_right (is_space b) _ (field_ends f rest)
