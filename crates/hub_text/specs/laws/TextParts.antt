-- A text cut at an ASCII character: by its bytes, as the code cuts, and by its characters, as the
-- rules are said.
use Rattle.std.proofs.Common.{◌≡◌, ◌==◌, ℕ, ◌+◌, ◌/◌, ◌<◌, ◌≤◌, Bool, true, false, cond, ltb, List, [], ◌∷◌, ◌++◌, length, map, refl, sym, ap, ◌∙◌, arith}
use Rattle.std.proofs.Common.{get_or}
use Rattle.std.proofs.lemmas.List.{length-map}
use Rattle.std.proofs.Math.ListN.{get_or-map}
use Rattle.std.specs.List.{slice_split, onto_first, list_all}
use Rattle.std.specs.Char.{encode_utf8}
use Rattle.std.specs.Str.{IsUtf8, chars, encode_utf8_all, all_scalars}
use Rattle.std.proofs.lemmas.Str.{encodes-chars, encode_ascii, chars-encodes, scalars-chars}
use Rattle.std.proofs.lemmas.Bool.{and_parts}
use Rattle.std.proofs.lemmas.Bool.Decides.{nat_tests}
use Rattle.std.proofs.lemmas.List.Splits.{length-slice_split}
use lib.Utf8.{encode, next, scalar}
use Rattle.hub_text.specs.laws.TextOrder.{one_more, two_more, three_more}
use borrow.Author.Tests.{eqb-true}

abbrev pub onto_front : List ℕ → List (List ℕ) → List (List ℕ)
onto_front [] ps = ps
onto_front (b ∷ bs) ps = onto_first b (onto_front bs ps)

abbrev pub is_apart : ℕ → ℕ → Bool
is_apart s b = cond (b == s) false true

onto_front-cons : (bs part : List ℕ) (parts : List (List ℕ))
    → onto_front bs (part ∷ parts) ≡ (bs ++ part) ∷ parts
onto_front-cons [] part parts = refl
onto_front-cons (b ∷ bs) part parts = ap (onto_first b) (onto_front-cons bs part parts)

not_first : (t : Bool) (b : ℕ) (ps qs : List (List ℕ)) → cond t false true ≡ true
    → cond t ps (onto_first b qs) ≡ onto_first b qs
not_first true b ps qs h = cc
not_first false b ps qs h = refl

split-front : (s : ℕ) (bs rest : List ℕ) → list_all (is_apart s) bs ≡ true
    → slice_split (λ b. b == s) (bs ++ rest) ≡ onto_front bs (slice_split (λ b. b == s) rest)
split-front s [] rest h = refl
split-front s (b ∷ bs) rest h =
    let passed = and_parts (is_apart s b) (list_all (is_apart s) bs) h in
    not_first (b == s) b _ _ passed.0 ∙ ap (onto_first b) (split-front s bs rest passed.1)

high_apart : (s b : ℕ) → s < 128 → 128 ≤ b → is_apart s b ≡ true
high_apart s b l h = grind (arith, nat_tests)

more_apart : (s a : ℕ) (bs : List ℕ) → s < 128 → 128 ≤ a → list_all (is_apart s) bs ≡ true
    → list_all (is_apart s) (a ∷ bs) ≡ true
more_apart s a bs l h e = rw (high_apart s a l h) e

either_apart : (s : ℕ) (t : Bool) (xs ys : List ℕ) → list_all (is_apart s) xs ≡ true
    → list_all (is_apart s) ys ≡ true → list_all (is_apart s) (cond t xs ys) ≡ true
either_apart s true xs ys h k = h
either_apart s false xs ys h k = k

next_apart : (s c : ℕ) (bs : List ℕ) → s < 128 → list_all (is_apart s) bs ≡ true
    → list_all (is_apart s) (next c ∷ bs) ≡ true
next_apart s c bs l e = more_apart s (next c) bs l (omega arith) e

-- The bytes of a character are none of an ASCII one.
pub encode-apart : (s c : ℕ) → s < 128 → (c == s) ≡ false
    → list_all (is_apart s) (encode_utf8 c) ≡ true
unfolding encode
encode-apart s c l h =
    let one = next_apart s c [] l refl in
    let two = next_apart s (c / 64) (one_more c) l one in
    let three = next_apart s (c / 4096) (two_more c) l two in
    either_apart s (ltb c 128) (c ∷ []) _ (rw h refl)
    (either_apart s (ltb c 2048) ((192 + c / 64) ∷ one_more c) _
    (more_apart s (192 + c / 64) (one_more c) l (omega arith) one)
    (either_apart s (ltb c 65536) ((224 + c / 4096) ∷ two_more c)
    ((240 + c / 262144) ∷ three_more c)
    (more_apart s (224 + c / 4096) (two_more c) l (omega arith) two)
    (more_apart s (240 + c / 262144) (three_more c) l (omega arith) three)))

map-onto_first : (c : ℕ) (parts : List (List ℕ)) → 0 < length parts
    → map encode_utf8_all (onto_first c parts)
    ≡ onto_front (encode_utf8 c) (map encode_utf8_all parts)
map-onto_first c [] l = absurd (omega arith)
map-onto_first c (part ∷ parts) l =
    sym (onto_front-cons (encode_utf8 c) (encode_utf8_all part) (map encode_utf8_all parts))

split-char : (s c : ℕ) (cs : List ℕ) → s < 128 → (t : Bool) → (c == s) ≡ t
    → slice_split (λ b. b == s) (encode_utf8_all cs)
    ≡ map encode_utf8_all (slice_split (λ d. d == s) cs)
    → slice_split (λ b. b == s) (encode_utf8 c ++ encode_utf8_all cs)
    ≡ map encode_utf8_all (cond (c == s) ([] ∷ slice_split (λ d. d == s) cs)
    (onto_first c (slice_split (λ d. d == s) cs)))
split-char s c cs l true e rest =
    rw (encode_ascii c (omega (arith, eqb-true c s e)), e) (ap (λ ps. [] ∷ ps) rest)
split-char s c cs l false e rest =
    rw e
    (split-front s (encode_utf8 c) (encode_utf8_all cs) (encode-apart s c l e)
    ∙ (ap (onto_front (encode_utf8 c)) rest
    ∙ sym (map-onto_first c (slice_split (λ d. d == s) cs)
    (omega (arith, length-slice_split (λ d. d == s) cs)))))

-- The parts of the bytes are the bytes of the parts.
pub split-encodes : (s : ℕ) (cs : List ℕ) → s < 128
    → slice_split (λ b. b == s) (encode_utf8_all cs)
    ≡ map encode_utf8_all (slice_split (λ c. c == s) cs)
split-encodes s [] l = refl
split-encodes s (c ∷ cs) l = split-char s c cs l (c == s) refl (split-encodes s cs l)

chars-parts : (ps : List (List ℕ)) → list_all all_scalars ps ≡ true
    → map chars (map encode_utf8_all ps) ≡ ps
chars-parts [] h = refl
chars-parts (p ∷ ps) h =
    let parts = and_parts (all_scalars p) (list_all all_scalars ps) h in
    ap (λ n. n ∷ map chars (map encode_utf8_all ps)) (chars-encodes p parts.0)
    ∙ ap (λ ns. p ∷ ns) (chars-parts ps parts.1)

scalars-cut : (c : ℕ) (ps : List (List ℕ)) (t : Bool) → scalar c ≡ true
    → list_all all_scalars ps ≡ true → list_all all_scalars (cond t ([] ∷ ps) (onto_first c ps))
    ≡ true
scalars-cut c ps true s h = h
scalars-cut c [] false s h = rw s refl
scalars-cut c (p ∷ ps) false s h = rw s h

scalars-parts : (s : ℕ) (cs : List ℕ) → all_scalars cs ≡ true
    → list_all all_scalars (slice_split (λ c. c == s) cs) ≡ true
scalars-parts s [] h = refl
scalars-parts s (c ∷ cs) h =
    let parts = and_parts (scalar c) (all_scalars cs) h
    in scalars-cut c _ (c == s) parts.0 (scalars-parts s cs parts.1)

-- The characters of the parts of a text are the parts of its characters.
pub chars-split : (s : ℕ) (bs : List ℕ) → s < 128 → IsUtf8 bs
    → map chars (slice_split (λ b. b == s) bs) ≡ slice_split (λ c. c == s) (chars bs)
chars-split s bs l u =
    ap (λ t. map chars (slice_split (λ b. b == s) t)) (sym (encodes-chars bs u))
    ∙ (ap (map chars) (split-encodes s (chars bs) l)
    ∙ chars-parts _ (scalars-parts s (chars bs) (scalars-chars bs u)))

-- A part of a text at a place, by its characters.
pub part-chars : (s : ℕ) (bs : List ℕ) (i : ℕ) (part : List ℕ) → s < 128 → IsUtf8 bs
    → i < length (slice_split (λ b. b == s) bs)
    → part ≡ get_or (slice_split (λ b. b == s) bs) i part
    → (i < length (slice_split (λ c. c == s) (chars bs)))
    × (chars part ≡ get_or (slice_split (λ c. c == s) (chars bs)) i (chars part))
part-chars s bs i part l u within at =
    let e = chars-split s bs l u in (
      rw (← e, length-map) within,
      ap chars at
          ∙ (sym (get_or-map chars (slice_split (λ b. b == s) bs) i part)
          ∙ ap (λ ps. get_or ps i (chars part)) e),
    )

-- There are as many parts.
pub length-parts : (s : ℕ) (bs : List ℕ) → s < 128 → IsUtf8 bs
    → length (slice_split (λ c. c == s) (chars bs)) ≡ length (slice_split (λ b. b == s) bs)
length-parts s bs l u = ap length (sym (chars-split s bs l u)) ∙ rw length-map refl
