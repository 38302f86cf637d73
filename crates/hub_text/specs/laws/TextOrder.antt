-- The order of UTF-8 bytes is the order of characters.
use Rattle.std.proofs.Common.{◌≡◌, ℕ, ◌+◌, ◌/◌, ◌<◌, ◌≤◌, ◌⊎◌, ⊎_elim, inl, inr, true, false, ltb, List, [], ◌∷◌, ◌++◌, refl, sym, ap, ◌∙◌, arith}
use Rattle.std.specs.Char.{encode_utf8}
use Rattle.std.specs.Str.{IsUtf8, chars, encode_utf8_all}
use Rattle.std.specs.Ordering.{nat_cmp, ordering_then}
use Rattle.std.specs.Cmp.Lexicographic.{slice_cmp}
use Rattle.std.specs.declared.cmp.Ordering.{Ordering}
use Rattle.std.specs.declared.cmp.Ordering.TheVariants.{Less, Equal, Greater}
use Rattle.std.proofs.lemmas.Str.{encodes-chars}
use Rattle.std.proofs.lemmas.Bool.{cases_lt, cond-true, cond-false}
use Rattle.std.proofs.lemmas.Bool.Decides.{nat_tests}
use lib.Utf8.{encode, next}

abbrev bytes_cmp : List ℕ → List ℕ → Ordering
bytes_cmp = slice_cmp nat_cmp

pub less : (a b : ℕ) → a < b → nat_cmp a b ≡ Less
less a b h = grind (arith, nat_tests)

pub more : (a b : ℕ) → b < a → nat_cmp a b ≡ Greater
more a b h = grind (arith, nat_tests)

tied : (a : ℕ) → nat_cmp a a ≡ Equal
tied a = grind (arith, nat_tests)

-- Two lists of bytes, each followed by any others, that differ, the first being less.
abbrev IsBefore : List ℕ → List ℕ → Type 0
IsBefore us vs =
    (xs ys : List ℕ) → (bytes_cmp (us ++ xs) (vs ++ ys) ≡ Less)
    × (bytes_cmp (vs ++ ys) (us ++ xs) ≡ Greater)

before_first : (a b : ℕ) (us vs : List ℕ) → a < b → IsBefore (a ∷ us) (b ∷ vs)
before_first a b us vs h xs ys = (rw (less a b h) refl, rw (more b a h) refl)

before_later : (a b : ℕ) (us vs : List ℕ) → a ≡ b → IsBefore us vs → IsBefore (a ∷ us) (b ∷ vs)
before_later a b us vs e h xs ys = rw (← e, tied a) (h xs ys)

-- The first bytes differ, or they are equal and the later ones differ.
before : (a b : ℕ) (us vs : List ℕ) → (a < b) ⊎ ((a ≡ b) × IsBefore us vs)
    → IsBefore (a ∷ us) (b ∷ vs)
before a b us vs h = ⊎_elim (λ l. before_first a b us vs l) (λ e. before_later a b us vs e.0 e.1) h

abbrev pub one_more : ℕ → List ℕ
one_more c = next c ∷ []

abbrev pub two_more : ℕ → List ℕ
two_more c = next (c / 64) ∷ one_more c

abbrev pub three_more : ℕ → List ℕ
three_more c = next (c / 4096) ∷ two_more c

-- The later bytes of two characters whose first bytes are equal.
one-before : (c d : ℕ) → c < d → c / 64 ≡ d / 64 → IsBefore (one_more c) (one_more d)
one-before c d h e = before_first (next c) (next d) [] [] (omega (arith, h, e))

two-before : (c d : ℕ) → c < d → c / 4096 ≡ d / 4096 → IsBefore (two_more c) (two_more d)
two-before c d h e =
    before (next (c / 64)) (next (d / 64)) (one_more c) (one_more d)
    (⊎_elim (λ l. inl (omega (arith, l, e)))
    (λ g. let same : c / 64 ≡ d / 64 = omega (arith, g, h)
    in inr (ap next same, one-before c d h same))
    (cases_lt (c / 64) (d / 64)))

three-before : (c d : ℕ) → c < d → c / 262144 ≡ d / 262144 → IsBefore (three_more c) (three_more d)
three-before c d h e =
    before (next (c / 4096)) (next (d / 4096)) (two_more c) (two_more d)
    (⊎_elim (λ l. inl (omega (arith, l, e)))
    (λ g. let same : c / 4096 ≡ d / 4096 =
    omega (arith, g, h) in inr (ap next same, two-before c d h same))
    (cases_lt (c / 4096) (d / 4096)))

-- The first bytes of two characters of the same length.
quotients : (k c d : ℕ) (us vs : List ℕ) (q r : ℕ) → q ≤ r → (q ≡ r → IsBefore us vs)
    → IsBefore ((k + q) ∷ us) ((k + r) ∷ vs)
quotients k c d us vs q r l later =
    before (k + q) (k + r) us vs
    (⊎_elim (λ m. inl (omega (arith, m)))
    (λ g. let same : q ≡ r = omega (arith, g, l) in inr (ap (λ n. k + n) same, later same))
    (cases_lt q r))

-- How many bytes a character has, and which.
data Form (c : ℕ) : Type 0 where
  one : c < 128 → encode_utf8 c ≡ c ∷ [] → Form c
  two : 128 ≤ c → c < 2048 → encode_utf8 c ≡ (192 + c / 64) ∷ one_more c → Form c
  three : 2048 ≤ c → c < 65536 → encode_utf8 c ≡ (224 + c / 4096) ∷ two_more c → Form c
  four : 65536 ≤ c → encode_utf8 c ≡ (240 + c / 262144) ∷ three_more c → Form c

form : (c : ℕ) → Form c
unfolding encode
form c =
    ⊎_elim (λ l. one l (cond-true (ltb c 128) _ _ (low c 128 l)))
    (λ g. ⊎_elim (λ l. two g l (cond-false (ltb c 128) _ _ (high c 128 g)
    ∙ cond-true (ltb c 2048) _ _ (low c 2048 l)))
    (λ g'. ⊎_elim (λ l. three g' l (cond-false (ltb c 128) _ _ (high c 128 g)
    ∙ (cond-false (ltb c 2048) _ _ (high c 2048 g')
    ∙ cond-true (ltb c 65536) _ _ (low c 65536 l))))
    (λ g''. four g'' (cond-false (ltb c 128) _ _ (high c 128 g)
    ∙ (cond-false (ltb c 2048) _ _ (high c 2048 g')
    ∙ cond-false (ltb c 65536) _ _ (high c 65536 g''))))
    (cases_lt c 65536)) (cases_lt c 2048)) (cases_lt c 128)
  where
    low : (a b : ℕ) → a < b → ltb a b ≡ true
    low a b h = grind (arith, nat_tests)

    high : (a b : ℕ) → b ≤ a → ltb a b ≡ false
    high a b h = grind (arith, nat_tests)

-- The bytes of the lesser of two characters come first.
encode-before : (c d : ℕ) → c < d → Form c → Form d → IsBefore (encode_utf8 c) (encode_utf8 d)
encode-before c d h (one l e) (one m f) = rw (e, f) (before_first c d [] [] h)
encode-before c d h (one l e) (two m k f) =
    rw (e, f) (before_first c (192 + d / 64) [] (one_more d) (omega (arith, l)))
encode-before c d h (one l e) (three m k f) =
    rw (e, f) (before_first c (224 + d / 4096) [] (two_more d) (omega (arith, l)))
encode-before c d h (one l e) (four m f) =
    rw (e, f) (before_first c (240 + d / 262144) [] (three_more d) (omega (arith, l)))
encode-before c d h (two l k e) (one m f) = absurd (omega (arith, h, l, m))
encode-before c d h (two l k e) (two m n f) =
    rw (e, f) (quotients 192 c d (one_more c) (one_more d) (c / 64) (d / 64) (omega (arith, h))
    (λ same. one-before c d h same))
encode-before c d h (two l k e) (three m n f) =
    rw (e, f) (before_first (192 + c / 64) (224 + d / 4096) (one_more c) (two_more d)
    (omega (arith, k)))
encode-before c d h (two l k e) (four m f) =
    rw (e, f) (before_first (192 + c / 64) (240 + d / 262144) (one_more c) (three_more d)
    (omega (arith, k)))
encode-before c d h (three l k e) (one m f) = absurd (omega (arith, h, l, m))
encode-before c d h (three l k e) (two m n f) = absurd (omega (arith, h, l, n))
encode-before c d h (three l k e) (three m n f) =
    rw (e, f) (quotients 224 c d (two_more c) (two_more d) (c / 4096) (d / 4096) (omega (arith, h))
    (λ same. two-before c d h same))
encode-before c d h (three l k e) (four m f) =
    rw (e, f) (before_first (224 + c / 4096) (240 + d / 262144) (two_more c) (three_more d)
    (omega (arith, k)))
encode-before c d h (four l e) (one m f) = absurd (omega (arith, h, l, m))
encode-before c d h (four l e) (two m n f) = absurd (omega (arith, h, l, n))
encode-before c d h (four l e) (three m n f) = absurd (omega (arith, h, l, n))
encode-before c d h (four l e) (four m f) =
    rw (e, f) (quotients 240 c d (three_more c) (three_more d) (c / 262144) (d / 262144)
    (omega (arith, h)) (λ same. three-before c d h same))

-- Equal bytes at the front don't matter.
same-front : (us xs ys : List ℕ) → bytes_cmp (us ++ xs) (us ++ ys) ≡ bytes_cmp xs ys
same-front [] xs ys = refl
same-front (a ∷ us) xs ys = rw (tied a) (same-front us xs ys)

-- A character has a first byte.
none-first : (c : ℕ) (xs : List ℕ) → Form c
    → (bytes_cmp [] (encode_utf8 c ++ xs) ≡ Less) × (bytes_cmp (encode_utf8 c ++ xs) [] ≡ Greater)
none-first c xs (one l e) = rw e (refl, refl)
none-first c xs (two l k e) = rw e (refl, refl)
none-first c xs (three l k e) = rw e (refl, refl)
none-first c xs (four l e) = rw e (refl, refl)

cmp-cons : (c d : ℕ) (cs ds : List ℕ) → (c < d) ⊎ (d ≤ c)
    → bytes_cmp (encode_utf8_all cs) (encode_utf8_all ds) ≡ slice_cmp nat_cmp cs ds
    → bytes_cmp (encode_utf8 c ++ encode_utf8_all cs) (encode_utf8 d ++ encode_utf8_all ds)
    ≡ ordering_then (nat_cmp c d) (slice_cmp nat_cmp cs ds)
cmp-cons c d cs ds (inl l) e =
    (encode-before c d l (form c) (form d) (encode_utf8_all cs) (encode_utf8_all ds)).0
    ∙ rw (less c d l) refl
cmp-cons c d cs ds (inr g) e = ⊎_elim
    (λ l. (encode-before d c l (form d) (form c) (encode_utf8_all ds) (encode_utf8_all cs)).1
    ∙ rw (more c d l) refl)
    (λ k. let same : c ≡ d = omega (arith, g, k)
    in rw (← same, tied c) (same-front (encode_utf8 c) (encode_utf8_all cs)
    (encode_utf8_all ds) ∙ e))
    (cases_lt d c)

pub cmp-encodes : (cs ds : List ℕ) → bytes_cmp (encode_utf8_all cs) (encode_utf8_all ds)
    ≡ slice_cmp nat_cmp cs ds
cmp-encodes [] [] = refl
cmp-encodes [] (d ∷ ds) = (none-first d (encode_utf8_all ds) (form d)).0
cmp-encodes (c ∷ cs) [] = (none-first c (encode_utf8_all cs) (form c)).1
cmp-encodes (c ∷ cs) (d ∷ ds) = cmp-cons c d cs ds (cases_lt c d) (cmp-encodes cs ds)

-- Two texts are compared by their bytes as by their characters.
pub cmp-chars : (us vs : List ℕ) → IsUtf8 us → IsUtf8 vs
    → slice_cmp nat_cmp us vs ≡ slice_cmp nat_cmp (chars us) (chars vs)
cmp-chars us vs u v =
    ap (λ t. slice_cmp nat_cmp t vs) (sym (encodes-chars us u))
    ∙ (ap (slice_cmp nat_cmp (encode_utf8_all (chars us))) (sym (encodes-chars vs v))
    ∙ cmp-encodes (chars us) (chars vs))
