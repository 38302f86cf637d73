-- A text cut at its first character that passes a test: the two parts of its bytes, as parts of its
-- characters.
use Rattle.std.proofs.Common.{◌≡◌, ◌==◌, ℕ, ◌+◌, Bool, true, false, not, cond, List, [], ◌∷◌, ◌++◌, Option, Some, None, MatchOption, length, take, drop, refl, sym, ap, subst, ◌∙◌, arith, append_assoc}
use Rattle.std.specs.List.{list_any, before_first, after_first, position_or_len}
use Rattle.std.specs.Char.{encode_utf8}
use Rattle.std.specs.Str.{IsUtf8, IsCharBoundary, NonePass, chars, encode_utf8_all, all_scalars}
use Rattle.std.specs.Str.Pattern.{FindsBy, FindsChar, SplitsAroundMatch}
use Rattle.std.proofs.lemmas.Str.{encodes-chars, chars-encodes, chars_from_encodes, encodes-append, encodes_same, scalars-chars, IsUtf8-drop}
use Rattle.std.proofs.lemmas.List.{length_push, take-append-drop, drop_all, take_all, take_at, drop_at}
use Rattle.std.proofs.lemmas.Bool.{and_parts, or_from, or_left, or_right, eq-eqb}
use denote.Ref.{Bor}
use lib.Utf8.{scalar}

-- The place of the first character that passes, and the characters on both sides of it.
position-found : (p : ℕ → Bool) (cs : List ℕ) (c : ℕ) (ds : List ℕ) → NonePass p cs → p c ≡ true
    → position_or_len p (cs ++ c ∷ ds) ≡ length cs
position-found p [] c ds n h = λ i. cond (not (h i)) (1 + position_or_len p ds) 0
position-found p (b ∷ cs) c ds n h =
    (λ i. cond (not (n.0 i)) (1 + position_or_len p (cs ++ c ∷ ds)) 0)
    ∙ ap (λ k. 1 + k) (position-found p cs c ds n.1 h) ∙ omega arith

position-none : (p : ℕ → Bool) (cs : List ℕ) → NonePass p cs → position_or_len p cs ≡ length cs
position-none p [] n = refl
position-none p (b ∷ cs) n =
    (λ i. cond (not (n.0 i)) (1 + position_or_len p cs) 0)
    ∙ ap (λ k. 1 + k) (position-none p cs n.1) ∙ omega arith

before-found : (p : ℕ → Bool) (cs : List ℕ) (c : ℕ) (ds : List ℕ) → NonePass p cs → p c ≡ true
    → before_first p (cs ++ c ∷ ds) ≡ cs
before-found p cs c ds n h =
    ap (λ k. take k (cs ++ c ∷ ds)) (position-found p cs c ds n h)
    ∙ take_at cs (c ∷ ds) (length cs) refl

after-found : (p : ℕ → Bool) (cs : List ℕ) (c : ℕ) (ds : List ℕ) → NonePass p cs → p c ≡ true
    → after_first p (cs ++ c ∷ ds) ≡ ds
after-found p cs c ds n h =
    ap (λ k. drop (k + 1) (cs ++ c ∷ ds)) (position-found p cs c ds n h)
    ∙ ap (drop (length cs + 1)) (sym (append_assoc cs (c ∷ []) ds))
    ∙ drop_at (cs ++ c ∷ []) ds (length cs + 1) (length_push cs c)

any-found : (p : ℕ → Bool) (cs : List ℕ) (c : ℕ) (ds : List ℕ) → p c ≡ true
    → list_any p (cs ++ c ∷ ds) ≡ true
any-found p [] c ds h = or_left (p c) (list_any p ds) h
any-found p (b ∷ cs) c ds h = or_right (p b) (list_any p (cs ++ c ∷ ds)) (any-found p cs c ds h)

any-none : (p : ℕ → Bool) (cs : List ℕ) → NonePass p cs → list_any p cs ≡ false
any-none p [] n = refl
any-none p (b ∷ cs) n = or_from (p b) (list_any p cs) n.0 (any-none p cs n.1)

scalars-front : (cs ds : List ℕ) → all_scalars (cs ++ ds) ≡ true → all_scalars cs ≡ true
scalars-front [] ds h = refl
scalars-front (c ∷ cs) ds h =
    let both = and_parts (scalar c) (all_scalars (cs ++ ds)) h
    in rw both.0 (scalars-front cs ds both.1)

-- The two parts around the cut. Without one all stands before it, and the parts are missing.
abbrev pub CutsAt : (ℕ → Bool) → List ℕ → Option (Bor (List ℕ) × Bor (List ℕ)) → Type 0
CutsAt p cs r =
    MatchOption r ((list_any p cs ≡ false) × (before_first p cs ≡ cs) × (after_first p cs ≡ []))
    (λ x. (list_any p cs ≡ true) × (chars x.0.now ≡ before_first p cs)
    × (chars x.1.now ≡ after_first p cs))

-- `split_once` cuts there, where `F` is what its pattern finds.
pub parted : (p : ℕ → Bool) (F : List ℕ → Option (ℕ × ℕ) → Type 0)
    (says : (s : List ℕ) (o : Option (ℕ × ℕ)) → F s o → FindsBy p s o)
    (bs : List ℕ) (r : Option (Bor (List ℕ) × Bor (List ℕ))) → IsUtf8 bs
    → MatchOption r (F bs None) (λ x. SplitsAroundMatch F bs x.0.now x.1.now)
    → CutsAt p (chars bs) r
parted p F says bs None u h =
    let found = says bs None h in
    let none : NonePass p (chars bs) = subst (NonePass p)
    (chars_from_encodes found.0 bs u found.1) found.2 in
    let at = position-none p (chars bs) none in (
      any-none p (chars bs) none,
      ap (λ n. take n (chars bs)) at ∙ take_all (length (chars bs)) (chars bs) (omega arith),
      ap (λ n. drop (n + 1) (chars bs)) at
          ∙ drop_all (length (chars bs) + 1) (chars bs) (omega arith),
    )
parted p F says bs (Some x) u h =
    let i = h.0 in
    let j = h.1 in
    let found = says bs (Some (i, j)) h.2 in
    let cs = found.0.0 in
    let none = found.0.2 in
    let c = found.1.0 in
    let passes = found.1.1 in
    let ds = chars (drop j bs) in
    let back : IsUtf8 (drop j bs) = IsUtf8-drop bs j u
    (subst (IsCharBoundary bs) (sym found.1.2.ends) found.1.2.after) in
    let whole : chars bs ≡ cs ++ c ∷ ds =
    encodes_same (chars bs) (cs ++ c ∷ ds)
    (encodes-chars bs u ∙ sym (take-append-drop i bs) ∙ (λ k. sym found.0.1 k ++ found.1.2.split k)
    ∙ (λ k. encode_utf8_all cs ++ (encode_utf8 c ++ sym (encodes-chars (drop j bs) back) k))
    ∙ sym (encodes-append cs (c ∷ ds))) in
    let front : chars (take i bs) ≡ cs =
    ap chars (sym found.0.1) ∙ chars-encodes cs
    (scalars-front cs (c ∷ ds) (ap all_scalars (sym whole) ∙ scalars-chars bs u)) in (
      ap (list_any p) whole ∙ any-found p cs c ds passes,
      ap chars h.3 ∙ front ∙ sym (before-found p cs c ds none passes)
          ∙ ap (before_first p) (sym whole),
      ap chars h.4 ∙ sym (after-found p cs c ds none passes) ∙ ap (after_first p) (sym whole),
    )

-- A search for one character.
pub finds_by : (c : ℕ) (s : List ℕ) (o : Option (ℕ × ℕ)) → FindsChar c s o
    → FindsBy (λ d. d == c) s o
finds_by c s None h = h
finds_by c s (Some x) h = (h.0, (c, eq-eqb c c refl, h.1))
