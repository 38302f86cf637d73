-- A text cut at its first blank, and a text without the blanks in front.
use Rattle.std.proofs.Common.{◌≡◌, ℕ, Bool, true, false, ◌&&◌, List, [], ◌∷◌, ◌++◌, Option, Some, None, MatchOption, IfSome, unwrap_or, drop, refl, sym, ap, ◌∙◌, arith, subst}
use Rattle.std.specs.Prelude.{if◌then◌else◌}
use Rattle.std.specs.List.{before_first, after_first}
use Rattle.std.specs.Char.{IsScalar, encode_utf8}
use Rattle.std.specs.Str.{IsUtf8, chars, encode_utf8_all, all_scalars}
use Rattle.std.specs.Str.Pattern.{FindsBy, FindsPrefixBy, CutsPrefixes, IsTrimStartMatches, SplitsAroundMatch}
use Rattle.std.proofs.lemmas.Str.{encodes-chars, chars_past_char, IsUtf8-past_char, scalars-chars, len_utf8_bounds}
use Rattle.std.proofs.lemmas.Bool.{and_parts}
use denote.Ref.{Bor}
use lib.Utf8.{scalar}
use Rattle.hub_text.specs.Blanks.{is_blank, skip_blanks}
use Rattle.hub_text.specs.laws.TextCuts.{CutsAt, parted}

-- What a search for a blank finds.
abbrev pub FindsBlank : List ℕ → Option (ℕ × ℕ) → Type 0
FindsBlank s r = (k : ℕ → Bool) → ((c : ℕ) → is_blank c ≡ k c) → FindsBy k s r

-- The parts around the first blank; without one, the whole text and nothing.
pub word_and_rest : (bs : List ℕ) (r : Option (Bor (List ℕ) × Bor (List ℕ))) (d : Bor (List ℕ) × Bor (List ℕ)) → IsUtf8 bs
    → MatchOption r (FindsBlank bs None) (λ x. SplitsAroundMatch FindsBlank bs x.0.now x.1.now) → chars d.0.now ≡ chars bs → chars d.1.now ≡ []
    → (chars (unwrap_or r d).0.now ≡ before_first is_blank (chars bs)) × (chars (unwrap_or r d).1.now ≡ after_first is_blank (chars bs))
word_and_rest bs r d u h e f = go r (parted is_blank FindsBlank (λ s o g. g is_blank (λ c. refl)) bs r u h) where
  go : (r : Option (Bor (List ℕ) × Bor (List ℕ))) → CutsAt is_blank (chars bs) r
      → (chars (unwrap_or r d).0.now ≡ before_first is_blank (chars bs)) × (chars (unwrap_or r d).1.now ≡ after_first is_blank (chars bs))
  go None cut = (e ∙ sym cut.1, f ∙ sym cut.2)
  go (Some x) cut = (cut.1, cut.2)

abbrev pub CutsBlank : List ℕ → Option ℕ → Type 0
CutsBlank s r = (k : ℕ → Bool) → ((c : ℕ) → is_blank c ≡ k c) → FindsPrefixBy k s r

skip-cut : (s : List ℕ) (ns : List ℕ) (r : List ℕ) → IsUtf8 s → CutsPrefixes CutsBlank s ns r → (skip_blanks (chars s) ≡ skip_blanks (chars r)) × IsUtf8 r
skip-cut s [] r u h = (ap (λ t. skip_blanks (chars t)) (sym h), let P : List ℕ → Type 0 = λ t. IsUtf8 t in subst P (sym h) u)
skip-cut s (n ∷ ns) r u h =
    let m = h.0 in
    let before = skip-cut s ns m u h.1 in
    let found = h.2 is_blank (λ c. refl) in
    let c = found.0 in
    let e : chars m ≡ c ∷ chars (drop n m) = chars_past_char m (drop n m) c before.1 found.2.split in (
      before.0 ∙ ap skip_blanks e ∙ (λ i. if (found.1 i) then skip_blanks (chars (drop n m)) else c ∷ chars (drop n m)) ∙ ap (λ t. skip_blanks (chars t)) (sym h.3),
      let P : List ℕ → Type 0 = λ t. IsUtf8 t in subst P (sym h.3) (IsUtf8-past_char m (drop n m) c before.1 found.2.split),
    )

no_blank : (r cs : List ℕ) → IsUtf8 r → chars r ≡ cs → ((c : ℕ) (rest : List ℕ) → IsScalar c → r ≡ encode_utf8 c ++ rest → is_blank c ≡ false) → skip_blanks cs ≡ cs
no_blank r [] u e h = refl
no_blank r (c ∷ cs) u e h =
    let scalars : (scalar c && all_scalars cs) ≡ true = sym (ap all_scalars e) ∙ scalars-chars r u in
    let blank : is_blank c ≡ false = h c (encode_utf8_all cs) (and_parts (scalar c) (all_scalars cs) scalars).0 (sym (encodes-chars r u) ∙ ap encode_utf8_all e) in
    λ i. if (blank i) then skip_blanks cs else c ∷ cs

all_cut : (r : List ℕ) (o : Option ℕ) → IsUtf8 r → CutsBlank r o → IfSome o (λ n. n ≡ 0) → skip_blanks (chars r) ≡ chars r
all_cut r None u h z = no_blank r (chars r) u refl (h is_blank (λ c. refl))
all_cut r (Some n) u h z = let found = h is_blank (λ c. refl) in absurd (omega (arith, len_utf8_bounds found.0, found.2.ends))

pub skip_trim : (s r : List ℕ) → IsUtf8 s → IsTrimStartMatches CutsBlank s r → chars r ≡ skip_blanks (chars s)
skip_trim s r u h =
    let cut = skip-cut s h.0.0 r u h.0.1 in
    sym (cut.0 ∙ all_cut r h.1.0 cut.1 h.1.1 h.1.2)
