-- Jobs in the order of their waves, and in that of their numbers.
use Rattle.std.proofs.Common.{◌≡◌, ◌≢◌, ◌⊎◌, inl, inr, Bool, true, false, cond, ◌||◌, ◌+◌, List, [], ◌∷◌, ◌++◌, refl, ap, sym, ◌∙◌, subst, arith}
use Rattle.std.specs.Prelude.{◌==◌, ◌<◌, ◌≤◌, ℕ, zero, suc, filter, length, nat_lt, replicate}
use Rattle.std.specs.List.{flat_map, range_with_len}
use Rattle.std.proofs.lemmas.Bool.{or_cases}
use Rattle.std.proofs.lemmas.Bool.Decides.{nat_tests}
use Rattle.std.proofs.lemmas.List.{append-nil, append_assoc}
use Rattle.std.proofs.lemmas.List.Elements.{filter-append}
use borrow.Author.Tests.{eqb-true}
use Rattle.hub_text.specs.laws.List.{range-push}
use Rattle.hub_profile.specs.Parts.{Parts}
use Rattle.hub_serial.specs.Clash.{JobsClash}
use Rattle.hub_serial.specs.Schedule.{AreEquivalent, serial_turns}
use Rattle.hub_starter.specs.Waves.{AreBelow, KeepApart, gap, jobs_by_wave, jobs_in_wave, wave_of}
use Rattle.hub_starter.proofs.Numbers.{has, has_filtered, has_here, has_later, has_range}

-- The turns of two jobs in a serial schedule are those of the two, one after the other.
kept_turns : (t : ℕ → Bool) (j n : ℕ) (b : Bool) → t j ≡ b
    → filter t (replicate n j) ≡ cond b (replicate n j) []
kept_turns t j zero true e = refl
kept_turns t j zero false e = refl
kept_turns t j (suc n) true e =
    ap (λ b. cond b (j ∷ filter t (replicate n j)) (filter t (replicate n j))) e
    ∙ ap (λ xs. j ∷ xs) (kept_turns t j n true e)
kept_turns t j (suc n) false e =
    ap (λ b. cond b (j ∷ filter t (replicate n j)) (filter t (replicate n j))) e
    ∙ kept_turns t j n false e

more_turns : (n : ℕ → ℕ) (t : ℕ → Bool) (j : ℕ) (L : List ℕ) (b : Bool) → t j ≡ b
    → cond b (replicate (n j) j) [] ++ serial_turns n (filter t L)
    ≡ serial_turns n (cond b (j ∷ filter t L) (filter t L))
more_turns n t j L true e = refl
more_turns n t j L false e = refl

pub turns_filtered : (n : ℕ → ℕ) (t : ℕ → Bool) (L : List ℕ)
    → filter t (serial_turns n L) ≡ serial_turns n (filter t L)
turns_filtered n t [] = refl
turns_filtered n t (j ∷ L) =
    filter-append t (replicate (n j) j) (serial_turns n L)
    ∙ ((λ i. kept_turns t j (n j) (t j) refl i ++ turns_filtered n t L i)
    ∙ more_turns n t j L (t j) refl)

pub equivalent_turns : (Clashes : ℕ → ℕ → Type 0) (n : ℕ → ℕ) (L M : List ℕ)
    → AreEquivalent Clashes L M → AreEquivalent Clashes (serial_turns n L) (serial_turns n M)
equivalent_turns Clashes n L M e i k h =
    turns_filtered n (λ t. t == i || t == k) L
    ∙ (ap (serial_turns n) (e i k h) ∙ sym (turns_filtered n (λ t. t == i || t == k) M))

-- Numbers whose levels don't fall, level by level.
module _ (level : ℕ → ℕ) where
  abbrev pub Rises : List ℕ → Type 0
  Rises [] = Unit {0}
  Rises (x ∷ xs) = ((y : ℕ) → has y xs ≡ true → level x ≤ level y) × Rises xs

  abbrev at_level : ℕ → List ℕ → List ℕ
  at_level c xs = filter (λ x. level x == c) xs

  abbrev below_level : ℕ → List ℕ → List ℕ
  below_level c xs = filter (λ x. nat_lt (level x) c) xs

  none_kept : (t : ℕ → Bool) (xs : List ℕ) → ((y : ℕ) → has y xs ≡ true → t y ≡ false)
      → filter t xs ≡ []
  none_kept t [] never = refl
  none_kept t (x ∷ xs) never =
      ap (λ b. cond b (x ∷ filter t xs) (filter t xs)) (never x (has_here x xs))
      ∙ none_kept t xs (λ y h. never y (has_later y x xs h))

  same_kept : (t u : ℕ → Bool) (xs : List ℕ) → ((y : ℕ) → has y xs ≡ true → t y ≡ u y)
      → filter t xs ≡ filter u xs
  same_kept t u [] same = refl
  same_kept t u (x ∷ xs) same =
      let here = same x (has_here x xs) in
      let rest = same_kept t u xs (λ y h. same y (has_later y x xs h)) in
      λ i. cond (here i) (x ∷ rest i) (rest i)

  next_level : (c : ℕ) (xs : List ℕ) → Rises xs
      → below_level c xs ++ at_level c xs ≡ below_level (suc c) xs
  next_level c [] r = refl
  next_level c (x ∷ xs) r =
      elim (nat_lt (level x) c) as (λ b. nat_lt (level x) c ≡ b
      → cond b (x ∷ below_level c xs) (below_level c xs) ++ at_level c (x ∷ xs)
      ≡ below_level (suc c) (x ∷ xs)) [
        | true ↦ λ e.
            let not_at : (level x == c) ≡ false = grind (arith, nat_tests, e) in
            let within : nat_lt (level x) (suc c) ≡ true = grind (arith, nat_tests, e) in
            ap (λ b. (x ∷ below_level c xs) ++ cond b (x ∷ at_level c xs) (at_level c xs)) not_at
            ∙ (ap (λ ys. x ∷ ys) (next_level c xs r.1)
            ∙ sym (ap (λ b. cond b (x ∷ below_level (suc c) xs) (below_level (suc c) xs)) within))
        | false ↦ λ e.
            let from : c ≤ level x = grind (arith, nat_tests, e) in
            let none : below_level c xs ≡ [] =
            none_kept (λ y. nat_lt (level y) c) xs
            (λ y h. let up = r.0 y h in grind (arith, nat_tests, up, from)) in
            ap (λ ys. ys ++ at_level c (x ∷ xs)) none
            ∙ same_kept (λ y. level y == c) (λ y. nat_lt (level y) (suc c)) (x ∷ xs)
            (λ y h. either y from (or_cases (x == y) (has y xs) h))
      ] refl
    where
      either : (y : ℕ) → c ≤ level x → ((x == y) ≡ true) ⊎ (has y xs ≡ true)
          → (level y == c) ≡ nat_lt (level y) (suc c)
      either y from (inl same) =
          subst (λ z. (level z == c) ≡ nat_lt (level z) (suc c)) (eqb-true x y same)
          (grind (arith, nat_tests, from))
      either y from (inr more) = let up = r.0 y more in grind (arith, nat_tests, up, from)

  pub by_level : (c : ℕ) (xs : List ℕ) → Rises xs
      → flat_map (λ l. at_level l xs) (range_with_len 0 c) ≡ below_level c xs
  by_level zero xs r = sym (none_kept (λ y. nat_lt (level y) 0) xs (λ y h. grind (arith, nat_tests)))
  by_level (suc c) xs r =
      let zero_more : 0 + c ≡ c = omega arith in
      ap (flat_map (λ l. at_level l xs)) (range-push 0 c)
      ∙ (pushed (range_with_len 0 c) (0 + c)
      ∙ (ap (λ m. flat_map (λ l. at_level l xs) (range_with_len 0 c) ++ at_level m xs) zero_more
      ∙ (ap (λ ys. ys ++ at_level c xs) (by_level c xs r) ∙ next_level c xs r)))
    where
      pushed : (ls : List ℕ) (m : ℕ)
          → flat_map (λ l. at_level l xs) (ls ++ m ∷ [])
          ≡ flat_map (λ l. at_level l xs) ls ++ at_level m xs
      pushed [] m = append-nil (at_level m xs)
      pushed (l ∷ ls) m =
          ap (λ ys. at_level l xs ++ ys) (pushed ls m)
          ∙ sym (append_assoc (at_level l xs) (flat_map (λ l. at_level l xs) ls) (at_level m xs))

-- Filters.
pub filter_swap : (t u : ℕ → Bool) (xs : List ℕ) → filter t (filter u xs) ≡ filter u (filter t xs)
filter_swap t u [] = refl
filter_swap t u (x ∷ xs) =
    elim (t x) as (λ b. t x ≡ b → filter t (cond (u x) (x ∷ filter u xs) (filter u xs))
    ≡ filter u (cond b (x ∷ filter t xs) (filter t xs))) [
      | true ↦ λ e. elim (u x) as (λ c. filter t (cond c (x ∷ filter u xs) (filter u xs))
          ≡ cond c (x ∷ filter u (filter t xs)) (filter u (filter t xs))) [
            | true ↦ ap (λ b. cond b (x ∷ filter t (filter u xs)) (filter t (filter u xs))) e
                ∙ ap (λ ys. x ∷ ys) (filter_swap t u xs)
            | false ↦ filter_swap t u xs
          ]
      | false ↦ λ e. elim (u x) as (λ c. filter t (cond c (x ∷ filter u xs) (filter u xs))
          ≡ filter u (filter t xs)) [
            | true ↦ ap (λ b. cond b (x ∷ filter t (filter u xs)) (filter t (filter u xs))) e
                ∙ filter_swap t u xs
            | false ↦ filter_swap t u xs
          ]
    ] refl

filter_flat : (t : ℕ → Bool) (f : ℕ → List ℕ) (ls : List ℕ)
    → filter t (flat_map f ls) ≡ flat_map (λ l. filter t (f l)) ls
filter_flat t f [] = refl
filter_flat t f (l ∷ ls) =
    filter-append t (f l) (flat_map f ls) ∙ ap (λ ys. filter t (f l) ++ ys) (filter_flat t f ls)

flat_alike : (f g : ℕ → List ℕ) (ls : List ℕ) → ((l : ℕ) → f l ≡ g l) → flat_map f ls ≡ flat_map g ls
flat_alike f g [] same = refl
flat_alike f g (l ∷ ls) same = λ i. same l i ++ flat_alike f g ls same i

-- Two jobs that are the same or clash stand in both orders alike.
rises_by : (level : ℕ → ℕ) (t : ℕ → Bool) (a n : ℕ)
    → ((x y : ℕ) → t x ≡ true → t y ≡ true → x < y → y < a + n → level x ≤ level y)
    → Rises level (filter t (range_with_len a n))
rises_by level t a zero up = tt
rises_by level t a (suc n) up =
    let rest = rises_by level t (a + 1) n
    (λ x y h g l m. up x y h g l (omega (arith, m))) in
    elim (t a) as (λ b. t a ≡ b → Rises level
    (cond b (a ∷ filter t (range_with_len (a + 1) n)) (filter t (range_with_len (a + 1) n)))) [
      | true ↦ λ e. (
        λ y h.
            let w = has_filtered t y (range_with_len (a + 1) n) h in
            let range = has_range (a + 1) n y w.0 in
            let low = range.0 in let high = range.1 in
            up a y e w.1 (omega (arith, low)) (omega (arith, high)),
        rest,
      )
      | false ↦ λ e. rest
    ] refl

one_of : (i k t : ℕ) → (t == i || t == k) ≡ true → (t ≡ i) ⊎ (t ≡ k)
one_of i k t h =
    elim (or_cases (t == i) (t == k) h) [
      | inl e ↦ inl (eqb-true t i e)
      | inr e ↦ inr (eqb-true t k e)
    ]

pub turned_clash : (Ps : List Parts) (i k : ℕ) → JobsClash Ps i k → JobsClash Ps k i
turned_clash Ps i k (P, Q, e, f, inl c) = (Q, P, f, e, inr c)
turned_clash Ps i k (P, Q, e, f, inr c) = (Q, P, f, e, inl c)

module _ (Ps : List Parts) (waves : List ℕ) (apart : KeepApart Ps waves) where
  level_up : (i k x y : ℕ) → (i ≡ k) ⊎ JobsClash Ps i k → (x ≡ i) ⊎ (x ≡ k) → (y ≡ i) ⊎ (y ≡ k)
      → x < y → y < length waves → wave_of waves x ≤ wave_of waves y
  level_up i k x y (inl same) (inl a) (inl b) l m = absurd (omega (arith, l, a, b))
  level_up i k x y (inl same) (inl a) (inr b) l m = absurd (omega (arith, l, a, b, same))
  level_up i k x y (inl same) (inr a) (inl b) l m = absurd (omega (arith, l, a, b, same))
  level_up i k x y (inl same) (inr a) (inr b) l m = absurd (omega (arith, l, a, b))
  level_up i k x y (inr clash) (inl a) (inl b) l m = absurd (omega (arith, l, a, b))
  level_up i k x y (inr clash) (inr a) (inr b) l m = absurd (omega (arith, l, a, b))
  level_up i k x y (inr clash) (inl a) (inr b) l m =
      let up = apart x y l m
      (subst (λ z. JobsClash Ps z y) (sym a) (subst (λ z. JobsClash Ps i z) (sym b) clash)) in
      omega (arith, up)
  level_up i k x y (inr clash) (inr a) (inl b) l m =
      let up = apart x y l m
      (subst (λ z. JobsClash Ps z y) (sym a)
      (subst (λ z. JobsClash Ps k z) (sym b) (turned_clash Ps i k clash))) in
      omega (arith, up)

  -- No two of a wave that clash have one archive.
  pub none_shares : (w i k : ℕ) → (wave_of waves i == w) ≡ true → (wave_of waves k == w) ≡ true
      → i < length waves → k < length waves → i ≢ k → JobsClash Ps i k → gap Ps i k ≡ 1
      → gap Ps k i ≡ 1 → ⊥
  none_shares w i k e f l m off clash one other =
      let same : wave_of waves i ≡ wave_of waves k = eqb-true _ w e ∙ sym (eqb-true _ w f) in
      elim (nat_lt i k) as (λ b. nat_lt i k ≡ b → ⊥) [
        | true ↦ λ h.
            let less : i < k = grind (arith, nat_tests, h) in
            let up = apart i k less m clash in omega (arith, up, same, one)
        | false ↦ λ h.
            let less : k < i = grind (arith, nat_tests, h, off) in
            let up = apart k i less l (turned_clash Ps i k clash) in omega (arith, up, same, other)
      ] refl

  module _ (count : ℕ) (below : AreBelow count waves) where
    all_below : (xs : List ℕ) → ((y : ℕ) → has y xs ≡ true → y < length waves)
        → filter (λ x. nat_lt (wave_of waves x) count) xs ≡ xs
    all_below [] within = refl
    all_below (x ∷ xs) within =
        let low = below x (within x (has_here x xs)) in
        let here : nat_lt (wave_of waves x) count ≡ true = grind (arith, nat_tests, low) in
        ap (λ b. cond b (x ∷ filter (λ x. nat_lt (wave_of waves x) count) xs)
        (filter (λ x. nat_lt (wave_of waves x) count) xs)) here
        ∙ ap (λ ys. x ∷ ys) (all_below xs (λ y h. within y (has_later y x xs h)))

    pub waves_are_in_order :
        AreEquivalent (JobsClash Ps) (jobs_by_wave waves count) (range_with_len 0 (length waves))
    waves_are_in_order i k h =
        let t : ℕ → Bool = λ x. x == i || x == k in
        let R = range_with_len 0 (length waves) in
        let level = wave_of waves in
        filter_flat t (jobs_in_wave waves) (range_with_len 0 count)
        ∙ (flat_alike (λ l. filter t (jobs_in_wave waves l))
        (λ l. filter (λ x. level x == l) (filter t R)) (range_with_len 0 count)
        (λ l. filter_swap t (λ x. level x == l) R)
        ∙ (by_level level count (filter t R)
        (rises_by level t 0 (length waves)
        (λ x y e f l m. level_up i k x y h (one_of i k x e) (one_of i k y f) l (omega (arith, m))))
        ∙ all_below (filter t R)
        (λ y g. let w = has_range 0 (length waves) y (has_filtered t y R g).0 in
        let high = w.1 in omega (arith, high))))
