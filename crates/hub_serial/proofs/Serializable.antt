-- A schedule in which jobs that clash don't overlap in time is equivalent to the serial one.
use Rattle.std.proofs.Common.{◌≡◌, ◌≢◌, ◌<◌, inl, inr, Bool, true, false, cond, not, ◌||◌, List, [], ◌∷◌, ◌++◌, Some, refl, ap, sym, ◌∙◌, subst, arith}
use Rattle.std.specs.Prelude.{◌⊎◌, ◌==◌, ℕ, suc, filter, slice_get}
use Rattle.std.specs.List.{flat_map}
use Rattle.std.proofs.lemmas.Bool.{false≢true, false_from_ne_true}
use Rattle.std.proofs.lemmas.List.Elements.{filter-append}
use borrow.Author.Tests.{eqb-true}
use Rattle.hub_job.specs.Same.{own_turns}
use Rattle.hub_serial.specs.Schedule.{jobs_in_order, serial_schedule, turns_by_job, AreEquivalent, NoneInterleave}
use Rattle.hub_serial.proofs.Traces.{itself, one_of}

abbrev others : ℕ → List ℕ → List ℕ
others j js = filter (λ i. not (i == j)) js

abbrev no_turns : List ℕ
no_turns = []

-- Of the turns of one job a test keeps all or none.
one_more : (f : ℕ → Bool) (t j : ℕ) (xs : List ℕ) (b : Bool) → (j == t) ≡ b → filter f xs ≡ cond (f t) xs []
    → filter f (cond b (j ∷ xs) xs) ≡ cond (f t) (cond b (j ∷ xs) xs) []
one_more f t j xs false e h = h
one_more f t j xs true e h =
    let same : j ≡ t = eqb-true j t e in
    elim (f t) as (λ b. f t ≡ b → filter f xs ≡ cond b xs [] → cond (f j) (j ∷ filter f xs) (filter f xs) ≡ cond b (j ∷ xs) []) [
      | true ↦ λ g k. ap (λ c. cond c (j ∷ filter f xs) (filter f xs)) (ap f same ∙ g) ∙ ap (λ ys. j ∷ ys) k
      | false ↦ λ g k. ap (λ c. cond c (j ∷ filter f xs) (filter f xs)) (ap f same ∙ g) ∙ k
    ] refl h

none_anyway : (b : Bool) → no_turns ≡ cond b no_turns no_turns
none_anyway true = refl
none_anyway false = refl

all_or_none : (f : ℕ → Bool) (t : ℕ) (js : List ℕ) → filter f (own_turns t js) ≡ cond (f t) (own_turns t js) []
all_or_none f t [] = none_anyway (f t)
all_or_none f t (j ∷ js) = one_more f t j (own_turns t js) (j == t) refl (all_or_none f t js)

-- Two tests, one after the other.
turn_about : (j : ℕ) (xs : List ℕ) (b c : Bool) (f g : ℕ → Bool) → f j ≡ b → g j ≡ c → filter f (filter g xs) ≡ filter g (filter f xs)
    → filter f (cond c (j ∷ filter g xs) (filter g xs)) ≡ filter g (cond b (j ∷ filter f xs) (filter f xs))
turn_about j xs true true f g d e h = ap (λ b. cond b (j ∷ filter f (filter g xs)) (filter f (filter g xs))) d ∙ (ap (λ ys. j ∷ ys) h ∙ sym (ap (λ b. cond b (j ∷ filter g (filter f xs)) (filter g (filter f xs))) e))
turn_about j xs true false f g d e h = h ∙ sym (ap (λ b. cond b (j ∷ filter g (filter f xs)) (filter g (filter f xs))) e)
turn_about j xs false true f g d e h = ap (λ b. cond b (j ∷ filter f (filter g xs)) (filter f (filter g xs))) d ∙ h
turn_about j xs false false f g d e h = h

either_way : (f g : ℕ → Bool) (xs : List ℕ) → filter f (filter g xs) ≡ filter g (filter f xs)
either_way f g [] = refl
either_way f g (x ∷ xs) = turn_about x xs (f x) (g x) f g refl refl (either_way f g xs)

-- What a test leaves out needn't be left out before.
gone_anyway : (f : ℕ → Bool) (j x : ℕ) (xs : List ℕ) (b : Bool) → (x == j) ≡ b → f j ≡ false → filter f (others j xs) ≡ filter f xs
    → filter f (cond (not b) (x ∷ others j xs) (others j xs)) ≡ cond (f x) (x ∷ filter f xs) (filter f xs)
gone_anyway f j x xs true e g h = h ∙ sym (ap (λ b. cond b (x ∷ filter f xs) (filter f xs)) (ap f (eqb-true x j e) ∙ g))
gone_anyway f j x xs false e g h = ap (λ ys. cond (f x) (x ∷ ys) ys) h

without : (f : ℕ → Bool) (j : ℕ) (xs : List ℕ) → f j ≡ false → filter f (others j xs) ≡ filter f xs
without f j [] g = refl
without f j (x ∷ xs) g = gone_anyway f j x xs (x == j) refl g (without f j xs g)

own_kept : (f : ℕ → Bool) (j x : ℕ) (xs : List ℕ) (b : Bool) → f x ≡ b → f j ≡ true → own_turns j (filter f xs) ≡ own_turns j xs
    → own_turns j (cond b (x ∷ filter f xs) (filter f xs)) ≡ own_turns j (x ∷ xs)
own_kept f j x xs true e g h = ap (λ ys. cond (x == j) (x ∷ ys) ys) h
own_kept f j x xs false e g h =
    let off : (x == j) ≡ false = false_from_ne_true (x == j) (λ same. false≢true (sym e ∙ (ap f (eqb-true x j same) ∙ g))) in
    h ∙ sym (ap (λ b. cond b (x ∷ own_turns j xs) (own_turns j xs)) off)

own_of : (f : ℕ → Bool) (j : ℕ) (xs : List ℕ) → f j ≡ true → own_turns j (filter f xs) ≡ own_turns j xs
own_of f j [] g = refl
own_of f j (x ∷ xs) g = own_kept f j x xs (f x) refl g (own_of f j xs g)

-- The serial schedule, after one more turn at the beginning.
block : (j t : ℕ) (js ts : List ℕ) (b : Bool) → (t == j) ≡ b
    → flat_map (λ i. own_turns i (j ∷ js)) (others j ts) ≡ others j (flat_map (λ i. own_turns i js) ts)
    → flat_map (λ i. own_turns i (j ∷ js)) (cond (not b) (t ∷ others j ts) (others j ts))
    ≡ others j (own_turns t js ++ flat_map (λ i. own_turns i js) ts)
block j t js ts true e h =
    let none : others j (own_turns t js) ≡ [] = all_or_none (λ i. not (i == j)) t js ∙ ap (λ b. cond (not b) (own_turns t js) []) e in
    h ∙ sym (filter-append (λ i. not (i == j)) (own_turns t js) (flat_map (λ i. own_turns i js) ts) ∙ ap (λ xs. xs ++ others j (flat_map (λ i. own_turns i js) ts)) none)
block j t js ts false e h =
    let all : others j (own_turns t js) ≡ own_turns t js = all_or_none (λ i. not (i == j)) t js ∙ ap (λ b. cond (not b) (own_turns t js) []) e in
    let off : (j == t) ≡ false = false_from_ne_true (j == t) (λ same. false≢true (sym e ∙ (ap (λ x. t == x) (eqb-true j t same) ∙ itself t))) in
    ap (λ b. cond b (j ∷ own_turns t js) (own_turns t js) ++ flat_map (λ i. own_turns i (j ∷ js)) (others j ts)) off
    ∙ (ap (λ xs. own_turns t js ++ xs) h
    ∙ sym (filter-append (λ i. not (i == j)) (own_turns t js) (flat_map (λ i. own_turns i js) ts) ∙ ap (λ xs. xs ++ others j (flat_map (λ i. own_turns i js) ts)) all))

blocks : (j : ℕ) (js ts : List ℕ) → flat_map (λ i. own_turns i (j ∷ js)) (others j ts) ≡ others j (flat_map (λ i. own_turns i js) ts)
blocks j js [] = refl
blocks j js (t ∷ ts) = block j t js ts (t == j) refl (blocks j js ts)

pub serial_first : (j : ℕ) (js : List ℕ) → serial_schedule (j ∷ js) ≡ j ∷ own_turns j js ++ others j (serial_schedule js)
serial_first j js =
    ap (λ b. cond b (j ∷ own_turns j js) (own_turns j js) ++ flat_map (λ i. own_turns i (j ∷ js)) (others j (jobs_in_order js))) (itself j)
    ∙ ap (λ xs. j ∷ own_turns j js ++ xs) (blocks j js (jobs_in_order js))

-- All turns of the job come before those of others.
abbrev Led : ℕ → List ℕ → Type 0
Led j [] = Unit {0}
Led j (x ∷ xs) = cond (x == j) (Led j xs) (own_turns j xs ≡ [])

all_others : (j : ℕ) (xs : List ℕ) → own_turns j xs ≡ [] → others j xs ≡ xs
all_others j [] e = refl
all_others j (x ∷ xs) e =
    elim (x == j) as (λ b. cond b (x ∷ own_turns j xs) (own_turns j xs) ≡ [] → cond (not b) (x ∷ others j xs) (others j xs) ≡ x ∷ xs) [
      | true ↦ λ h. cc
      | false ↦ λ h. ap (λ ys. x ∷ ys) (all_others j xs h)
    ] e

led_by : (j x : ℕ) (xs : List ℕ) (b : Bool) → (x == j) ≡ b → cond b (Led j xs) (own_turns j xs ≡ []) → (Led j xs → own_turns j xs ++ others j xs ≡ xs)
    → cond b (x ∷ own_turns j xs) (own_turns j xs) ++ cond (not b) (x ∷ others j xs) (others j xs) ≡ x ∷ xs
led_by j x xs true e l more = ap (λ ys. x ∷ ys) (more l)
led_by j x xs false e l more = ap (λ ys. ys ++ x ∷ others j xs) l ∙ ap (λ ys. x ∷ ys) (all_others j xs l)

led : (j : ℕ) (xs : List ℕ) → Led j xs → own_turns j xs ++ others j xs ≡ xs
led j [] l = refl
led j (x ∷ xs) l = led_by j x xs (x == j) refl l (led j xs)

-- No turn of the job is left.
no_turn : (j : ℕ) (xs : List ℕ) → ((c : ℕ) → slice_get xs c ≡ Some j → ⊥) → own_turns j xs ≡ []
no_turn j [] h = refl
no_turn j (x ∷ xs) h =
    let off : (x == j) ≡ false = false_from_ne_true (x == j) (λ e. h 0 (ap (λ t. Some t) (eqb-true x j e))) in
    ap (λ b. cond b (x ∷ own_turns j xs) (own_turns j xs)) off ∙ no_turn j xs (λ c e. h (suc c) e)

module _ (Clashes : ℕ → ℕ → Type 0) (turned : (i k : ℕ) → Clashes i k → Clashes k i) where
  -- Before a turn of the job, no other one that clashes with it has a turn.
  abbrev Leads : ℕ → List ℕ → Type 0
  Leads j js = (b c k : ℕ) → b < c → slice_get js b ≡ Some k → slice_get js c ≡ Some j → k ≢ j → Clashes j k → ⊥

  leads : (j : ℕ) (js : List ℕ) → NoneInterleave Clashes (j ∷ js) → Leads j js
  leads j js n b c k l e f off = n 0 (suc b) (suc c) j k (omega arith) (omega (arith, l)) refl e f off

  none_later : (j : ℕ) (js : List ℕ) → NoneInterleave Clashes (j ∷ js) → NoneInterleave Clashes js
  none_later j js n a b c i k l m e f g off = n (suc a) (suc b) (suc c) i k (omega (arith, l)) (omega (arith, m)) e f g off

  leads_later : (j x : ℕ) (js : List ℕ) → Leads j (x ∷ js) → Leads j js
  leads_later j x js n b c k l e f off = n (suc b) (suc c) k (omega (arith, l)) e f off

  -- Of two jobs that are the same or clash, another one clashes with the job.
  other_clashes : (i k j x : ℕ) → (i ≡ k) ⊎ Clashes i k → x ≢ j → (j ≡ i) ⊎ (j ≡ k) → (x ≡ i) ⊎ (x ≡ k) → Clashes j x
  other_clashes i k j x (inl same) off (inl a) (inl b) = absurd (off (b ∙ sym a))
  other_clashes i k j x (inl same) off (inl a) (inr b) = absurd (off (b ∙ (sym same ∙ sym a)))
  other_clashes i k j x (inl same) off (inr a) (inl b) = absurd (off (b ∙ (same ∙ sym a)))
  other_clashes i k j x (inl same) off (inr a) (inr b) = absurd (off (b ∙ sym a))
  other_clashes i k j x (inr clash) off (inl a) (inl b) = absurd (off (b ∙ sym a))
  other_clashes i k j x (inr clash) off (inl a) (inr b) = subst (λ y. Clashes y x) (sym a) (subst (λ y. Clashes i y) (sym b) clash)
  other_clashes i k j x (inr clash) off (inr a) (inl b) = turned x j (subst (λ y. Clashes y j) (sym b) (subst (λ y. Clashes i y) (sym a) clash))
  other_clashes i k j x (inr clash) off (inr a) (inr b) = absurd (off (b ∙ sym a))

  abbrev two : ℕ → ℕ → ℕ → Bool
  two i k t = t == i || t == k

  step_led : (i k j x : ℕ) (js : List ℕ) (b : Bool) → (x == j) ≡ b → two i k x ≡ true → (i ≡ k) ⊎ Clashes i k → two i k j ≡ true
      → Leads j (x ∷ js) → Led j (filter (two i k) js) → cond b (Led j (filter (two i k) js)) (own_turns j (filter (two i k) js) ≡ [])
  step_led i k j x js true e g h t n more = more
  step_led i k j x js false e g h t n more =
      let off : x ≢ j = λ same. false≢true (sym e ∙ (ap (λ y. y == j) same ∙ itself j)) in
      let clash = other_clashes i k j x h off (one_of i k j t) (one_of i k x g) in
      own_of (two i k) j js t ∙ no_turn j js (λ c f. n 0 (suc c) x (omega arith) refl f off clash)

  led_in : (i k j : ℕ) (js : List ℕ) → (i ≡ k) ⊎ Clashes i k → two i k j ≡ true → Leads j js → Led j (filter (two i k) js)
  led_in i k j [] h t n = tt
  led_in i k j (x ∷ js) h t n =
      let more = led_in i k j js h t (leads_later j x js n) in
      elim (two i k x) as (λ b. two i k x ≡ b → Led j (cond b (x ∷ filter (two i k) js) (filter (two i k) js))) [
        | true ↦ λ g. step_led i k j x js (x == j) refl g h t n more
        | false ↦ λ g. more
      ] refl

  of_two_by : (i k j : ℕ) (js : List ℕ) (b : Bool) → two i k j ≡ b → (i ≡ k) ⊎ Clashes i k → Leads j js
      → filter (two i k) js ≡ filter (two i k) (serial_schedule js)
      → cond b (j ∷ filter (two i k) js) (filter (two i k) js) ≡ cond b (j ∷ filter (two i k) (own_turns j js ++ others j (serial_schedule js))) (filter (two i k) (own_turns j js ++ others j (serial_schedule js)))
  of_two_by i k j js true t h n more =
      let own : filter (two i k) (own_turns j js) ≡ own_turns j js = all_or_none (two i k) j js ∙ ap (λ b. cond b (own_turns j js) []) t in
      let rest : filter (two i k) (others j (serial_schedule js)) ≡ others j (filter (two i k) js) = either_way (two i k) (λ x. not (x == j)) (serial_schedule js) ∙ ap (others j) (sym more) in
      let ordered : own_turns j js ++ others j (filter (two i k) js) ≡ filter (two i k) js =
      ap (λ xs. xs ++ others j (filter (two i k) js)) (sym (own_of (two i k) j js t)) ∙ led j (filter (two i k) js) (led_in i k j js h t n) in
      ap (λ xs. j ∷ xs) (sym (filter-append (two i k) (own_turns j js) (others j (serial_schedule js)) ∙ ((λ z. own z ++ rest z) ∙ ordered)))
  of_two_by i k j js false t h n more =
      let own : filter (two i k) (own_turns j js) ≡ [] = all_or_none (two i k) j js ∙ ap (λ b. cond b (own_turns j js) []) t in
      let rest : filter (two i k) (others j (serial_schedule js)) ≡ filter (two i k) js = without (two i k) j (serial_schedule js) t ∙ sym more in
      sym (filter-append (two i k) (own_turns j js) (others j (serial_schedule js)) ∙ (λ z. own z ++ rest z))

  pub is_serializable : (js : List ℕ) → NoneInterleave Clashes js → AreEquivalent Clashes js (serial_schedule js)
  is_serializable [] n i k h = refl
  is_serializable (j ∷ js) n i k h =
      of_two_by i k j js (two i k j) refl h (leads j js n) (is_serializable js (none_later j js n) i k h)
      ∙ ap (filter (two i k)) (sym (serial_first j js))

-- Any order of the jobs in which those that clash come in the same order.
in_order : (f : ℕ → Bool) (js L : List ℕ) → filter f (turns_by_job L js) ≡ turns_by_job (filter f L) js
in_order f js [] = refl
in_order f js (t ∷ L) =
    filter-append f (own_turns t js) (turns_by_job L js)
    ∙ ((λ i. all_or_none f t js i ++ in_order f js L i)
    ∙ elim (f t) as (λ b. cond b (own_turns t js) [] ++ turns_by_job (filter f L) js ≡ turns_by_job (cond b (t ∷ filter f L) (filter f L)) js) [ true ↦ refl | false ↦ refl ])

pub same_in_order : (Clashes : ℕ → ℕ → Type 0) (js L M : List ℕ) → AreEquivalent Clashes L M → AreEquivalent Clashes (turns_by_job L js) (turns_by_job M js)
same_in_order Clashes js L M e i k h =
    in_order (λ t. t == i || t == k) js L ∙ (ap (λ N. turns_by_job N js) (e i k h) ∙ sym (in_order (λ t. t == i || t == k) js M))
