-- How many turns of a schedule a job keeps, if it is stopped after some of them.
use Rattle.std.proofs.Common.{◌≡◌, ◌<◌, ◌≤◌, ◌+◌, ◌-◌, Bool, true, false, cond, List, [], ◌∷◌, refl, ap, sym, ◌∙◌, arith, eq-eqb}
use Rattle.std.specs.Prelude.{◌==◌, ℕ, zero, suc, if◌then◌else◌, count_by, replicate}
use Rattle.std.proofs.lemmas.Bool.{false≢true, eqb-true, ne_eqb}
use Rattle.std.proofs.lemmas.List.Sums.{sum_by-cons}
use Rattle.hub_job.specs.Same.{own_turns}
use Rattle.hub_job.specs.World.{first_turns}

abbrev pub weight : Bool → ℕ
weight b = cond b 1 0

-- The limits after a turn of job i.
abbrev pub less : (ℕ → ℕ) → ℕ → ℕ → ℕ
less limit i = λ k. if k == i then limit k - 1 else limit k

abbrev pub count : ℕ → List ℕ → ℕ
count j js = count_by (λ i. i == j) js

pub count_first : (j i : ℕ) (js : List ℕ) → count j (i ∷ js) ≡ weight (i == j) + count j js
count_first j i js = sum_by-cons (λ (k : ℕ). cond (k == j) 1 0) i js

one_there : (w c x l : ℕ) → x ≡ w + c → w ≡ 1 → x ≤ l → 1 + c ≤ l
one_there w c x l e one h = omega (arith, e, one, h)

none_there : (w c x l : ℕ) → x ≡ w + c → w ≡ 0 → x ≤ l → c ≤ l
none_there w c x l e none h = omega (arith, e, none, h)

both_more : (w a b x y : ℕ) → x ≡ w + a → y ≡ w + b → a ≤ b → x ≤ y
both_more w a b x y e f h = omega (arith, e, f, h)

still_less : (w a b y : ℕ) → y ≡ w + b → a ≤ b → a ≤ y
still_less w a b y f h = omega (arith, f, h)

one_more : (w a x n : ℕ) → x ≡ w + a → w ≡ 1 → a ≡ n → x ≡ suc n
one_more w a x n e one h = omega (arith, e, one, h)

less_here : (limit : ℕ → ℕ) (i j : ℕ) → (i == j) ≡ true → less limit i j ≡ limit j - 1
less_here limit i j e = ap (λ b. cond b (limit j - 1) (limit j)) (eq-eqb j i (sym (eqb-true i j e)))

less_there : (limit : ℕ → ℕ) (i j : ℕ) → (i == j) ≡ false → less limit i j ≡ limit j
less_there limit i j e = ap (λ b. cond b (limit j - 1) (limit j)) (ne_eqb j i (λ h. false≢true (sym e ∙ eq-eqb i j (sym h))))

has_turns : (limit : ℕ → ℕ) (i j c : ℕ) → (i == j) ≡ true → 1 + c ≤ limit j → (limit i == 0) ≡ true → ⊥
has_turns limit i j c e h z =
    let none : limit i ≡ 0 = eqb-true (limit i) 0 z in
    let same : limit i ≡ limit j = ap limit (eqb-true i j e) in
    absurd (omega (arith, h, none, same))

-- A job that has as many turns left keeps all its turns.
abbrev Keeps : ℕ → List ℕ → Type 0
Keeps j js = (limit : ℕ → ℕ) → count j js ≤ limit j → own_turns j (first_turns limit js) ≡ own_turns j js

own_first : (j i : ℕ) (js : List ℕ) (limit : ℕ → ℕ) (a : Bool) → (i == j) ≡ true → (limit i == 0) ≡ a → Keeps j js → 1 + count j js ≤ limit j
    → own_turns j (cond a (first_turns limit js) (i ∷ first_turns (less limit i) js)) ≡ i ∷ own_turns j js
own_first j i js limit true e z more h = absurd (has_turns limit i j (count j js) e h z)
own_first j i js limit false e z more h =
    let here = less_here limit i j e in
    ap (λ b. cond b (i ∷ own_turns j (first_turns (less limit i) js)) (own_turns j (first_turns (less limit i) js))) e
    ∙ ap (λ ks. i ∷ ks) (more (less limit i) (omega (arith, h, here)))

other_first : (j i : ℕ) (js : List ℕ) (limit : ℕ → ℕ) (a : Bool) → (i == j) ≡ false → (limit i == 0) ≡ a → Keeps j js → count j js ≤ limit j
    → own_turns j (cond a (first_turns limit js) (i ∷ first_turns (less limit i) js)) ≡ own_turns j js
other_first j i js limit true e z more h = more limit h
other_first j i js limit false e z more h =
    let there = less_there limit i j e in
    ap (λ b. cond b (i ∷ own_turns j (first_turns (less limit i) js)) (own_turns j (first_turns (less limit i) js))) e
    ∙ more (less limit i) (omega (arith, h, there))

keeps_by : (j i : ℕ) (js : List ℕ) (b : Bool) → (i == j) ≡ b → Keeps j js → Keeps j (i ∷ js)
keeps_by j i js true e more = λ limit h.
    own_first j i js limit (limit i == 0) e refl more (one_there (weight (i == j)) (count j js) (count j (i ∷ js)) (limit j) (count_first j i js) (ap weight e) h)
    ∙ sym (ap (λ b. cond b (i ∷ own_turns j js) (own_turns j js)) e)
keeps_by j i js false e more = λ limit h.
    other_first j i js limit (limit i == 0) e refl more (none_there (weight (i == j)) (count j js) (count j (i ∷ js)) (limit j) (count_first j i js) (ap weight e) h)
    ∙ sym (ap (λ b. cond b (i ∷ own_turns j js) (own_turns j js)) e)

pub keeps : (j : ℕ) (js : List ℕ) (limit : ℕ → ℕ) → count_by (λ i. i == j) js ≤ limit j → own_turns j (first_turns limit js) ≡ own_turns j js
keeps j [] limit h = refl
keeps j (i ∷ js) limit h = keeps_by j i js (i == j) refl (keeps j js) limit h

-- It never has more turns than the schedule gives it.
pub fewer : (j : ℕ) (js : List ℕ) (limit : ℕ → ℕ) → count_by (λ i. i == j) (first_turns limit js) ≤ count_by (λ i. i == j) js
fewer j [] limit = omega arith
fewer j (i ∷ js) limit =
    elim (limit i == 0) as (λ a. count j (cond a (first_turns limit js) (i ∷ first_turns (less limit i) js)) ≤ count j (i ∷ js)) [
      | true ↦ still_less (weight (i == j)) (count j (first_turns limit js)) (count j js) (count j (i ∷ js)) (count_first j i js) (fewer j js limit)
      | false ↦ both_more (weight (i == j)) (count j (first_turns (less limit i) js)) (count j js) (count j (i ∷ first_turns (less limit i) js)) (count j (i ∷ js))
          (count_first j i (first_turns (less limit i) js)) (count_first j i js) (fewer j js (less limit i))
    ]

-- It never has more turns than it has left.
limit_here : (w c x l m : ℕ) → x ≡ w + c → w ≡ 1 → m ≡ l - 1 → 0 < l → c ≤ m → x ≤ l
limit_here w c x l m e one less some h = omega (arith, e, one, less, some, h)

limit_there : (w c x l m : ℕ) → x ≡ w + c → w ≡ 0 → m ≡ l → c ≤ m → x ≤ l
limit_there w c x l m e none same h = omega (arith, e, none, same, h)

some_left : (n : ℕ) → (n == 0) ≡ false → 0 < n
some_left zero e = absurd (false≢true (sym e ∙ eq-eqb 0 0 refl))
some_left (suc n) e = omega arith

within_first : (j i : ℕ) (js : List ℕ) (limit : ℕ → ℕ) → (limit i == 0) ≡ false → (b : Bool) → (i == j) ≡ b → count j (first_turns (less limit i) js) ≤ less limit i j
    → count j (i ∷ first_turns (less limit i) js) ≤ limit j
within_first j i js limit z true e h =
    let rest = first_turns (less limit i) js in
    limit_here (weight (i == j)) (count j rest) (count j (i ∷ rest)) (limit j) (less limit i j) (count_first j i rest) (ap weight e) (less_here limit i j e)
    (some_left (limit j) (sym (ap (λ k. limit k == 0) (eqb-true i j e)) ∙ z)) h
within_first j i js limit z false e h =
    let rest = first_turns (less limit i) js in
    limit_there (weight (i == j)) (count j rest) (count j (i ∷ rest)) (limit j) (less limit i j) (count_first j i rest) (ap weight e) (less_there limit i j e) h

within_by : (j i : ℕ) (js : List ℕ) (limit : ℕ → ℕ) (a : Bool) → (limit i == 0) ≡ a → ((m : ℕ → ℕ) → count j (first_turns m js) ≤ m j)
    → count j (cond a (first_turns limit js) (i ∷ first_turns (less limit i) js)) ≤ limit j
within_by j i js limit true z more = more limit
within_by j i js limit false z more = within_first j i js limit z (i == j) refl (more (less limit i))

pub within_limit : (j : ℕ) (js : List ℕ) (limit : ℕ → ℕ) → count_by (λ i. i == j) (first_turns limit js) ≤ limit j
within_limit j [] limit = omega arith
within_limit j (i ∷ js) limit = within_by j i js limit (limit i == 0) refl (λ m. within_limit j js m)

-- The schedule of one job alone.
pub count_alone : (j n : ℕ) → count_by (λ i. i == j) (replicate n j) ≡ n
count_alone j zero = refl
count_alone j (suc n) =
    one_more (weight (j == j)) (count j (replicate n j)) (count j (j ∷ replicate n j)) n (count_first j j (replicate n j)) (ap weight (eq-eqb j j refl)) (count_alone j n)

alone_by : (j n : ℕ) (limit : ℕ → ℕ) (a : Bool) → (limit j == 0) ≡ a → suc n ≤ limit j → ((m : ℕ → ℕ) → n ≤ m j → first_turns m (replicate n j) ≡ replicate n j)
    → cond a (first_turns limit (replicate n j)) (j ∷ first_turns (less limit j) (replicate n j)) ≡ j ∷ replicate n j
alone_by j n limit true z h more = let none : limit j ≡ 0 = eqb-true (limit j) 0 z in absurd (omega (arith, h, none))
alone_by j n limit false z h more = let here = less_here limit j j (eq-eqb j j refl) in ap (λ js. j ∷ js) (more (less limit j) (omega (arith, h, here)))

pub all_turns : (j n : ℕ) (limit : ℕ → ℕ) → n ≤ limit j → first_turns limit (replicate n j) ≡ replicate n j
all_turns j zero limit h = refl
all_turns j (suc n) limit h = alone_by j n limit (limit j == 0) refl h (λ m l. all_turns j n m l)
