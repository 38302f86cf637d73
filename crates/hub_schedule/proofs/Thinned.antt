-- The turns of a schedule that jobs lose, turn by turn.
use Rattle.std.proofs.Common.{◌≡◌, ◌≤◌, ◌<◌, ◌+◌, ◌-◌, subst, Bool, true, false, cond, List, [], ◌∷◌, refl, ap, sym, ◌∙◌, arith, eq-eqb}
use Rattle.std.specs.Prelude.{◌==◌, ℕ, if◌then◌else◌}
use Rattle.std.proofs.lemmas.Bool.{false≢true, false_from_ne_true, eqb-true, ne_eqb}
use Rattle.hub_schedule.specs.declared.slot.Slot.{Slot}
use Rattle.hub_schedule.specs.declared.slot.WorkingTree.{WorkingTree}
use Rattle.hub_schedule.specs.Table.{HaveTurned, ShowsWorld, IsThinned, StayStopped, Taken, stopped_at}
use Rattle.hub_job.specs.World.{World, Jobs, turn, run, first_turns}
use Rattle.hub_schedule.proofs.Turns.{weight, less, count, count_first}

pub thinned_none : (J : Jobs) (w : World) (stopped : ℕ → Bool) → IsThinned J w w [] stopped stopped
unfolding run
thinned_none J w stopped = record { limit = λ j. 0; world = refl; none = λ j h. refl; all = λ j h. omega arith; lost = λ j a b. absurd (false≢true (sym a ∙ b)); stays = λ j h. h }

no_weight : (w c x l : ℕ) → x ≡ w + c → w ≡ 0 → c ≤ l → x ≤ l
no_weight w c x l e none h = omega (arith, e, none, h)

one_weight : (w c x l m : ℕ) → x ≡ w + c → w ≡ 1 → m ≡ l + 1 → c ≤ l → x ≤ m
one_weight w c x l m e one more h = omega (arith, e, one, more, h)

-- A turn of a job that is stopped is lost.
lost_first : (limit : ℕ → ℕ) (i : ℕ) (js : List ℕ) → limit i ≡ 0 → first_turns limit (i ∷ js) ≡ first_turns limit js
lost_first limit i js none = ap (λ b. cond b (first_turns limit js) (i ∷ first_turns (less limit i) js)) (eq-eqb (limit i) 0 none)

lost_all : (i j : ℕ) (js : List ℕ) (l : ℕ) (b : Bool) → (i == j) ≡ b → (i ≡ j → ⊥) → count j js ≤ l → count j (i ∷ js) ≤ l
lost_all i j js l true e off h = absurd (off (eqb-true i j e))
lost_all i j js l false e off h = no_weight (weight (i == j)) (count j js) (count j (i ∷ js)) l (count_first j i js) (ap weight e) h

-- Between two turns no job is stopped but the one that has a turn.
abbrev pub OneStops : ℕ → (ℕ → Bool) → (ℕ → Bool) → Type 0
OneStops i before now = (j : ℕ) → now j ≡ true → before j ≡ false → j ≡ i

still_going : (i j : ℕ) (before now : ℕ → Bool) → OneStops i before now → (i == j) ≡ false → before j ≡ false → now j ≡ false
still_going i j before now one e h = false_from_ne_true (now j) (λ g. false≢true (sym e ∙ eq-eqb i j (sym (one j g h))))

first_lost : (w c x l : ℕ) → x ≡ w + c → w ≡ 1 → l ≡ 0 → l < x
first_lost w c x l e one none = omega (arith, e, one, none)

later_lost : (w c x l : ℕ) → x ≡ w + c → l < c → l < x
later_lost w c x l e h = omega (arith, e, h)

lost_less : (limit : ℕ → ℕ) (i j : ℕ) (js : List ℕ) (before now : ℕ → Bool) → OneStops i before now → limit i ≡ 0 → (b : Bool) → (i == j) ≡ b → before j ≡ false → (now j ≡ false → limit j < count j js)
    → limit j < count j (i ∷ js)
lost_less limit i j js before now one none true e h more =
    first_lost (weight (i == j)) (count j js) (count j (i ∷ js)) (limit j) (count_first j i js) (ap weight e) (ap limit (sym (eqb-true i j e)) ∙ none)
lost_less limit i j js before now one none false e h more = later_lost (weight (i == j)) (count j js) (count j (i ∷ js)) (limit j) (count_first j i js) (more (still_going i j before now one e h))

pub thinned_lost : (J : Jobs) (w v : World) (i : ℕ) (js : List ℕ) (before now after : ℕ → Bool) → StayStopped before now → OneStops i before now → now i ≡ true → IsThinned J w v js now after
    → IsThinned J w v (i ∷ js) before after
thinned_lost J w v i js before now after stays one stopped t = record {
  limit = t.limit;
  world = t.world ∙ ap (λ ks. run J ks w) (sym (lost_first t.limit i js (t.none i stopped)));
  none = λ j h. t.none j (stays j h);
  all = λ j h. lost_all i j js (t.limit j) (i == j) refl (λ e. false≢true (sym h ∙ (ap after (sym e) ∙ t.stays i stopped))) (t.all j h);
  lost = λ j a b. lost_less t.limit i j js before now one (t.none i stopped) (i == j) refl a (λ g. t.lost j g b);
  stays = λ j h. t.stays j (stays j h);
}

-- The limits before a turn of job i.
abbrev more : (ℕ → ℕ) → ℕ → ℕ → ℕ
more limit i = λ k. if k == i then limit k + 1 else limit k

more_here : (limit : ℕ → ℕ) (i j : ℕ) → (i == j) ≡ true → more limit i j ≡ limit j + 1
more_here limit i j e = ap (λ b. cond b (limit j + 1) (limit j)) (eq-eqb j i (sym (eqb-true i j e)))

more_there : (limit : ℕ → ℕ) (i j : ℕ) → (i ≡ j → ⊥) → more limit i j ≡ limit j
more_there limit i j off = ap (λ b. cond b (limit j + 1) (limit j)) (ne_eqb j i (λ h. off (sym h)))

and_back : (n : ℕ) → n + 1 - 1 ≡ n
and_back n = omega arith

less_more : (limit : ℕ → ℕ) (i k : ℕ) → less (more limit i) i k ≡ limit k
less_more limit i k =
    elim (k == i) as (λ b. cond b (cond b (limit k + 1) (limit k) - 1) (cond b (limit k + 1) (limit k)) ≡ limit k) [
      | true ↦ and_back (limit k)
      | false ↦ refl
    ]

some_left : (m l : ℕ) → m ≡ l + 1 → m ≡ 0 → ⊥
some_left m l e z = absurd (omega (arith, e, z))

made_first : (limit : ℕ → ℕ) (i : ℕ) (js : List ℕ) → first_turns (more limit i) (i ∷ js) ≡ i ∷ first_turns limit js
made_first limit i js =
    ap (λ b. cond b (first_turns (more limit i) js) (i ∷ first_turns (less (more limit i) i) js))
    (ne_eqb (more limit i i) 0 (some_left (more limit i i) (limit i) (more_here limit i i (eq-eqb i i refl))))
    ∙ ap (λ (l : ℕ → ℕ). i ∷ first_turns l js) (λ x k. less_more limit i k x)

within_by : (a b c : ℕ) → b ≡ c → a ≤ c → a ≤ b
within_by a b c e h = omega (arith, e, h)

made_all : (limit : ℕ → ℕ) (i j : ℕ) (js : List ℕ) (b : Bool) → (i == j) ≡ b → count j js ≤ limit j → count j (i ∷ js) ≤ more limit i j
made_all limit i j js true e h = one_weight (weight (i == j)) (count j js) (count j (i ∷ js)) (limit j) (more limit i j) (count_first j i js) (ap weight e) (more_here limit i j e) h
made_all limit i j js false e h =
    let off : i ≡ j → ⊥ = λ s. false≢true (sym e ∙ eq-eqb i j s) in
    no_weight (weight (i == j)) (count j js) (count j (i ∷ js)) (more limit i j) (count_first j i js) (ap weight e) (within_by (count j js) (more limit i j) (limit j) (more_there limit i j off) h)

first_made : (w c x l m : ℕ) → x ≡ w + c → w ≡ 1 → m ≡ l + 1 → l < c → m < x
first_made w c x l m e one more h = omega (arith, e, one, more, h)

later_made : (w c x l m : ℕ) → x ≡ w + c → m ≡ l → l < c → m < x
later_made w c x l m e same h = omega (arith, e, same, h)

made_less : (limit : ℕ → ℕ) (i j : ℕ) (js : List ℕ) (before now : ℕ → Bool) → OneStops i before now → now i ≡ false → (b : Bool) → (i == j) ≡ b → before j ≡ false → (now j ≡ false → limit j < count j js)
    → more limit i j < count j (i ∷ js)
made_less limit i j js before now one going true e h left =
    first_made (weight (i == j)) (count j js) (count j (i ∷ js)) (limit j) (more limit i j) (count_first j i js) (ap weight e) (more_here limit i j e) (left (ap now (sym (eqb-true i j e)) ∙ going))
made_less limit i j js before now one going false e h left =
    later_made (weight (i == j)) (count j js) (count j (i ∷ js)) (limit j) (more limit i j) (count_first j i js) (more_there limit i j (λ s. false≢true (sym e ∙ eq-eqb i j s)))
    (left (still_going i j before now one e h))

-- Any other turn is made.
pub thinned_made : (J : Jobs) (w v : World) (i : ℕ) (js : List ℕ) (before now after : ℕ → Bool) → StayStopped before now → OneStops i before now → now i ≡ false → IsThinned J (turn J i w) v js now after
    → IsThinned J w v (i ∷ js) before after
unfolding run
thinned_made J w v i js before now after stays one going t = record {
  limit = more t.limit i;
  world = t.world ∙ ap (λ ks. run J ks w) (sym (made_first t.limit i js));
  none = λ j h. more_there t.limit i j (λ e. false≢true (sym going ∙ (ap now e ∙ stays j h))) ∙ t.none j (stays j h);
  all = λ j h. made_all t.limit i j js (i == j) refl (t.all j h);
  lost = λ j a b. made_less t.limit i j js before now one going (i == j) refl a (λ g. t.lost j g b);
  stays = λ j h. t.stays j (stays j h);
}

-- The turns that are left, told in another way.
pub taken_as : {s0 s1 : List Slot} {t0 t1 : List WorkingTree} {js ks ls : List ℕ} → ks ≡ ls → Taken s0 t0 js s1 t1 ks → Taken s0 t0 js s1 t1 ls
taken_as {s0} {s1} {t0} {t1} {js} e taken = subst (λ ks. Taken s0 t0 js s1 t1 ks) e taken

module _ {slots slots_now slots_next : List Slot} {trees trees_now trees_next : List WorkingTree} {schedule rest : List ℕ} {j : ℕ} (taken : Taken slots trees schedule slots_now trees_now (j ∷ rest))
    (turns : (J : Jobs) (w : World) → ShowsWorld J w slots_now trees_now → ShowsWorld J (if stopped_at slots_next j then w else turn J j w) slots_next trees_next) (stays : StayStopped (stopped_at slots_now) (stopped_at slots_next)) (one : OneStops j (stopped_at slots_now) (stopped_at slots_next)) where
  by : (J : Jobs) (w v : World) → (b : Bool) → stopped_at slots_next j ≡ b → ShowsWorld J (if b then v else turn J j v) slots_next trees_next
      → ((u : World) (after : ℕ → Bool) → IsThinned J v u (j ∷ rest) (stopped_at slots_now) after → IsThinned J w u schedule (stopped_at slots) after)
      → (x : World) × ShowsWorld J x slots_next trees_next × ((u : World) (after : ℕ → Bool) → IsThinned J x u rest (stopped_at slots_next) after → IsThinned J w u schedule (stopped_at slots) after)
  by J w v true e table more = (v, table, λ u after h. more u after (thinned_lost J v u j rest (stopped_at slots_now) (stopped_at slots_next) after stays one e h))
  by J w v false e table more = (turn J j v, table, λ u after h. more u after (thinned_made J v u j rest (stopped_at slots_now) (stopped_at slots_next) after stays one e h))

  pub taken_more : Taken slots trees schedule slots_next trees_next rest
  taken_more = λ J w table. let x = taken J w table in by J w x.0 (stopped_at slots_next j) refl (turns J x.0 x.1) x.2

pub taken_all : {slots now : List Slot} {trees trees_now : List WorkingTree} {schedule : List ℕ} → Taken slots trees schedule now trees_now [] → HaveTurned slots trees schedule now trees_now
taken_all {now} taken = λ J w table. let x = taken J w table in (x.0, x.1, x.2 x.0 (stopped_at now) (thinned_none J x.0 (stopped_at now)))
