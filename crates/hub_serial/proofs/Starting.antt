-- Jobs that clash and are kept apart don't overlap in time.
use Rattle.std.proofs.Common.{◌≡◌, ◌≢◌, ◌<◌, Bool, true, false, cond, List, [], ◌∷◌, Some, refl, ap, sym, ◌∙◌, subst, arith}
use Rattle.std.specs.Prelude.{◌==◌, ℕ, zero, suc, slice_get}
use Rattle.std.proofs.lemmas.Bool.{false≢true, false_from_ne_true}
use Rattle.std.proofs.lemmas.Option.{same_Some}
use borrow.Author.Tests.{eqb-true}
use Rattle.hub_serial.specs.Schedule.{NoneInterleave}
use Rattle.hub_serial.specs.Starter.{JobEvent, JobStatus, KeepsApart, all_wait, turns_of, with_status}
use Rattle.hub_serial.specs.Starter.JobEvent.{Start, Turn, End}
use Rattle.hub_serial.specs.Starter.JobStatus.{Waiting, Running, Ended}

is_waiting : JobStatus → Bool
is_waiting Waiting = true
is_waiting Running = false
is_waiting Ended = false

is_running : JobStatus → Bool
is_running Waiting = false
is_running Running = true
is_running Ended = false

pub not_waiting : (s : JobStatus) → s ≡ Running → s ≡ Waiting → ⊥
unfolding is_waiting
not_waiting s e f = false≢true (ap is_waiting (sym e ∙ f))

pub not_over : (s : JobStatus) → s ≡ Running → s ≡ Ended → ⊥
unfolding is_running
not_over s e f = false≢true (ap is_running (sym f ∙ e))

over_not_waiting : (s : JobStatus) → s ≡ Ended → s ≡ Waiting → ⊥
unfolding is_waiting
over_not_waiting s e f = false≢true (ap is_waiting (sym e ∙ f))

waiting_now : Running ≡ Waiting → ⊥
waiting_now e = not_waiting Running refl e

stays : (b : Bool) (s t u : JobStatus) → b ≡ false → t ≡ u → cond b s t ≡ u
stays true s t u e h = absurd (false≢true (sym e))
stays false s t u e h = h

stays_ended : (b : Bool) (t : JobStatus) → t ≡ Ended → cond b Ended t ≡ Ended
stays_ended true t h = refl
stays_ended false t h = h

ran_before : (b : Bool) (t : JobStatus) → cond b Ended t ≡ Running → (b ≡ false → t ≡ Running → ⊥) → ⊥
ran_before true t e f = not_over Ended e refl
ran_before false t e f = f refl e

module _ (Clashes : ℕ → ℕ → Type 0) (turned : (i k : ℕ) → Clashes i k → Clashes k i) where
  -- No two jobs that run clash.
  abbrev pub NoneRunsWith : (ℕ → JobStatus) → Type 0
  NoneRunsWith at = (i k : ℕ) → at i ≡ Running → at k ≡ Running → i ≢ k → Clashes i k → ⊥

  unlike : (at : ℕ → JobStatus) (i j : ℕ) → at j ≡ Waiting → (at i ≡ Waiting → ⊥) → (i == j) ≡ false
  unlike at i j w f = false_from_ne_true (i == j) (λ e. f (ap at (eqb-true i j e) ∙ w))

  started_by : (at : ℕ → JobStatus) (j i k : ℕ) (b c : Bool) → NoneRunsWith at → ((k : ℕ) → at k ≡ Running → Clashes j k → ⊥)
      → (i == j) ≡ b → (k == j) ≡ c → cond b Running (at i) ≡ Running → cond c Running (at k) ≡ Running → i ≢ k → Clashes i k → ⊥
  started_by at j i k true true n free e f g h off clash = off (eqb-true i j e ∙ sym (eqb-true k j f))
  started_by at j i k true false n free e f g h off clash = free k h (subst (λ x. Clashes x k) (eqb-true i j e) clash)
  started_by at j i k false true n free e f g h off clash = free i g (turned i j (subst (λ x. Clashes i x) (eqb-true k j f) clash))
  started_by at j i k false false n free e f g h off clash = n i k g h off clash

  pub started : (at : ℕ → JobStatus) (j : ℕ) → NoneRunsWith at → ((k : ℕ) → at k ≡ Running → Clashes j k → ⊥) → NoneRunsWith (with_status at j Running)
  started at j n free i k g h off clash = started_by at j i k (i == j) (k == j) n free refl refl g h off clash

  pub ended : (at : ℕ → JobStatus) (j : ℕ) → NoneRunsWith at → NoneRunsWith (with_status at j Ended)
  ended at j n i k g h off clash = ran_before (i == j) (at i) g (λ e r. ran_before (k == j) (at k) h (λ f s. n i k r s off clash))

  -- A job that has ended has no more turns.
  no_more : (at : ℕ → JobStatus) (es : List JobEvent) (i c : ℕ) → KeepsApart Clashes at es → at i ≡ Ended → slice_get (turns_of es) c ≡ Some i → ⊥
  no_more at [] i c rule o e = cc
  no_more at (Start j ∷ es) i c rule o e =
      no_more (with_status at j Running) es i c rule.2 (stays (i == j) Running (at i) Ended (unlike at i j rule.0 (over_not_waiting (at i) o)) o) e
  no_more at (Turn j ∷ es) i zero rule o e = not_over (at i) (ap at (sym (same_Some j i e)) ∙ rule.0) o
  no_more at (Turn j ∷ es) i (suc c) rule o e = no_more at es i c rule.1 o e
  no_more at (End j ∷ es) i c rule o e = no_more (with_status at j Ended) es i c rule (stays_ended (i == j) (at i) o) e

  -- Before a turn of a job that runs, no other one that clashes with it has a turn.
  later_by : (at : ℕ → JobStatus) (es : List JobEvent) (j i b c k : ℕ) (x : Bool) → (i == j) ≡ x → KeepsApart Clashes (with_status at j Ended) es
      → (cond x Ended (at i) ≡ Running → Clashes i k → ⊥) → at i ≡ Running → slice_get (turns_of es) c ≡ Some i → Clashes i k → ⊥
  later_by at es j i b c k true e rule more r f clash =
      no_more (with_status at j Ended) es i c rule (ap (λ x. cond x Ended (at i)) e) f
  later_by at es j i b c k false e rule more r f clash = more r clash

  leads : (at : ℕ → JobStatus) (es : List JobEvent) (i b c k : ℕ) → NoneRunsWith at → KeepsApart Clashes at es → at i ≡ Running
      → b < c → slice_get (turns_of es) b ≡ Some k → slice_get (turns_of es) c ≡ Some i → k ≢ i → Clashes i k → ⊥
  leads at [] i b c k n rule r l e f off clash = cc
  leads at (Start j ∷ es) i b c k n rule r l e f off clash =
      leads (with_status at j Running) es i b c k (started at j n rule.1) rule.2
      (stays (i == j) Running (at i) Running (unlike at i j rule.0 (not_waiting (at i) r)) r) l e f off clash
  leads at (Turn j ∷ es) i zero c k n rule r l e f off clash =
      n i k r (ap at (sym (same_Some j k e)) ∙ rule.0) (λ h. off (sym h)) clash
  leads at (Turn j ∷ es) i (suc b) zero k n rule r l e f off clash = absurd (omega (arith, l))
  leads at (Turn j ∷ es) i (suc b) (suc c) k n rule r l e f off clash = leads at es i b c k n rule.1 r (omega (arith, l)) e f off clash
  leads at (End j ∷ es) i b c k n rule r l e f off clash =
      later_by at es j i b c k (i == j) refl rule
      (λ g h. leads (with_status at j Ended) es i b c k (ended at j n) rule g l e f off h) r f clash

  no_overlap : (at : ℕ → JobStatus) (es : List JobEvent) → NoneRunsWith at → KeepsApart Clashes at es → NoneInterleave Clashes (turns_of es)
  no_overlap at [] n rule a b c i k l m e f g off clash = cc
  no_overlap at (Start j ∷ es) n rule a b c i k l m e f g off clash =
      no_overlap (with_status at j Running) es (started at j n rule.1) rule.2 a b c i k l m e f g off clash
  no_overlap at (Turn j ∷ es) n rule zero zero c i k l m e f g off clash = absurd (omega (arith, l))
  no_overlap at (Turn j ∷ es) n rule zero (suc b) zero i k l m e f g off clash = absurd (omega (arith, m))
  no_overlap at (Turn j ∷ es) n rule zero (suc b) (suc c) i k l m e f g off clash =
      leads at es i b c k n rule.1 (ap at (sym (same_Some j i e)) ∙ rule.0) (omega (arith, m)) f g off clash
  no_overlap at (Turn j ∷ es) n rule (suc a) zero c i k l m e f g off clash = absurd (omega (arith, l))
  no_overlap at (Turn j ∷ es) n rule (suc a) (suc b) zero i k l m e f g off clash = absurd (omega (arith, m))
  no_overlap at (Turn j ∷ es) n rule (suc a) (suc b) (suc c) i k l m e f g off clash =
      no_overlap at es n rule.1 a b c i k (omega (arith, l)) (omega (arith, m)) e f g off clash
  no_overlap at (End j ∷ es) n rule a b c i k l m e f g off clash =
      no_overlap (with_status at j Ended) es (ended at j n) rule a b c i k l m e f g off clash

  pub rule_keeps_apart : (es : List JobEvent) → KeepsApart Clashes all_wait es → NoneInterleave Clashes (turns_of es)
  rule_keeps_apart es rule = no_overlap all_wait es (λ i k r s off clash. not_waiting Waiting (sym (sym r)) refl) rule
