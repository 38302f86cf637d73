-- What a job does next in its phase, and that the phase follows the log.
use Rattle.std.proofs.Common.{◌≡◌, ◌<◌, ◌≤◌, ◌+◌, ◌-◌, Bool, true, false, cond, not, ◌&&◌, ◌||◌, List, [], ◌∷◌, ◌++◌, length, take, Option, Some, None, refl, ap, sym, ◌∙◌, subst, arith, length-append, IfOk, Result, Ok, Err}
use Rattle.std.specs.Prelude.{ℕ, slice_get, unwrap_or}
use Rattle.std.specs.List.{list_any}
use Rattle.std.proofs.lemmas.Bool.{false≢true}
use Rattle.std.proofs.lemmas.List.Folds.{list_any-append, list_all-append}
use Rattle.std.proofs.lemmas.List.Sums.{sum_by_push}
use Rattle.std.proofs.lemmas.List.{take-append-le}
use Rattle.std.proofs.Math.Bool.{or-false}
use Rattle.hub_job.specs.laws.Making.{weight}
use Rattle.hub_path.specs.Path.{Path}
use Rattle.hub_path.specs.declared.side.Side.{Side}
use Rattle.hub_path.specs.declared.side.Side.TheVariants.{Left, Right}
use Rattle.hub_profile.specs.Parts.{Parts, some_passes}
use Rattle.hub_tree.specs.Tree.{Archive}
use Rattle.hub_reconcile.specs.Picture.{view_by, needed}
use Rattle.hub_job.specs.declared.op.Op.{Op}
use Rattle.hub_job.specs.declared.op.Op.TheVariants.{Look, Fetch, Set}
use Rattle.hub_job.specs.declared.op.Next.{Next}
use Rattle.hub_job.specs.declared.op.Next.TheVariants.{Ask, Finished, Stopped}
use Rattle.hub_job.specs.declared.answer.Answer.{Answer}
use Rattle.hub_job.specs.declared.answer.Answer.TheVariants.{Seen, Bytes, Done, Refused}
use Rattle.hub_job.specs.declared.log.Logged.{Logged}
use Rattle.hub_job.specs.declared.looks.Looks.{Looks}
use Rattle.hub_job.specs.declared.steps.Steps.{Steps}
use Rattle.hub_job.specs.declared.phase.Phase.{Phase}
use Rattle.hub_job.specs.declared.phase.Phase.TheVariants as phase
use Rattle.hub_job.specs.Machine.{Fits}
use Rattle.hub_job.specs.Job.{told, sights, missing, is_refused, is_look, is_ask, fetched_last, Step, steps, steps_made, ask, step_or_end, look_or, next}
use Rattle.hub_job.specs.Run.{Runs}
use Rattle.hub_job.specs.Phase.{IsWaiting, told_more, look_at, first_look, are_looks, AreLooks, AreLooksOf, AreSteps, last_refused, Follows, IsAskedIn, asked_by, IsNextIn, IsNext, is_stopped, next_step}
use Rattle.hub_job.proofs.Plans.{no_steps}
use Rattle.hub_job.specs.laws.Logs.{sights-push}
use Rattle.hub_job.proofs.Told.{AllTold, told_all, take_all, next_looks, missing_is, step_is_no_look}
use Rattle.hub_reconcile.specs.Merge.{seen_paths}

stops_not : Stopped ≡ Finished → ⊥
stops_not h = cc

asks_not : {side : Side} {op : Op} → Ask side op ≡ Finished → ⊥
asks_not h = cc

-- A Look that waits is what comes next.
look_asked : (log : List Logged) (l : Looks) (a b : Option Path) (n : Next) → look_at Left a (look_at Right b None) ≡ Some n → l.told ≡ length log → IsAskedIn log (phase.Looking l) (asked_by n)
look_asked log l (Some p) b n h same = subst (λ n. IsAskedIn log (phase.Looking l) (asked_by n)) (ap (λ o. unwrap_or o n) h) (refl, same)
look_asked log l None (Some q) n h same = subst (λ n. IsAskedIn log (phase.Looking l) (asked_by n)) (ap (λ o. unwrap_or o n) h) (refl, same)
look_asked log l None None n h same = cc

look_first_asks : (a b : Option Path) (n : Next) → look_at Left a (look_at Right b None) ≡ Some n → n ≡ Finished → ⊥
look_first_asks (Some p) b n h f = asks_not (ap (λ o. unwrap_or o n) h ∙ f)
look_first_asks None (Some q) n h f = asks_not (ap (λ o. unwrap_or o n) h ∙ f)
look_first_asks None None n h f = cc

looks_of_all : (P : Parts) (log : List Logged) (l : Looks) → AllTold P log l → AreLooksOf P log l
looks_of_all P log l h = record {
  looks = h.0.looks;
  told = subst (λ es. AreLooks P es l) (sym (take_all log l.told h.1)) h.0;
  within = omega (arith, h.1);
  one = omega (arith, h.1);
}

looking : (P : Parts) (O : Archive) (log : List Logged) (l : Looks) (n : Next) → AllTold P log l → first_look l ≡ Some n → IsNext P O log (phase.Looking l) n
looking P O log l n h f = record {
  next = sym (next_looks P O log l h.0 ∙ ap (λ o. unwrap_or o (step_or_end P O log)) f);
  follows = looks_of_all P log l h;
  asked = look_asked log l (slice_get l.left 0) (slice_get l.right 0) n f h.1;
  finished = λ e. absurd (look_first_asks (slice_get l.left 0) (slice_get l.right 0) n f e);
}

pub looking_next : (P : Parts) (O : Archive) (j : ℕ) (log : List Logged) (l : Looks) (n : Next) → Runs P O j [] log → AreLooksOf P log l → first_look (told_more l (slice_get log l.told)) ≡ Some n
    → IsNext P O log (phase.Looking (told_more l (slice_get log l.told))) n
looking_next P O j log l n r h f = looking P O log (told_more l (slice_get log l.told)) n (told_all P O j log l r h) f

-- Where nothing waits, all Looks were made.
none_first : (ps : List Path) → slice_get ps 0 ≡ None → ps ≡ []
none_first [] h = refl
none_first (p ∷ ps) h = cc

none_left : (a b : Option Path) → look_at Left a (look_at Right b None) ≡ None → (a ≡ None) × (b ≡ None)
none_left (Some p) b h = cc
none_left None (Some q) h = cc
none_left None None h = (refl, refl)

pub all_made : (P : Parts) (O : Archive) (j : ℕ) (log : List Logged) (l : Looks) → Runs P O j [] log → AreLooksOf P log l → first_look (told_more l (slice_get log l.told)) ≡ None
    → (are_looks log ≡ true) × IsWaiting P log Left [] × IsWaiting P log Right []
all_made P O j log l r h f =
    let m = told_more l (slice_get log l.told) in
    let all = told_all P O j log l r h in
    let none = none_left (slice_get m.left 0) (slice_get m.right 0) f in (
      h.looks,
      subst (λ ps. IsWaiting P log Left ps) (none_first m.left none.0) all.0.left,
      subst (λ ps. IsWaiting P log Right ps) (none_first m.right none.1) all.0.right,
    )

-- After the Looks.
less_looks : (a b c : ℕ) → a + b ≡ c → a ≡ c - b
less_looks a b c h = omega (arith, h)

next_after_looks : (P : Parts) (O : Archive) (log : List Logged) → IsWaiting P log Left [] → IsWaiting P log Right []
    → next P O log ≡ (cond (list_any (λ e. is_refused e.step.answer) log) Stopped (step_or_end P O log))
unfolding next
next_after_looks P O log wl wr =
    ap (λ o. cond (list_any (λ (e : Logged). is_refused e.step.answer) log) Stopped (look_or Left (look_or Right (step_or_end P O log) (missing P log Right)) o)) (missing_is P log Left [] wl)
    ∙ ap (λ o. cond (list_any (λ (e : Logged). is_refused e.step.answer) log) Stopped (look_or Right (step_or_end P O log) o)) (missing_is P log Right [] wr)

next_step_is : (P : Parts) (O : Archive) (log : List Logged) (s : Steps) → AreSteps P O log s → next P O log ≡ next_step s log
next_step_is P O log s h =
    next_after_looks P O log h.left h.right
    ∙ (ap (λ b. cond b Stopped (step_or_end P O log)) h.refused
    ∙ ap (λ n. cond (last_refused log) Stopped n)
    (ap (λ ss. ask (fetched_last [] log) (slice_get ss (steps_made log))) (sym h.steps)
    ∙ ap (λ i. ask (fetched_last [] log) (slice_get s.steps i)) (less_looks (steps_made log) s.looks (length log) h.made)))

step_asked : (log : List Logged) (s : Steps) (bytes : List ℕ) (o : Option Step) → IsAskedIn log (phase.Making s) (asked_by (ask bytes o))
step_asked log s bytes None = tt
step_asked log s bytes (Some x) = step_is_no_look bytes (Some x) x.side _ refl

next_asked : (log : List Logged) (s : Steps) (b : Bool) (bytes : List ℕ) (o : Option Step) → IsAskedIn log (phase.Making s) (asked_by (cond b Stopped (ask bytes o)))
next_asked log s true bytes o = tt
next_asked log s false bytes o = step_asked log s bytes o

pub making_next : (P : Parts) (O : Archive) (log : List Logged) (s : Steps) (n : Next) → AreSteps P O log s → n ≡ next_step s log → IsNext P O log (phase.Making s) n
making_next P O log s n h e = record {
  next = e ∙ sym (next_step_is P O log s h);
  follows = h;
  asked = subst (λ n. IsAskedIn log (phase.Making s) (asked_by n)) (sym e) (next_asked log s (last_refused log) (fetched_last [] log) (slice_get s.steps (length log - s.looks)));
  finished = λ _. (h.left, h.right);
}

pub stopped_next : (P : Parts) (O : Archive) (log : List Logged) → IsNext P O log phase.Stopped Stopped
stopped_next P O log = record { next = refl; follows = tt; asked = tt; finished = λ e. absurd (stops_not e) }

pub says_next : (P : Parts) (O : Archive) (log : List Logged) (p : Phase) (n : Next) → IsNextIn P O log p n → is_stopped p ≡ false → n ≡ next P O log
says_next P O log (phase.Looking l) n h s = h
says_next P O log (phase.Making x) n h s = h
says_next P O log phase.Stopped n h s = absurd (false≢true (sym s))

pub says_stopped : (P : Parts) (O : Archive) (log : List Logged) (p : Phase) (n : Next) → IsNextIn P O log p n → is_stopped p ≡ true → n ≡ Stopped
says_stopped P O log (phase.Looking l) n h s = absurd (false≢true s)
says_stopped P O log (phase.Making x) n h s = absurd (false≢true s)
says_stopped P O log phase.Stopped n h s = h

pub looks_within : (P : Parts) (O : Archive) (log : List Logged) (s : Steps) → AreSteps P O log s → s.looks ≤ length log
looks_within P O log s h = omega (arith, h.made)

-- One more entry.
no_refusal : (P : Parts) (O : Archive) (log : List Logged) (side : Side) (op : Op) → next P O log ≡ Ask side op → list_any (λ e. is_refused e.step.answer) log ≡ false
unfolding next
no_refusal P O log side op h =
    elim (list_any (λ (e : Logged). is_refused e.step.answer) log) as (λ b. cond b Stopped (look_or Left (look_or Right (step_or_end P O log) (missing P log Right)) (missing P log Left)) ≡ Ask side op → b ≡ false) [ true ↦ λ g. cc | false ↦ λ g. refl ] h

look_fits : (op : Op) (a : Answer) → is_look op ≡ true → Fits op a → (is_look op && not (is_refused a)) ≡ true
look_fits (Look d) (Seen s) h f = refl
look_fits (Look d) (Bytes b) h f = absurd f
look_fits (Look d) Done h f = absurd f
look_fits (Look d) (Refused e) h f = absurd f
look_fits (Fetch p) a h f = absurd (false≢true h)
look_fits (Set p c) a h f = absurd (false≢true h)

nothing_told : (op : Op) (a : Answer) → is_look op ≡ false → told op a ≡ []
nothing_told (Look d) a h = absurd (false≢true (sym h))
nothing_told (Fetch p) a h = refl
nothing_told (Set p c) a h = refl

get_last : (log : List Logged) (e : Logged) → slice_get (log ++ e ∷ []) (length log) ≡ Some e
get_last [] e = refl
get_last (d ∷ log) e = get_last log e

last_is : (log : List Logged) (e : Logged) → last_refused (log ++ e ∷ []) ≡ is_refused e.step.answer
last_is log e =
    let one : length (log ++ e ∷ []) - 1 ≡ length log = omega (arith, length-append log (e ∷ [])) in
    ap (λ n. some_passes (λ (e : Logged). is_refused e.step.answer) (slice_get (log ++ e ∷ []) n)) one
    ∙ ap (some_passes (λ (e : Logged). is_refused e.step.answer)) (get_last log e)

take_front : (log : List Logged) (e : Logged) (n : ℕ) → n ≡ length log → take n (log ++ e ∷ []) ≡ log
take_front log e n h = take-append-le n log (e ∷ []) (omega (arith, h)) ∙ take_all log n h

pub followed : (P : Parts) (O : Archive) (log : List Logged) (p : Phase) (e : Logged) → Follows P O log p → IsAskedIn log p (Some (record { side = e.side; op = e.step.op })) → next P O log ≡ Ask e.side e.step.op → Fits e.step.op e.step.answer
    → Follows P O (log ++ e ∷ []) p
followed P O log (phase.Looking l) e h a n f = record {
  looks = list_all-append (λ (e : Logged). is_look e.step.op && not (is_refused e.step.answer)) log (e ∷ []) ∙ (ap (λ b. b && ((is_look e.step.op && not (is_refused e.step.answer)) && true)) h.looks ∙ ap (λ b. b && true) (look_fits e.step.op e.step.answer a.0 f));
  told = subst (λ es. AreLooks P es l) (take_all log l.told a.1 ∙ sym (take_front log e l.told a.1)) h.told;
  within = omega (arith, a.1, length-append log (e ∷ []));
  one = omega (arith, a.1, length-append log (e ∷ []));
}
followed P O log (phase.Making s) e h a n f =
    let none = nothing_told e.step.op e.step.answer a in
    let same : (k : Side) → sights (log ++ e ∷ []) k ≡ sights log k = λ k. sights-push log e k none in
    let back : (k : Side) → sights log k ≡ sights (log ++ e ∷ []) k = λ k. sym (same k) in
    record {
      steps = h.steps ∙ ap steps (ap (view_by P O) (λ i k. back k i));
      made =
          let one : weight (is_look e.step.op) ≡ weight false = ap weight a in
          omega (arith, sum_by_push (λ (e : Logged). weight (is_look e.step.op)) log e, one, h.made, length-append log (e ∷ []));
      left = subst (λ ss. needed P ss ≡ seen_paths ss ++ []) (sym (same Left)) h.left;
      right = subst (λ ss. needed P ss ≡ seen_paths ss ++ []) (sym (same Right)) h.right;
      refused =
          list_any-append (λ (e : Logged). is_refused e.step.answer) log (e ∷ [])
          ∙ (ap (λ b. b || (is_refused e.step.answer || false)) (no_refusal P O log e.side e.step.op n)
          ∙ (or-false (is_refused e.step.answer) ∙ sym (last_is log e)));
    }
followed P O log phase.Stopped e h a n f = tt

-- In the code's phases.
told_follows : (P : Parts) (O : Archive) (log : List Logged) (p : Phase) (l : Looks) → Follows P O log p → p ≡ phase.Looking l → AreLooksOf P log l
told_follows P O log p l h e = subst (λ p. Follows P O log p) e h

pub looks_next : (P : Parts) (O : Archive) (log : List Logged) (p : Phase) (l m : Looks) (o : Option Next) (n : Next) → Follows P O log p → p ≡ phase.Looking l
    → ((j : ℕ) × Runs P O j [] log) → m ≡ told_more l (slice_get log l.told) → o ≡ first_look m → o ≡ Some n → IsNext P O log (phase.Looking m) n
looks_next P O log p l m o n h e r t f s =
    subst (λ m. IsNext P O log (phase.Looking m) n) (sym t)
    (looking_next P O r.0 log l n r.1 (told_follows P O log p l h e) (ap first_look (sym t) ∙ (sym f ∙ s)))

no_next : (o : Option Next) → ((n : Next) → o ≡ Some n → ⊥) → o ≡ None
no_next None h = refl
no_next (Some n) h = absurd (h n refl)

pub looks_made : (P : Parts) (O : Archive) (log : List Logged) (p : Phase) (l m : Looks) (o : Option Next) → Follows P O log p → p ≡ phase.Looking l
    → ((j : ℕ) × Runs P O j [] log) → m ≡ told_more l (slice_get log l.told) → o ≡ first_look m → ((n : Next) → o ≡ Some n → ⊥)
    → (are_looks log ≡ true) × IsWaiting P log Left [] × IsWaiting P log Right []
looks_made P O log p l m o h e r t f s =
    all_made P O r.0 log l r.1 (told_follows P O log p l h e) (ap first_look (sym t) ∙ (sym f ∙ no_next o s))

pub steps_within : (P : Parts) (O : Archive) (log : List Logged) (p : Phase) (s : Steps) → Follows P O log p → p ≡ phase.Making s → s.looks ≤ length log
steps_within P O log p s h e = looks_within P O log s (subst (λ p. Follows P O log p) e h)

pub steps_next : (P : Parts) (O : Archive) (log : List Logged) (p : Phase) (s : Steps) {E : Type 0} (r : Result Next E) → Follows P O log p → p ≡ phase.Making s
    → IfOk r (λ n. n ≡ next_step s log) → IfOk r (λ n. IsNext P O log (phase.Making s) n)
steps_next P O log p s (Ok n) h e a = making_next P O log s n (subst (λ p. Follows P O log p) e h) a
steps_next P O log p s (Err x) h e a = tt

-- A job that has made a step makes no more Looks; and after its Looks it asks the next step.
pub no_step_yet : (P : Parts) (O : Archive) (log : List Logged) (p : Phase) (l : Looks) → Follows P O log p → p ≡ phase.Looking l → 0 < steps_made log → ⊥
no_step_yet P O log p l h e made = let none : steps_made log ≡ 0 = no_steps log (told_follows P O log p l h e).looks in absurd (omega (arith, made, none))

pub asks_no_step : (P : Parts) (O : Archive) (log : List Logged) (p : Phase) (s : Steps) → Follows P O log p → p ≡ phase.Making s → is_ask (next P O log) ≡ false → is_ask (next_step s log) ≡ false
asks_no_step P O log p s h e a = sym (ap is_ask (next_step_is P O log s (subst (λ p. Follows P O log p) e h))) ∙ a

asks_nothing : (P : Parts) (O : Archive) (log : List Logged) (p : Phase) (n : Next) → IsNextIn P O log p n → is_ask (next P O log) ≡ false → is_ask n ≡ false
asks_nothing P O log (phase.Looking l) n h a = ap is_ask h ∙ a
asks_nothing P O log (phase.Making s) n h a = ap is_ask h ∙ a
asks_nothing P O log phase.Stopped n h a = ap is_ask h

pub does_not_ask : (P : Parts) (O : Archive) (log : List Logged) (p : Phase) (n : Next) → IsNext P O log p n → is_ask (next P O log) ≡ false → is_ask n ≡ false
does_not_ask P O log p n h a = asks_nothing P O log p n h.next a

pub none_asked : (n : Next) → is_ask n ≡ false → asked_by n ≡ None
none_asked (Ask side op) e = absurd (false≢true (sym e))
none_asked Finished e = refl
none_asked Stopped e = refl

pub does_next : (P : Parts) (O : Archive) (log : List Logged) (p : Phase) (n : Next) → IsNext P O log p n → is_stopped p ≡ false → n ≡ next P O log
does_next P O log p n h s = says_next P O log p n h.next s

pub does_nothing : (P : Parts) (O : Archive) (log : List Logged) (p : Phase) (n : Next) → IsNext P O log p n → is_stopped p ≡ true → n ≡ Stopped
does_nothing P O log p n h s = says_stopped P O log p n h.next s
