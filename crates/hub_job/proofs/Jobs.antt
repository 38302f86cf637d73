-- What the code of a job keeps.
use Rattle.std.proofs.Common.{◌≡◌, ◌<◌, List, [], ◌∷◌, ◌++◌, take, Option, Some, None, refl, ap, sym, ◌∙◌, subst, append-nil, arith, Result, Ok, Err}
use Rattle.std.specs.Prelude.{◌≢◌, ℕ, zero, suc, if◌then◌else◌, IfSome, is_ok, IsOk}
use Rattle.std.proofs.lemmas.Bool.{false≢true}
use Rattle.hub_job.specs.laws.Logs.{runs-push}
use Rattle.hub_path.specs.Path.{ascending}
use Rattle.hub_path.specs.declared.side.Side.{Side}
use Rattle.hub_path.specs.declared.side.Side.TheVariants.{Left, Right}
use Rattle.hub_profile.specs.Parts.{Parts}
use Rattle.hub_tree.specs.Tree.{Archive}
use Rattle.hub_reconcile.specs.Picture.{first_looks}
use Rattle.hub_job.specs.declared.op.Next.{Next}
use Rattle.hub_job.specs.declared.op.Next.TheVariants.{Ask, Finished, Stopped}
use Rattle.hub_job.specs.declared.answer.Answer.{Answer}
use Rattle.hub_job.specs.declared.asked.Asked.{Asked}
use Rattle.hub_job.specs.declared.job_end.End.TheVariants as end
use Rattle.hub_job.specs.declared.log.Logged.{Logged}
use Rattle.hub_job.specs.declared.looks.Looks.{Looks}
use Rattle.hub_job.specs.declared.phase.Phase.{Phase}
use Rattle.hub_job.specs.declared.phase.Phase.TheVariants as phase
use Rattle.hub_job.specs.Ends.{end_by}
use Rattle.hub_job.specs.Machine.{Fits}
use Rattle.hub_job.specs.Job.{next}
use Rattle.hub_job.specs.JobValue.{JobValue, IsAsked, IsRoomy, IsWhole, value_of, after_turn, log_with, stopped_job, with_answer}
use Rattle.hub_job.specs.Run.{Runs}
use Rattle.hub_job.specs.Phase.{IsWaiting, AreLooks, AreLooksOf, IsAskedIn, asked_by, IsNextIn, IsNext, is_stopped}
use Rattle.hub_job.proofs.Phases.{followed}

-- Where nothing is asked.
no_asked : (log : List Logged) (p : Phase) → IsAskedIn log p None
no_asked log (phase.Looking l) = tt
no_asked log (phase.Making s) = tt
no_asked log phase.Stopped = tt

-- A new job.
first_wait : (P : Parts) (k : Side) (ps : List (List (List ℕ))) → ps ≡ ascending (first_looks P) → IsWaiting P [] k ps
first_wait P k ps e = ap ascending (append-nil (first_looks P)) ∙ sym e

at_first : (P : Parts) (n : ℕ) (l : Looks) → l.told ≡ n → n ≡ 0 → l.left ≡ ascending (first_looks P) → l.right ≡ ascending (first_looks P) → AreLooksOf P [] l
at_first P zero l t z a b = record {
  looks = refl;
  told = subst (λ n. AreLooks P (take n []) l) (sym t) (record { looks = refl; left = first_wait P Left l.left a; right = first_wait P Right l.right b });
  within = omega (arith, t);
  one = omega arith;
}
at_first P (suc n) l t z a b = absurd (omega (arith, z))

pub new_whole : (P : Parts) (O : Archive) (j : ℕ) (log : List Logged) (l : Looks) → log ≡ [] → l.told ≡ 0 → l.left ≡ ascending (first_looks P) → l.right ≡ ascending (first_looks P)
    → IsWhole (value_of j P O log None (phase.Looking l)) (phase.Looking l)
new_whole P O j log l e t a b =
    subst (λ log. IsWhole (value_of j P O log None (phase.Looking l)) (phase.Looking l)) (sym e)
    (record { job = record { run = tt; asked = tt }; follows = at_first P 0 l t refl a b; asked = tt })

-- A turn.
asks_next : (P : Parts) (O : Archive) (log : List Logged) (n : Next) → n ≡ next P O log → IsAsked P O log (asked_by n)
asks_next P O log (Ask side op) e = sym e
asks_next P O log Finished e = tt
asks_next P O log Stopped e = tt

asked_next : (P : Parts) (O : Archive) (log : List Logged) (p : Phase) (n : Next) → IsNextIn P O log p n → IsAsked P O log (asked_by n)
asked_next P O log (phase.Looking l) n e = asks_next P O log n e
asked_next P O log (phase.Making s) n e = asks_next P O log n e
asked_next P O log phase.Stopped n e = subst (λ n. IsAsked P O log (asked_by n)) (sym e) tt

pub turned : (P : Parts) (O : Archive) (j : ℕ) (log new : List Logged) (asked : Option Asked) (p : Phase) (n : Next)
    → Runs P O j [] log → new ≡ log → asked ≡ asked_by n → IsNext P O log p n → IsWhole (value_of j P O new asked p) p
turned P O j log new asked p n r e a h =
    subst (λ log. IsWhole (value_of j P O log asked p) p) (sym e)
    (subst (λ asked. IsWhole (value_of j P O log asked p) p) (sym a)
    (record { job = record { run = r; asked = asked_next P O log p n h.next }; follows = h.follows; asked = h.asked }))

pub turned_value : (J : JobValue) (P : Parts) (O : Archive) (j : ℕ) (log new : List Logged) (old asked : Option Asked) (q p : Phase) (n : Next)
    → value_of j P O log old q ≡ J → new ≡ log → asked ≡ asked_by n → value_of j P O new asked p ≡ after_turn J (is_stopped p) n
turned_value J P O j log new old asked q p n v e a =
    ap (λ log. value_of j P O log asked p) e ∙ (ap (λ asked. value_of j P O log asked p) a ∙ ap (λ J. after_turn J (is_stopped p) n) v)

pub stopped_whole : (P : Parts) (O : Archive) (j : ℕ) (log new : List Logged) → Runs P O j [] log → new ≡ log → IsWhole (value_of j P O new None phase.Stopped) phase.Stopped
stopped_whole P O j log new r e =
    subst (λ log. IsWhole (value_of j P O log None phase.Stopped) phase.Stopped) (sym e)
    (record { job = record { run = r; asked = tt }; follows = tt; asked = tt })

pub stopped_now : (P : Parts) (O : Archive) (j : ℕ) (log new : List Logged) (asked : Option Asked) (p : Phase) (len capacity : ℕ)
    → Runs P O j [] log → new ≡ log → p ≡ phase.Stopped → asked ≡ None → IsWhole (value_of j P O new asked p) p × IsRoomy asked len capacity
stopped_now P O j log new asked p len capacity r e s a =
    subst (λ asked. IsWhole (value_of j P O new asked p) p × IsRoomy asked len capacity) (sym a)
    (subst (λ p. IsWhole (value_of j P O new None p) p) (sym s) (stopped_whole P O j log new r e), tt)

pub stopped_value : (J : JobValue) (P : Parts) (O : Archive) (j : ℕ) (log : List Logged) (old asked : Option Asked) (q p : Phase)
    → value_of j P O log old q ≡ J → p ≡ phase.Stopped → asked ≡ None → value_of j P O log asked p ≡ stopped_job J
stopped_value J P O j log old asked q p v s a =
    ap (λ p. value_of j P O log asked p) s ∙ (ap (λ asked. value_of j P O log asked phase.Stopped) a ∙ ap (λ J. stopped_job J) v)

-- An answer.
abbrev entry_of : ℕ → Asked → Answer → Logged
entry_of j a answer = record { side = a.side; step = record { job = j; op = a.op; answer = answer } }

asked_in : (log : List Logged) (p : Phase) (a : Asked) → IsAskedIn log p (Some a) → IsAskedIn log p (Some (record { side = a.side; op = a.op }))
asked_in log (phase.Looking l) a h = h
asked_in log (phase.Making s) a h = h
asked_in log phase.Stopped a h = h

taken : (P : Parts) (O : Archive) (j : ℕ) (log new : List Logged) (p : Phase) (a : Asked) (answer : Answer)
    → IsWhole (value_of j P O log (Some a) p) p → Fits a.op answer → new ≡ log ++ entry_of j a answer ∷ [] → IsWhole (value_of j P O new None p) p
taken P O j log new p a answer w f e =
    subst (λ log. IsWhole (value_of j P O log None p) p) (sym e)
    (record {
      job = record { run = runs-push P O j [] log (entry_of j a answer) w.job.run w.job.asked f refl; asked = tt };
      follows = followed P O log p (entry_of j a answer) w.follows (asked_in log p a w.asked) w.job.asked f;
      asked = no_asked (log ++ entry_of j a answer ∷ []) p;
    })

has_asked : (o : Option Asked) → o ≢ None → (o ≡ None → ⊥)
has_asked o h = h

pub taken_all : (P : Parts) (O : Archive) (j : ℕ) (log new : List Logged) (p : Phase) (o : Option Asked) (answer : Answer)
    → IsWhole (value_of j P O log o p) p → o ≢ None → IfSome o (λ a. Fits a.op answer) → new ≡ log_with j log o answer → IsWhole (value_of j P O new None p) p
taken_all P O j log new p None answer w h f e = absurd (has_asked None h refl)
taken_all P O j log new p (Some a) answer w h f e = taken P O j log new p a answer w f e

answered_value : (P : Parts) (O : Archive) (j : ℕ) (log new : List Logged) (p : Phase) (o : Option Asked) (answer : Answer)
    → new ≡ log_with j log o answer → IfSome o (λ a. value_of j P O new None p ≡ with_answer (value_of j P O log o p) a answer)
answered_value P O j log new p None answer e = tt
answered_value P O j log new p (Some a) answer e = ap (λ es. value_of j P O es None p) e

pub answered : (J : JobValue) (P : Parts) (O : Archive) (j : ℕ) (log new : List Logged) (p : Phase) (o asked : Option Asked) (answer : Answer)
    → value_of j P O log o p ≡ J → new ≡ log_with j log o answer → asked ≡ None → IfSome J.asked (λ a. value_of j P O new asked p ≡ with_answer J a answer)
answered J P O j log new p o asked answer v e n =
    subst (λ J. IfSome J.asked (λ a. value_of j P O new asked p ≡ with_answer J a answer)) v
    (subst (λ asked. IfSome o (λ a. value_of j P O new asked p ≡ with_answer (value_of j P O log o p) a answer)) (sym n)
    (answered_value P O j log new p o answer e))

-- An entry for which there is room.
pub pushed_on : {E X : Type 0} (r : Result Unit E) (old new : List X) (x : X) (len capacity : ℕ) → new ≡ (if is_ok r then old ++ x ∷ [] else old)
    → (len < capacity → IsOk r) → len < capacity → new ≡ old ++ x ∷ []
pushed_on (Ok u) old new x len capacity e k h = e
pushed_on (Err y) old new x len capacity e k h = absurd (false≢true (k h))

pub not_asked : (j : ℕ) (log : List Logged) (o : Option Asked) (answer : Answer) → ((a : Asked) → o ≡ Some a → ⊥) → log ≡ log_with j log o answer
not_asked j log None answer h = refl
not_asked j log (Some a) answer h = absurd (h a refl)

-- The end.
pub ends_as : (P : Parts) (O : Archive) (log : List Logged) (p : Phase) (n : Next) → IsNextIn P O log p n → (if is_stopped p then end.Stopped else end_by (next P O log)) ≡ end_by n
ends_as P O log (phase.Looking l) n e = ap end_by (sym e)
ends_as P O log (phase.Making s) n e = ap end_by (sym e)
ends_as P O log phase.Stopped n e = ap end_by (sym e)
