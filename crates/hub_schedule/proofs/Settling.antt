-- The histories of a world and the logs of its jobs fit together, whatever the schedule is.
use Rattle.std.proofs.Common.{◌≡◌, ◌≢◌, ◌<◌, Bool, true, false, cond, List, [], ◌∷◌, ◌++◌, length, map, Option, Some, None, refl, ap, sym, ◌∙◌, subst, arith, length-set, eq-eqb}
use Rattle.std.specs.Prelude.{◌==◌, ℕ, zero, suc, slice_get, slice_index_or, filter}
use Rattle.std.proofs.lemmas.List.{append-nil, map-append, get_or-set_same, get_or-set_other}
use Rattle.std.proofs.lemmas.List.Elements.{filter-append}
use Rattle.std.proofs.lemmas.Bool.{false≢true}
use Rattle.std.proofs.lemmas.Option.{same_Some, slice_get_within}
use Rattle.hub_job.specs.laws.Histories.{replay-push, legal-push}
use Rattle.hub_job.specs.laws.Logs.{runs-push, no_log}
use Rattle.hub_reconcile.specs.laws.Views.{same_paths}
use borrow.Author.Tests.{eqb-true}
use Rattle.hub_path.specs.Path.{Path, path_eq}
use Rattle.hub_path.specs.declared.side.Side.{Side}
use Rattle.hub_profile.specs.Parts.{Parts, at_side, is_root_at}
use Rattle.hub_tree.specs.Tree.{Replica, contents_at, set_fault}
use Rattle.hub_tree.specs.declared.contents.Contents.{Contents}
use Rattle.hub_tree.specs.declared.contents.Contents.TheVariants as contents
use Rattle.hub_tree.specs.declared.fault.SetFault.{SetFault}
use Rattle.hub_job.specs.declared.op.Op.{Op}
use Rattle.hub_job.specs.declared.op.Op.TheVariants.{Look, Fetch, Set}
use Rattle.hub_job.specs.declared.op.Next.{Next}
use Rattle.hub_job.specs.declared.op.Next.TheVariants.{Ask, Finished, Stopped}
use Rattle.hub_job.specs.declared.log.Entry.{Entry}
use Rattle.hub_job.specs.declared.log.Logged.{Logged}
use Rattle.hub_job.specs.Machine.{answer, after, fetched, done_unless, Fits}
use Rattle.hub_job.specs.Job.{next}
use Rattle.hub_job.specs.Run.{Runs}
use Rattle.hub_job.specs.World.{World, Jobs, log_of, entry, event, act, turn_of, turn, run, opening}
use Rattle.hub_job.specs.History.{replay, IsAnswerOf, IsLegal, entries_of, entries_at}
use Rattle.hub_schedule.specs.Settled.{IsSettledWorld}
use Rattle.hub_job.specs.laws.Roots.{has_its_root}
use Rattle.hub_schedule.proofs.Threads.{root_is}

-- One entry more.
entries_of-push : (j : ℕ) (h : List Entry) (e : Entry) (b : Bool) → (e.job == j) ≡ b → entries_of j (h ++ e ∷ []) ≡ entries_of j h ++ cond b (e ∷ []) []
entries_of-push j h e b is = filter-append (λ (e : Entry). e.job == j) h (e ∷ []) ∙ ap (λ b. entries_of j h ++ cond b (e ∷ []) []) is

entries_at-push : (P : Parts) (s : Path) (log : List Logged) (e : Logged) (b : Bool) → is_root_at P s e.side ≡ b → entries_at P s (log ++ e ∷ []) ≡ entries_at P s log ++ cond b (e.step ∷ []) []
entries_at-push P s log e true is =
    ap (map (λ (e : Logged). e.step)) (filter-append (λ (e : Logged). is_root_at P s e.side) log (e ∷ []) ∙ ap (λ b. filter (λ (e : Logged). is_root_at P s e.side) log ++ cond b (e ∷ []) []) is)
    ∙ map-append (λ (e : Logged). e.step) (filter (λ (e : Logged). is_root_at P s e.side) log) (e ∷ [])
entries_at-push P s log e false is =
    ap (map (λ (e : Logged). e.step)) (filter-append (λ (e : Logged). is_root_at P s e.side) log (e ∷ []) ∙ ap (λ b. filter (λ (e : Logged). is_root_at P s e.side) log ++ cond b (e ∷ []) []) is)
    ∙ map-append (λ (e : Logged). e.step) (filter (λ (e : Logged). is_root_at P s e.side) log) []

-- What a replica answers fits.
fetched-fits : (p : Path) (c : Contents) → Fits (Fetch p) (fetched c)
fetched-fits p (contents.File bytes) = tt
fetched-fits p contents.Directory = tt
fetched-fits p contents.Absent = tt

done-fits : (p : Path) (c : Contents) (o : Option SetFault) → Fits (Set p c) (done_unless o)
done-fits p c None = tt
done-fits p c (Some f) = tt

answer-fits : (m : Replica) (P : Parts) (r : Path) (op : Op) → Fits op (answer m P r op)
unfolding answer
answer-fits m P r (Look d) = tt
answer-fits m P r (Fetch p) = fetched-fits p (contents_at m p)
answer-fits m P r (Set p c) = done-fits p c (set_fault m p c)

off : (i j : ℕ) → (i == j) ≡ false → j ≢ i
off i j e h = false≢true (sym e ∙ eq-eqb i j (sym h))

-- An operation of a job.
module _ (J : Jobs) (replicas : Path → Replica) (i : ℕ) (Q : Parts) (is : slice_get J.profiles i ≡ Some Q) (w : World) (settled : IsSettledWorld J replicas w) (side : Side) (op : Op) (r : Path) (at : at_side Q.roots side ≡ Some r) (asks : next Q (J.archive i) (log_of w i) ≡ Ask side op) where
  abbrev step : Entry
  step = entry Q i r (w.replica r) op

  abbrev logged : Logged
  logged = record { side = side; step = step }

  abbrev v : World
  v = event Q i side op w (Some r)

  own_log : log_of v i ≡ log_of w i ++ logged ∷ []
  own_log = get_or-set_same w.logs i _ [] (subst (λ n. i < n) (sym settled.count) (slice_get_within J.profiles i Q is))

  other_log : (j : ℕ) → (i == j) ≡ false → log_of v j ≡ log_of w j
  other_log j e = get_or-set_other w.logs i j _ [] (off i j e)

  runs_by : (j : ℕ) (P : Parts) (b : Bool) → (i == j) ≡ b → slice_get J.profiles j ≡ Some P → Runs P (J.archive j) j [] (log_of v j)
  runs_by j P true e its =
      let same : i ≡ j = eqb-true i j e in
      let mine : Q ≡ P = same_Some Q P (sym is ∙ (ap (slice_get J.profiles) same ∙ its)) in
      let here : Runs Q (J.archive i) i [] (log_of v i) =
      subst (Runs Q (J.archive i) i []) (sym own_log) (runs-push Q (J.archive i) i [] (log_of w i) logged (settled.fits.runs i Q is) asks (answer-fits (w.replica r) Q r op) refl) in
      subst (λ k. Runs P (J.archive k) k [] (log_of v k)) same (subst (λ P. Runs P (J.archive i) i [] (log_of v i)) mine here)
  runs_by j P false e its = subst (Runs P (J.archive j) j []) (sym (other_log j e)) (settled.fits.runs j P its)

  answered_by : IsAnswerOf r (w.replica r) step (Some Q)
  answered_by = (has_its_root Q side r at, refl)

  answered : IsAnswerOf r (w.replica r) step (slice_get J.profiles i)
  answered = subst (IsAnswerOf r (w.replica r) step) (sym is) answered_by

  legal_by : (s : Path) (b : Bool) → path_eq r s ≡ b → IsLegal J.profiles s (replicas s) (w.history s) → IsLegal J.profiles s (replicas s) (cond b (w.history r ++ step ∷ []) (w.history s))
  legal_by s true e legal =
      subst (λ t. IsLegal J.profiles t (replicas t) (w.history t) → IsLegal J.profiles t (replicas t) (w.history r ++ step ∷ [])) (same_paths r s e)
      (λ legal. legal-push J.profiles r (replicas r) (w.history r) step legal (subst (λ m. IsAnswerOf r m step (slice_get J.profiles i)) (settled.replayed r) answered)) legal
  legal_by s false e legal = legal

  agree_by : (j : ℕ) (P : Parts) (s : Path) (a b : Bool) → (i == j) ≡ a → path_eq r s ≡ b → slice_get J.profiles j ≡ Some P → entries_of j (w.history s) ≡ entries_at P s (log_of w j)
      → entries_of j (cond b (w.history r ++ step ∷ []) (w.history s)) ≡ entries_at P s (log_of v j)
  agree_by j P s true true e f its old =
      let same : i ≡ j = eqb-true i j e in
      let mine : Q ≡ P = same_Some Q P (sym is ∙ (ap (slice_get J.profiles) same ∙ its)) in
      ap (λ t. entries_of j (w.history t ++ step ∷ [])) (same_paths r s f)
      ∙ (entries_of-push j (w.history s) step true e
      ∙ (ap (λ es. es ++ step ∷ []) (old ∙ ap (λ k. entries_at P s (log_of w k)) (sym same))
      ∙ (sym (entries_at-push P s (log_of w i) logged true (ap (λ P. is_root_at P s side) (sym mine) ∙ (root_is Q r s side at ∙ f)))
      ∙ (ap (entries_at P s) (sym own_log) ∙ ap (λ k. entries_at P s (log_of v k)) same))))
  agree_by j P s false true e f its old =
      ap (λ t. entries_of j (w.history t ++ step ∷ [])) (same_paths r s f)
      ∙ (entries_of-push j (w.history s) step false e ∙ (append-nil (entries_of j (w.history s)) ∙ (old ∙ ap (entries_at P s) (sym (other_log j e)))))
  agree_by j P s true false e f its old =
      let same : i ≡ j = eqb-true i j e in
      let mine : Q ≡ P = same_Some Q P (sym is ∙ (ap (slice_get J.profiles) same ∙ its)) in
      old ∙ (ap (λ k. entries_at P s (log_of w k)) (sym same)
      ∙ (sym (append-nil (entries_at P s (log_of w i)))
      ∙ (sym (entries_at-push P s (log_of w i) logged false (ap (λ P. is_root_at P s side) (sym mine) ∙ (root_is Q r s side at ∙ f)))
      ∙ (ap (entries_at P s) (sym own_log) ∙ ap (λ k. entries_at P s (log_of v k)) same))))
  agree_by j P s false false e f its old = old ∙ ap (entries_at P s) (sym (other_log j e))

  replayed_by : (s : Path) (b : Bool) → path_eq r s ≡ b → cond b (after (w.replica r) op) (w.replica s) ≡ replay (replicas s) (cond b (w.history r ++ step ∷ []) (w.history s))
  replayed_by s true e =
      subst (λ t. after (w.replica r) op ≡ replay (replicas t) (w.history r ++ step ∷ [])) (same_paths r s e)
      (ap (λ m. after m op) (settled.replayed r) ∙ sym (replay-push (replicas r) (w.history r) step))
  replayed_by s false e = settled.replayed s

  settled_event : IsSettledWorld J replicas v
  settled_event = record {
    fits = record {
      runs = λ j P its. runs_by j P (i == j) refl its;
      legal = λ j P s its has. legal_by s (path_eq r s) refl (settled.fits.legal j P s its has);
      agree = λ j P s its has. agree_by j P s (i == j) (path_eq r s) refl refl its (settled.fits.agree j P s its has);
    };
    replayed = λ s. replayed_by s (path_eq r s) refl;
    count = length-set w.logs i _ ∙ settled.count;
  }

-- A turn, and a schedule of turns.
event_settles : (J : Jobs) (replicas : Path → Replica) (i : ℕ) (Q : Parts) (w : World) (side : Side) (op : Op) (o : Option Path) → slice_get J.profiles i ≡ Some Q → IsSettledWorld J replicas w → at_side Q.roots side ≡ o
    → next Q (J.archive i) (log_of w i) ≡ Ask side op → IsSettledWorld J replicas (event Q i side op w o)
event_settles J replicas i Q w side op None is s at asks = s
event_settles J replicas i Q w side op (Some r) is s at asks = settled_event J replicas i Q is w s side op r at asks

act_settles : (J : Jobs) (replicas : Path → Replica) (i : ℕ) (Q : Parts) (w : World) (n : Next) → slice_get J.profiles i ≡ Some Q → IsSettledWorld J replicas w → next Q (J.archive i) (log_of w i) ≡ n
    → IsSettledWorld J replicas (act Q i w n)
act_settles J replicas i Q w (Ask side op) is s e = event_settles J replicas i Q w side op (at_side Q.roots side) is s refl e
act_settles J replicas i Q w Finished is s e = s
act_settles J replicas i Q w Stopped is s e = s

turn_settles : (J : Jobs) (replicas : Path → Replica) (i : ℕ) (w : World) (o : Option Parts) → slice_get J.profiles i ≡ o → IsSettledWorld J replicas w → IsSettledWorld J replicas (turn_of J i w o)
turn_settles J replicas i w None is s = s
turn_settles J replicas i w (Some Q) is s = act_settles J replicas i Q w (next Q (J.archive i) (log_of w i)) is s refl

run_settles : (J : Jobs) (replicas : Path → Replica) (js : List ℕ) (w : World) → IsSettledWorld J replicas w → IsSettledWorld J replicas (run J js w)
unfolding run turn
run_settles J replicas [] w s = s
run_settles J replicas (j ∷ js) w s = run_settles J replicas js (turn J j w) (turn_settles J replicas j w (slice_get J.profiles j) refl s)

empty_logs : (Ps : List Parts) → length (map (λ (Q : Parts). no_log) Ps) ≡ length Ps
empty_logs [] = refl
empty_logs (Q ∷ Ps) = let h = empty_logs Ps in omega (arith, h)

pub empty_log : (Ps : List Parts) (j : ℕ) → slice_index_or (map (λ (Q : Parts). no_log) Ps) j [] ≡ no_log
empty_log [] j = refl
empty_log (Q ∷ Ps) zero = refl
empty_log (Q ∷ Ps) (suc j) = empty_log Ps j

opening_settled : (J : Jobs) (replicas : Path → Replica) → IsSettledWorld J replicas (opening J replicas)
opening_settled J replicas = record {
  fits = record {
    runs = λ j P is. subst (Runs P (J.archive j) j []) (sym (empty_log J.profiles j)) tt;
    legal = λ j P r is has. tt;
    agree = λ j P r is has. ap (entries_at P r) (sym (empty_log J.profiles j));
  };
  replayed = λ r. refl;
  count = empty_logs J.profiles;
}

pub runs_settle : (J : Jobs) (replicas : Path → Replica) (js : List ℕ) → IsSettledWorld J replicas (run J js (opening J replicas))
runs_settle J replicas js = run_settles J replicas js (opening J replicas) (opening_settled J replicas)
