-- After its Looks, a job alone makes the steps of its plan one by one, and none is refused.
use Rattle.std.proofs.Common.{◌≡◌, ◌+◌, Bool, true, false, cond, not, ◌||◌, List, [], ◌∷◌, ◌++◌, length, map, Option, Some, None, refl, ap, sym, ◌∙◌, subst, arith, append_assoc, append-nil, length-append}
use Rattle.std.specs.Prelude.{ℕ, suc, if◌then◌else◌, slice_get, filter, find}
use Rattle.std.specs.List.{list_any, flat_map}
use Rattle.std.specs.Option.{is_some, option_and_then}
use Rattle.std.proofs.lemmas.Bool.{false≢true}
use Rattle.std.proofs.lemmas.List.Folds.{list_any-append}
use Rattle.std.proofs.lemmas.List.Sums.{sum_by_push}
use Rattle.std.proofs.lemmas.Grind.{flat_map-append}
use Rattle.std.proofs.lemmas.Option.{same_Some, slice_get_past}
use Rattle.hub_path.specs.Path.{Path, path_eq}
use Rattle.hub_path.specs.declared.side.Side.{Side}
use Rattle.hub_path.specs.declared.side.Side.TheVariants.{Left, Right}
use Rattle.hub_profile.specs.Parts.{Parts, IsProfile}
use Rattle.hub_tree.specs.Sets.{sets, each}
use Rattle.hub_tree.specs.Tree.{Replica, Archive, IsTree, contents_at, mark_of, set_fault, with_contents}
use Rattle.hub_tree.specs.declared.contents.Contents.{Contents}
use Rattle.hub_tree.specs.declared.contents.Contents.TheVariants as contents
use Rattle.hub_tree.specs.declared.contents.Mark.{Mark}
use Rattle.hub_tree.specs.declared.contents.Mark.TheVariants as mark
use Rattle.hub_tree.specs.declared.fault.SetFault.{SetFault}
use Rattle.hub_tree.specs.laws.Replacing.{sets_keep_the_rest, sets_begin}
use Rattle.hub_tree.specs.laws.Runs.{sets-append}
use Rattle.hub_reconcile.specs.Picture.{view_by, needed, was_seen}
use Rattle.hub_reconcile.specs.View.{View}
use Rattle.hub_reconcile.specs.Items.{other, plan}
use Rattle.hub_reconcile.specs.Sides.{side_eq, paths_on}
use Rattle.hub_reconcile.specs.Sync.{of_side, view_of}
use Rattle.hub_reconcile.specs.declared.change.Change.{Change}
use Rattle.hub_reconcile.specs.laws.Each.{Each, each-front, each-back}
use Rattle.hub_reconcile.specs.laws.Steps.{each-append}
use Rattle.hub_reconcile.specs.laws.Synced.{synced, paths_on-append}
use Rattle.hub_reconcile.specs.laws.Changes.{IsGood, plan_good, apart_on, same_side}
use Rattle.hub_job.specs.declared.op.Op.{Op}
use Rattle.hub_job.specs.declared.op.Op.TheVariants.{Fetch, Set}
use Rattle.hub_job.specs.declared.op.Next.{Next}
use Rattle.hub_job.specs.declared.op.Next.TheVariants.{Ask, Finished, Stopped}
use Rattle.hub_job.specs.declared.answer.Answer.TheVariants.{Bytes}
use Rattle.hub_job.specs.declared.log.Logged.{Logged}
use Rattle.hub_job.specs.Machine.{answer, after, fetched, done_unless, changed_unless}
use Rattle.hub_job.specs.Job.{told, sights, view_in, missing, is_refused, is_look, bytes_or, fetched_last, Step, set_step, steps_of, steps, contents_with, op_of, steps_made, ask, step_or_end, look_or, next}
use Rattle.hub_job.specs.laws.Logs.{sights-push}
use Rattle.hub_job.specs.Run.{Pair, on_side, logged, act_on, pair_run}

-- Lists.
get_middle : {X : Type 0} (front : List X) (x : X) (rest : List X)
    → slice_get (front ++ x ∷ rest) (length front) ≡ Some x
get_middle [] x rest = refl
get_middle (y ∷ front) x rest = get_middle front x rest

pub fetched_last-push : (bytes : List ℕ) (log : List Logged) (e : Logged)
    → fetched_last bytes (log ++ e ∷ []) ≡ bytes_or (fetched_last bytes log) e.step.answer
fetched_last-push bytes [] e = refl
fetched_last-push bytes (d ∷ log) e = fetched_last-push (bytes_or bytes d.step.answer) log e

-- The log has the Looks of L, and made these steps.
pub record Ready (L : List Logged) (front : List Step) (log : List Logged) : Type 0 where
  pub count : steps_made log ≡ length front
  pub ok : list_any (λ e. is_refused e.step.answer) log ≡ false
  pub told : (k : Side) → sights log k ≡ sights L k

abbrev pub weight : Bool → ℕ
weight b = cond (not b) 1 0

pub Ready-pushed : (L log : List Logged) (front : List Step) (x : Step) (e : Logged)
    → is_look e.step.op ≡ false → is_refused e.step.answer ≡ false
    → told e.step.op e.step.answer ≡ [] → Ready L front log
    → Ready L (front ++ x ∷ []) (log ++ e ∷ [])
Ready-pushed L log front x e step ok none r = record {
  count =
      let one : weight (is_look e.step.op) ≡ weight false = ap weight step in
      omega (
        arith,
        sum_by_push (λ (e : Logged). weight (is_look e.step.op)) log e,
        one,
        r.count,
        length-append front (x ∷ []),
      );
  ok = list_any-append (λ (e : Logged). is_refused e.step.answer) log (e ∷ [])
      ∙ (ap (λ b. b || (is_refused e.step.answer || false)) r.ok ∙ ap (λ b. b || false) ok);
  told = λ k. sights-push log e k none ∙ r.told k;
}

one_more : (k : ℕ) → 1 + k ≡ suc k
one_more k = omega arith

two_more : (k : ℕ) → 2 + k ≡ suc (suc k)
two_more k = omega arith

pub none_more : (n : ℕ) → 0 + n ≡ n
none_more n = omega arith

pub sum_more : (a b n : ℕ) → (a + b) + n ≡ a + (b + n)
sum_more a b n = omega arith

sum_lengths : (a b : ℕ) (xs ys : List Step) → a ≡ length xs → b ≡ length ys
    → a + b ≡ length (xs ++ ys)
sum_lengths a b xs ys e f = omega (arith, e, f, length-append xs ys)

-- Sides.
side_itself : (k : Side) → side_eq k k ≡ true
side_itself Left = refl
side_itself Right = refl

path_first : (k : Side) (c : Change) (cs : List Change) (b : Bool) → side_eq c.side k ≡ b
    → paths_on k (c ∷ cs) ≡ cond b (c.path ∷ paths_on k cs) (paths_on k cs)
path_first k c cs true e =
    ap (λ b. map (λ (c : Change). c.path)
    (cond b (c ∷ filter (λ (c : Change). side_eq c.side k) cs)
    (filter (λ (c : Change). side_eq c.side k) cs))) e
path_first k c cs false e =
    ap (λ b. map (λ (c : Change). c.path)
    (cond b (c ∷ filter (λ (c : Change). side_eq c.side k) cs)
    (filter (λ (c : Change). side_eq c.side k) cs))) e

-- Marks and contents.
pub File-marked : (x : Contents) (d : List ℕ) → mark.File d ≡ mark_of x → (b : List ℕ)
    × (x ≡ contents.File b)
File-marked (contents.File bytes) d e = (bytes, refl)
File-marked contents.Directory d e = cc
File-marked contents.Absent d e = cc

pub directory_of : (x : Contents) → mark.Directory ≡ mark_of x → contents.Directory ≡ x
directory_of (contents.File bytes) e = cc
directory_of contents.Directory e = refl
directory_of contents.Absent e = cc

pub nothing_of : (x : Contents) → mark.Absent ≡ mark_of x → contents.Absent ≡ x
nothing_of (contents.File bytes) e = cc
nothing_of contents.Directory e = cc
nothing_of contents.Absent e = refl

-- Sets.
by_fault : (o : Option SetFault) (x : Option Replica) (k : Replica)
    → (if is_some o then None else x) ≡ Some k → o ≡ None
by_fault None x k e = refl
by_fault (Some f) x k e = cc

one_set : (m : Replica) (p : Path) (c : Contents) → set_fault m p c ≡ None
    → sets m ((p, c) ∷ []) ≡ Some (after m (Set p c))
unfolding after
one_set m p c free =
    ap (λ o. if is_some o then None else Some (with_contents m p c)) free
    ∙ ap (λ o. Some (changed_unless o m (with_contents m p c))) (sym free)

pub any_each : (q : Path) (f : Path → Contents) (ps : List Path)
    → list_any (λ (c : Path × Contents). path_eq q c.0) (each f ps) ≡ list_any (path_eq q) ps
any_each q f [] = refl
any_each q f (p ∷ ps) = ap (λ b. path_eq q p || b) (any_each q f ps)

-- Turns of the two replicas.
own_after : (P : Parts) (j : ℕ) (w : Pair) (side : Side) (op : Op)
    → on_side (act_on P j w (Ask side op)) side ≡ after (on_side w side) op
own_after P j w Left op = refl
own_after P j w Right op = refl

other_after : (P : Parts) (j : ℕ) (w : Pair) (side k : Side) (op : Op) → side_eq side k ≡ false
    → on_side (act_on P j w (Ask side op)) k ≡ on_side w k
other_after P j w Left Left op e = absurd (false≢true (sym e))
other_after P j w Left Right op e = refl
other_after P j w Right Left op e = refl
other_after P j w Right Right op e = absurd (false≢true (sym e))

pub fetch_after : (P : Parts) (j : ℕ) (w : Pair) (side k : Side) (p : Path)
    → on_side (act_on P j w (Ask side (Fetch p))) k ≡ on_side w k
unfolding after
fetch_after P j w Left Left p = refl
fetch_after P j w Left Right p = refl
fetch_after P j w Right Left p = refl
fetch_after P j w Right Right p = refl

pub turn_is : (P : Parts) (O : Archive) (j n : ℕ) (w : Pair) (x : Next) → next P O w.log ≡ x
    → pair_run P O j (suc n) w ≡ pair_run P O j n (act_on P j w x)
unfolding pair_run
turn_is P O j n w x e = ap (λ y. pair_run P O j n (act_on P j w y)) e

abbrev pub flat_steps : List Change → List Step
flat_steps cs = flat_map (λ c. steps_of c.side c.path c.mark) cs

module _ (P : Parts) (facts : IsProfile P) (A B : Replica) (O : Archive) (left : IsTree A)
    (right : IsTree B) (j : ℕ) where
  abbrev pub R : Side → Replica
  R k = of_side A B k

  abbrev pub V : View
  V = view_of P A B O

  abbrev pub s : Side → Path → Contents
  s k q = contents_at (R (other k)) q

  abbrev pub Maps : List Change → Pair → Type 0
  Maps done w = (k : Side) → sets (R k) (each (s k) (paths_on k done)) ≡ Some (on_side w k)

  -- The first of the plan's changes leave no Set after them refused.
  free : (done todo : List Change) (c : Change) (m : Replica) → plan V ≡ done ++ c ∷ todo
      → sets (R c.side) (each (s c.side) (paths_on c.side done)) ≡ Some m
      → set_fault m c.path (s c.side c.path) ≡ None
  free done todo c m whole e =
      let k = c.side in
      let w = synced P facts A B O left right k in
      let list : paths_on k (plan V) ≡ paths_on k done ++ c.path ∷ paths_on k todo =
      ap (paths_on k) whole
      ∙ (paths_on-append k done (c ∷ todo)
      ∙ ap (λ ps. paths_on k done ++ ps) (path_first k c todo true (side_itself k))) in
      let cut : each (s k) (paths_on k (plan V)) ≡ each (s k) (paths_on k done)
      ++ (c.path, s k c.path) ∷ each (s k) (paths_on k todo) =
      ap (each (s k)) list ∙ each-append (s k) (paths_on k done) (c.path ∷ paths_on k todo) in
      let v = sets_begin (R k) w.0 (each (s k) (paths_on k done))
      ((c.path, s k c.path) ∷ each (s k) (paths_on k todo)) (ap (sets (R k)) (sym cut) ∙ w.1) in
      let same : v.0 ≡ m = same_Some v.0 m (sym v.1 ∙ e) in
      ap (λ x. set_fault x c.path (s k c.path)) (sym same)
      ∙ by_fault (set_fault v.0 c.path (s k c.path))
      (sets (with_contents v.0 c.path (s k c.path)) (each (s k) (paths_on k todo))) w.0 v.2

  -- A Set leaves the maps as they should be with one change more.
  maps_own : (done : List Change) (c : Change) (w : Pair) → Maps done w
      → set_fault (on_side w c.side) c.path (s c.side c.path) ≡ None
      → sets (R c.side) (each (s c.side) (paths_on c.side (done ++ c ∷ [])))
      ≡ Some (on_side (act_on P j w (Ask c.side (Set c.path (s c.side c.path)))) c.side)
  maps_own done c w maps free =
      let k = c.side in
      ap (λ ps. sets (R k) (each (s k) ps)) (paths_on-append k done (c ∷ [])
      ∙ ap (λ ps. paths_on k done ++ ps) (path_first k c [] true (side_itself k)))
      ∙ (ap (sets (R k)) (each-append (s k) (paths_on k done) (c.path ∷ []))
      ∙ (sets-append (R k) (each (s k) (paths_on k done)) ((c.path, s k c.path) ∷ [])
      ∙ (ap (option_and_then (λ m. sets m ((c.path, s k c.path) ∷ []))) (maps k)
      ∙ (one_set (on_side w k) c.path (s k c.path) free
      ∙ ap (λ m. Some m) (sym (own_after P j w k (Set c.path (s k c.path))))))))

  maps_after : (done : List Change) (c : Change) (w : Pair) → Maps done w
      → set_fault (on_side w c.side) c.path (s c.side c.path) ≡ None → (k : Side) (b : Bool)
      → side_eq c.side k ≡ b
      → sets (R k) (each (s k) (paths_on k (done ++ c ∷ [])))
      ≡ Some (on_side (act_on P j w (Ask c.side (Set c.path (s c.side c.path)))) k)
  maps_after done c w maps free k true e =
      subst (λ k. sets (R k) (each (s k) (paths_on k (done ++ c ∷ [])))
      ≡ Some (on_side (act_on P j w (Ask c.side (Set c.path (s c.side c.path)))) k))
      (same_side c.side k e)
      (maps_own done c w maps free)
  maps_after done c w maps free k false e =
      ap (λ ps. sets (R k) (each (s k) ps)) (paths_on-append k done (c ∷ [])
      ∙ (ap (λ ps. paths_on k done ++ ps) (path_first k c [] false e)
      ∙ append-nil (paths_on k done)))
      ∙ (maps k ∙ ap (λ m. Some m)
      (sym (other_after P j w c.side k (Set c.path (s c.side c.path)) e)))

  -- What a Fetch reads is still as it was.
  pub unchanged : (done todo : List Change) (c : Change) (w : Pair) → plan V ≡ done ++ c ∷ todo
      → Maps done w → contents_at (on_side w (other c.side)) c.path ≡ s c.side c.path
  unchanged done todo c w whole maps =
      let good : Each (IsGood P facts A B O left right) (done ++ c ∷ todo) =
      subst (λ (cs : List Change). Each (IsGood P facts A B O left right) cs) whole
      (plan_good P facts A B O left right) in
      let to = (each-back (IsGood P facts A B O left right) done (c ∷ todo) good).0.1 in
      sets_keep_the_rest (R (other c.side)) (on_side w (other c.side))
      (each (s (other c.side)) (paths_on (other c.side) done)) c.path (maps (other c.side))
      (any_each c.path (s (other c.side)) (paths_on (other c.side) done)
      ∙ apart_on P facts A B O left right c.side c.path done
      (each-front (IsGood P facts A B O left right) done (c ∷ todo) good) to)

  pub marked : (done todo : List Change) (c : Change) → plan V ≡ done ++ c ∷ todo
      → c.mark ≡ mark_of (s c.side c.path)
  marked done todo c whole =
      (each-back (IsGood P facts A B O left right) done (c ∷ todo)
      (subst (λ (cs : List Change). Each (IsGood P facts A B O left right) cs) whole
      (plan_good P facts A B O left right))).0.0

  module _ (L : List Logged) (view : view_in P O L ≡ V)
      (complete : (k : Side) → missing P L k ≡ None) where
    next_by : (front : List Step) (log : List Logged) (o : Option Step) → Ready L front log
        → slice_get (steps V) (length front) ≡ o → next P O log ≡ ask (fetched_last [] log) o
    unfolding next
    next_by front log o r e =
        let lacks : (k : Side)
        → missing P log k ≡ None =
        λ k. ap (λ ss. find (λ p. not (was_seen ss p)) (needed P ss)) (r.told k) ∙ complete k in
        let alike : view_in P O log ≡ V = ap (view_by P O) (λ i k. r.told k i) ∙ view in
        ap (λ b. if b then Stopped else look_or Left
        (look_or Right (step_or_end P O log) (missing P log Right)) (missing P log Left)) r.ok
        ∙ (ap (λ o. look_or Left (look_or Right (step_or_end P O log) (missing P log Right)) o)
        (lacks Left)
        ∙ (ap (λ o. look_or Right (step_or_end P O log) o) (lacks Right)
        ∙ (ap (λ v. ask (fetched_last [] log) (slice_get (steps v) (steps_made log))) alike
        ∙ (ap (λ n. ask (fetched_last [] log) (slice_get (steps V) n)) r.count
        ∙ ap (ask (fetched_last [] log)) e))))

    pub next_ask : (front : List Step) (x : Step) (rest : List Step) (log : List Logged)
        → steps V ≡ front ++ x ∷ rest → Ready L front log
        → next P O log ≡ Ask x.side (op_of (fetched_last [] log) x)
    next_ask front x rest log whole r =
        next_by front log (Some x) r (ap (λ xs. slice_get xs (length front)) whole
        ∙ get_middle front x rest)

    pub next_end : (log : List Logged) → Ready L (steps V) log → next P O log ≡ Finished
    next_end log r =
        next_by (steps V) log None r (slice_get_past (steps V) (length (steps V)) (omega arith))

    -- These changes are made.
    abbrev pub Made : List Change → Pair → Type 0
    Made done w = Ready L (flat_steps done) w.log × Maps done w

    pub steps_all : (done todo : List Change) (c : Change) (m : Mark) → c.mark ≡ m
        → plan V ≡ done ++ c ∷ todo
        → steps V ≡ flat_steps done ++ (steps_of c.side c.path m ++ flat_steps todo)
    steps_all done todo c m e whole =
        ap flat_steps whole
        ∙ (flat_map-append (λ (c : Change). steps_of c.side c.path c.mark) done (c ∷ todo)
        ∙ ap (λ m. flat_steps done ++ (steps_of c.side c.path m ++ flat_steps todo)) e)

    steps_done : (done : List Change) (c : Change) (m : Mark) → c.mark ≡ m
        → flat_steps done ++ steps_of c.side c.path m ≡ flat_steps (done ++ c ∷ [])
    steps_done done c m e =
        sym (flat_map-append (λ (c : Change). steps_of c.side c.path c.mark) done (c ∷ [])
        ∙ (ap (λ xs. flat_steps done ++ xs) (append-nil (steps_of c.side c.path c.mark))
        ∙ ap (λ m. flat_steps done ++ steps_of c.side c.path m) e))

    -- The Set of a change.
    set_entry : (done : List Change) (c : Change) (w : Pair) (front : List Step) (x : Step)
        → Maps done w → set_fault (on_side w c.side) c.path (s c.side c.path) ≡ None
        → Ready L front w.log
        → Ready L (front ++ x ∷ []) (act_on P j w (Ask c.side (Set c.path (s c.side c.path)))).log
    unfolding answer
    set_entry done c w front x maps free r =
        Ready-pushed L w.log front x
        (logged P j c.side (Set c.path (s c.side c.path)) (on_side w c.side))
        refl (ap (λ o. is_refused (done_unless o)) free) refl r

    abbrev pub Goes_on : List Change → Change → Pair → Type 0
    Goes_on done c w = (m : ℕ) × (v : Pair)
        × ((n : ℕ) → pair_run P O j (m + n) w ≡ pair_run P O j n v)
        × (m ≡ length (steps_of c.side c.path c.mark)) × Made (done ++ c ∷ []) v

    -- A change to something that is no file: a Set.
    plain : (done todo : List Change) (c : Change) (w : Pair) (m : Mark) → c.mark ≡ m
        → plan V ≡ done ++ c ∷ todo → Made done w
        → steps_of c.side c.path m ≡ set_step c.side c.path m ∷ []
        → contents_with (fetched_last [] w.log) m ≡ s c.side c.path → Goes_on done c w
    plain done todo c w m e whole made one sets =
        let x = set_step c.side c.path m in
        let fault = free done todo c (on_side w c.side) whole (made.1 c.side) in
        let v = act_on P j w (Ask c.side (Set c.path (s c.side c.path))) in
        let rest : steps V ≡ flat_steps done ++ x ∷ flat_steps todo =
        steps_all done todo c m e whole
        ∙ ap (λ xs. flat_steps done ++ (xs ++ flat_steps todo)) one in
        let n = next_ask (flat_steps done) x (flat_steps todo) w.log rest made.0
        ∙ ap (λ x. Ask c.side (Set c.path x)) sets in (
          1,
          v,
          λ k. ap (λ i. pair_run P O j i w) (one_more k) ∙ turn_is P O j k w _ n,
          ap length (sym (ap (λ m. steps_of c.side c.path m) e ∙ one)),
          (
            subst (λ xs. Ready L xs v.log) (ap (λ xs. flat_steps done ++ xs) (sym one)
                ∙ steps_done done c m e)
                (set_entry done c w (flat_steps done) x made.1 fault made.0),
            λ k. maps_after done c w made.1 fault k (side_eq c.side k) refl,
          ),
        )

    -- A change to a file: a Fetch, and then a Set of its bytes.
    filed : (done todo : List Change) (c : Change) (w : Pair) (d b : List ℕ) → c.mark ≡ mark.File d
        → plan V ≡ done ++ c ∷ todo → Made done w → s c.side c.path ≡ contents.File b
        → Goes_on done c w
    unfolding answer
    filed done todo c w d b e whole made file =
        let k = c.side in
        let first : Step = record {
          side = other k;
          path = c.path;
          fetches = true;
          mark = mark.File d;
        } in
        let second = set_step k c.path (mark.File d) in
        let all : steps V ≡ flat_steps done ++ first ∷ second ∷ flat_steps todo =
        steps_all done todo c (mark.File d) e whole in
        let n = next_ask (flat_steps done) first (second ∷ flat_steps todo) w.log all made.0 in
        let u = act_on P j w (Ask (other k) (Fetch c.path)) in
        let entry = logged P j (other k) (Fetch c.path) (on_side w (other k)) in
        let gave : fetched (contents_at (on_side w (other k)) c.path) ≡ Bytes b = ap fetched
        (unchanged done todo c w whole made.1 ∙ file) in
        let ready : Ready L (flat_steps done ++ first ∷ []) u.log = Ready-pushed L w.log
        (flat_steps done) first entry refl (ap is_refused gave) refl made.0 in
        let held : fetched_last [] u.log ≡ b = fetched_last-push [] w.log entry
        ∙ ap (bytes_or (fetched_last [] w.log)) gave in
        let maps : Maps done u = λ i. made.1 i
        ∙ ap (λ m. Some m) (sym (fetch_after P j w (other k) i c.path)) in
        let more : steps V ≡ (flat_steps done ++ first ∷ []) ++ second ∷ flat_steps todo = all
        ∙ sym (append_assoc (flat_steps done) (first ∷ []) (second ∷ flat_steps todo)) in
        let asks : next P O u.log ≡ Ask k (Set c.path (s k c.path)) =
        next_ask (flat_steps done ++ first ∷ []) second (flat_steps todo) u.log more ready
        ∙ ap (λ x. Ask k (Set c.path x)) (ap (λ b. contents.File b) held ∙ sym file) in
        let fault = free done todo c (on_side u k) whole (maps k) in
        let v = act_on P j u (Ask k (Set c.path (s k c.path))) in (
          2,
          v,
          λ i. ap (λ m. pair_run P O j m w) (two_more i)
              ∙ (turn_is P O j (suc i) w _ n ∙ turn_is P O j i u _ asks),
          ap length (sym (ap (λ m. steps_of k c.path m) e)),
          (
            subst (λ xs. Ready L xs v.log)
                (append_assoc (flat_steps done) (first ∷ []) (second ∷ [])
                ∙ steps_done done c (mark.File d) e)
                (set_entry done c u (flat_steps done ++ first ∷ []) second maps fault ready),
            λ i. maps_after done c u maps fault i (side_eq k i) refl,
          ),
        )

    pub by_mark : (done todo : List Change) (c : Change) (w : Pair) (m : Mark) → c.mark ≡ m
        → plan V ≡ done ++ c ∷ todo → Made done w → Goes_on done c w
    by_mark done todo c w (mark.File d) e whole made =
        let file = File-marked (s c.side c.path) d (sym e ∙ marked done todo c whole) in
        filed done todo c w d file.0 e whole made file.1
    by_mark done todo c w mark.Directory e whole made =
        plain done todo c w mark.Directory e whole made refl
        (directory_of (s c.side c.path) (sym e ∙ marked done todo c whole))
    by_mark done todo c w mark.Absent e whole made =
        plain done todo c w mark.Absent e whole made refl
        (nothing_of (s c.side c.path) (sym e ∙ marked done todo c whole))

    -- All changes that are left.
    pub makes : (todo done : List Change) (w : Pair) → plan V ≡ done ++ todo → Made done w
        → (m : ℕ) × (v : Pair) × ((n : ℕ) → pair_run P O j (m + n) w ≡ pair_run P O j n v)
        × (m ≡ length (flat_steps todo)) × Made (plan V) v
    makes [] done w whole made = (
      0,
      w,
      λ n. ap (λ m. pair_run P O j m w) (none_more n),
      refl,
      subst (λ cs. Made cs w) (sym (whole ∙ append-nil done)) made,
    )
    makes (c ∷ todo) done w whole made =
        let one = by_mark done todo c w c.mark refl whole made in
        let rest = makes todo (done ++ c ∷ []) one.1 (whole ∙ sym (append_assoc done (c ∷ []) todo))
        one.4 in (
          one.0 + rest.0,
          rest.1,
          λ n. ap (λ m. pair_run P O j m w) (sum_more one.0 rest.0 n)
              ∙ (one.2 (rest.0 + n) ∙ rest.2 n),
          sum_lengths one.0 rest.0 (steps_of c.side c.path c.mark) (flat_steps todo) one.3 rest.3,
          rest.4,
        )
