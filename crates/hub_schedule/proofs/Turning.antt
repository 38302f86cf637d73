-- A turn of one of the jobs.
use Rattle.std.proofs.Common.{◌≡◌, ◌<◌, inl, inr, Bool, true, false, cond, List, [], ◌∷◌, ◌++◌, length, Some, None, refl, ap, sym, ◌∙◌, subst}
use Rattle.std.specs.Prelude.{ℕ, zero, suc, slice_get, slice_set, if◌then◌else◌}
use Rattle.std.proofs.lemmas.Bool.{false≢true, cases_eq}
use Rattle.std.proofs.lemmas.Option.{same_Some, slice_get_within}
use Rattle.hub_text.specs.laws.List.{put-here}
use Rattle.hub_path.specs.declared.side.Side.{Side}
use Rattle.hub_path.specs.declared.side.Side.TheVariants.{Left, Right}
use Rattle.hub_profile.specs.Parts.{some_passes}
use Rattle.hub_job.specs.declared.asked.Asked.{Asked}
use Rattle.hub_job.specs.declared.op.Op.{Op}
use Rattle.hub_job.specs.declared.op.Next.{Next}
use Rattle.hub_job.specs.declared.op.Next.TheVariants.{Ask, Finished, Stopped}
use Rattle.hub_job.specs.Job.{is_ask, next, steps_made}
use Rattle.hub_job.specs.JobValue.{JobValue, after_turn, with_answer, stopped_job}
use Rattle.hub_job.specs.Machine.{answer, after}
use Rattle.hub_job.specs.Phase.{asked_by}
use Rattle.hub_job.specs.World.{World, Jobs, act, turn}
use Rattle.hub_schedule.specs.declared.slot.Slot.{Slot}
use Rattle.hub_schedule.specs.declared.slot.WorkingTree.{WorkingTree}
use Rattle.hub_schedule.specs.Table.{place_on, with_job, with_tree_after, stopped_at, AllWouldAsk, ShowsWorld, AreTreeNumbers, StayStopped, WouldAsk}
use Rattle.hub_schedule.specs.laws.Lists.{set_there, each_set}
use Rattle.hub_schedule.proofs.Tables.{SameSlot, table_same, table_turn, turn_is}

-- A job keeps its profile, archive, number and places.
places_by : (s t : Slot) → t.left ≡ s.left → t.right ≡ s.right → (k : Side) → place_on t k ≡ place_on s k
places_by s t l r Left = l
places_by s t l r Right = r

same_with : (s t : Slot) (v : JobValue) → t ≡ with_job s v → v.profile ≡ s.job.profile → v.archive ≡ s.job.archive → v.number ≡ s.job.number → SameSlot s t
same_with s t v e own archive number = record {
  profile = ap (λ (x : Slot). x.job.profile) e ∙ own;
  archive = ap (λ (x : Slot). x.job.archive) e ∙ archive;
  number = ap (λ (x : Slot). x.job.number) e ∙ number;
  places = places_by s t (ap (λ (x : Slot). x.left) e) (ap (λ (x : Slot). x.right) e);
}

same_again : (s t u : Slot) → SameSlot s t → SameSlot t u → SameSlot s u
same_again s t u f g = record {
  profile = g.profile ∙ f.profile;
  archive = g.archive ∙ f.archive;
  number = g.number ∙ f.number;
  places = λ k. g.places k ∙ f.places k;
}

set_same : {X : Type 0} (xs : List X) (k : ℕ) (x : X) → slice_get xs k ≡ Some x → slice_set xs k x ≡ xs
set_same [] k x e = refl
set_same (y ∷ xs) zero x e = ap (λ z. z ∷ xs) (sym (same_Some y x e))
set_same (y ∷ xs) (suc k) x e = ap (λ zs. y ∷ zs) (set_same xs k x e)

pub stopped_is : (slots : List Slot) (j : ℕ) (s t : Slot) → slice_get slots j ≡ Some s → stopped_at (slice_set slots j t) j ≡ t.job.stopped
stopped_is slots j s t is = ap (some_passes (λ (v : Slot). v.job.stopped)) (put-here slots j t (slice_get_within slots j s is))

module _ (J : Jobs) (w : World) (slots : List Slot) (trees : List WorkingTree) (table : ShowsWorld J w slots trees) (j : ℕ) (s t : Slot) (n : Next) (is : slice_get slots j ≡ Some s)
    (slot : t ≡ with_job s (after_turn s.job t.job.stopped n)) (next_is : t.job.stopped ≡ false → n ≡ next s.job.profile s.job.archive s.job.log) where
  turned : SameSlot s t
  turned = same_with s t (after_turn s.job t.job.stopped n) slot refl refl refl

  -- A turn in which the job asks nothing.
  still : (n : Next) → asked_by n ≡ None → act s.job.profile j w n ≡ w
  still (Ask side op) e = cc
  still Finished e = refl
  still Stopped e = refl

  same_world : asked_by n ≡ None → (b : Bool) → t.job.stopped ≡ b → w ≡ cond b w (turn J j w)
  same_world none true e = refl
  same_world none false e = sym (turn_is J w trees j s (table.each j s is) ∙ (ap (act s.job.profile j w) (sym (next_is e)) ∙ still n none))

  pub idle : asked_by n ≡ None → ShowsWorld J (if stopped_at (slice_set slots j t) j then w else turn J j w) (slice_set slots j t) trees
  idle none =
      table_same J w (cond (stopped_at (slice_set slots j t) j) w (turn J j w)) slots trees j s t table is turned (ap (λ (v : Slot). v.job.log) slot)
      (same_world none t.job.stopped refl ∙ ap (λ b. cond b w (turn J j w)) (sym (stopped_is slots j s t is)))

  -- A turn in which it is answered, or finds no memory.
  module _ (side : Side) (op : Op) (asks : n ≡ Ask side op) (going : t.job.stopped ≡ false) (t2 : Slot) (k : ℕ) (u u2 : WorkingTree) (place : k ≡ place_on s side) (at : slice_get trees k ≡ Some u)
      (lost : t2.job.stopped ≡ true → (t2 ≡ with_job t (stopped_job t.job)) × (u2 ≡ u))
      (made : t2.job.stopped ≡ false → (t2 ≡ with_job t (with_answer t.job (record { side = side; op = op }) (answer u.tree t.job.profile u.root.now op))) × (u2 ≡ with_tree_after u (after u.tree op))) where
    stopped : (b : Bool) → t2.job.stopped ≡ b → ShowsWorld J (cond b w (turn J j w)) (slice_set slots j t2) (slice_set trees k u2)
    stopped true e =
        let l = lost e in
        subst (ShowsWorld J w (slice_set slots j t2)) (sym (ap (slice_set trees k) l.1 ∙ set_same trees k u at))
        (table_same J w w slots trees j s t2 table is (same_again s t t2 turned (same_with t t2 (stopped_job t.job) l.0 refl refl refl))
        (ap (λ (v : Slot). v.job.log) l.0 ∙ ap (λ (v : Slot). v.job.log) slot) refl)
    stopped false e =
        let m = made e in
        let a : Asked = record { side = side; op = op } in
        subst (λ (v : WorkingTree). ShowsWorld J (turn J j w) (slice_set slots j t2) (slice_set trees k v)) (sym m.1)
        (subst (λ (i : ℕ). ShowsWorld J (turn J j w) (slice_set slots j t2) (slice_set trees i (with_tree_after u (after u.tree op)))) (sym place)
        (table_turn J w slots trees table j s t2 is (same_again s t t2 turned (same_with t t2 (with_answer t.job a (answer u.tree t.job.profile u.root.now op)) m.0 refl refl refl)) side op
        (sym (next_is going) ∙ asks) u (ap (slice_get trees) (sym place) ∙ at)
        (ap (λ (v : Slot). v.job.log) m.0
        ∙ (λ i. (slot i).job.log ++ record { side = side; step = record { job = (slot i).job.number; op = op; answer = answer u.tree (slot i).job.profile u.root.now op } } ∷ []))))

    pub busy : ShowsWorld J (if stopped_at (slice_set slots j t2) j then w else turn J j w) (slice_set slots j t2) (slice_set trees k u2)
    busy = subst (λ b. ShowsWorld J (cond b w (turn J j w)) (slice_set slots j t2) (slice_set trees k u2)) (sym (stopped_is slots j s t2 is)) (stopped t2.job.stopped refl)

-- A job that is stopped stays stopped, and no other job is stopped.
pub stay_stopped : (slots : List Slot) (j : ℕ) (s t : Slot) → slice_get slots j ≡ Some s → (s.job.stopped ≡ true → t.job.stopped ≡ true) → StayStopped (stopped_at slots) (stopped_at (slice_set slots j t))
stay_stopped slots j s t is stays = λ i h.
    elim (cases_eq i j) [
      | inl same ↦ ap (stopped_at (slice_set slots j t)) same
          ∙ (stopped_is slots j s t is ∙ stays (sym (ap (some_passes (λ (v : Slot). v.job.stopped)) is) ∙ (ap (stopped_at slots) (sym same) ∙ h)))
      | inr off ↦ ap (some_passes (λ (v : Slot). v.job.stopped)) (set_there slots i j t off) ∙ h
    ]

pub no_other_stopped : (slots : List Slot) (j : ℕ) (t : Slot) (i : ℕ) → stopped_at (slice_set slots j t) i ≡ true → stopped_at slots i ≡ false → i ≡ j
no_other_stopped slots j t i h e =
    elim (cases_eq i j) [
      | inl same ↦ same
      | inr off ↦ absurd (false≢true (sym e ∙ (sym (ap (some_passes (λ (v : Slot). v.job.stopped)) (set_there slots i j t off)) ∙ h)))
    ]

-- A job that is stopped after a step would have asked.
pub would_ask : (slots : List Slot) (j : ℕ) (s t : Slot) → slice_get slots j ≡ Some s → (WouldAsk s.job → WouldAsk t.job) → AllWouldAsk slots → AllWouldAsk (slice_set slots j t)
would_ask slots j s t is more all = λ i x e. each_set (λ (i : ℕ) (x : Slot). WouldAsk x.job) slots j s t is (more (all j s is)) (λ k z off h. all k z h) i x e

may_ask : (a b c : Bool) → (a ≡ false → b ≡ false → c ≡ false) → (a ≡ true → b ≡ true) → c ≡ true → b ≡ true
may_ask true b c h old e = old refl
may_ask false true c h old e = refl
may_ask false false c h old e = absurd (false≢true (sym (h refl refl) ∙ e))

pub turn_asks : (J K : JobValue) (n : Next) → K ≡ after_turn J K.stopped n
    → (J.stopped ≡ false → 0 < steps_made J.log → is_ask (next J.profile J.archive J.log) ≡ false → K.stopped ≡ false) → WouldAsk J → WouldAsk K
turn_asks J K n is memory old = λ stopped made.
    let log : K.log ≡ J.log = ap (λ (x : JobValue). x.log) is in
    let same : next K.profile K.archive K.log ≡ next J.profile J.archive J.log = ap (λ (x : JobValue). next x.profile x.archive x.log) is in
    let done : 0 < steps_made J.log = subst (λ l. 0 < steps_made l) log made in
    ap is_ask same ∙ may_ask J.stopped (is_ask (next J.profile J.archive J.log)) K.stopped (λ a b. memory a done b) (λ a. old a done) stopped

lost_asks : (K L : JobValue) (side : Side) (op : Op) → L ≡ stopped_job K → next K.profile K.archive K.log ≡ Ask side op → is_ask (next L.profile L.archive L.log) ≡ true
lost_asks K L side op is asks = ap (λ (x : JobValue). is_ask (next x.profile x.archive x.log)) is ∙ ap is_ask asks

pub answer_asks : (J K L : JobValue) (n : Next) (side : Side) (op : Op) → K ≡ after_turn J K.stopped n → (K.stopped ≡ false → n ≡ next J.profile J.archive J.log) → n ≡ Ask side op → K.stopped ≡ false
    → (L.stopped ≡ true → L ≡ stopped_job K) → WouldAsk L
answer_asks J K L n side op is does asks going lost = λ stopped made.
    lost_asks K L side op (lost stopped) (ap (λ (x : JobValue). next x.profile x.archive x.log) is ∙ (sym (does going) ∙ asks))

-- The numbers of replicas stay numbers of replicas.
pub still_placed : (slots : List Slot) (trees : List WorkingTree) (j : ℕ) (s t : Slot) → slice_get slots j ≡ Some s → ((k : Side) → place_on t k ≡ place_on s k) → AreTreeNumbers slots trees → AreTreeNumbers (slice_set slots j t) trees
still_placed slots trees j s t is places placed = λ i x k e.
    each_set (λ (i : ℕ) (x : Slot). place_on x k < length trees) slots j s t is (subst (λ (m : ℕ). m < length trees) (sym (places k)) (placed j s k is)) (λ i z off h. placed i z k h) i x e

-- Another state of the job leaves its places.
pub place_same : (s : Slot) (v : JobValue) (k : Side) → place_on (with_job s v) k ≡ place_on s k
place_same s v Left = refl
place_same s v Right = refl

pub same_places : (t t2 : Slot) (a b : JobValue) (X Y : Type 0) → (t2.job.stopped ≡ true → (t2 ≡ with_job t a) × X) → (t2.job.stopped ≡ false → (t2 ≡ with_job t b) × Y) → (k : Side) → place_on t2 k ≡ place_on t k
same_places t t2 a b X Y lost made k = go t2.job.stopped refl
  where
    go : (c : Bool) → t2.job.stopped ≡ c → place_on t2 k ≡ place_on t k
    go true e = ap (λ (x : Slot). place_on x k) (lost e).0 ∙ place_same t a k
    go false e = ap (λ (x : Slot). place_on x k) (made e).0 ∙ place_same t b k

pub not_asked : (n : Next) → ((side : Side) (op : Op) → n ≡ Ask side op → ⊥) → asked_by n ≡ None
not_asked (Ask side op) h = absurd (h side op refl)
not_asked Finished h = refl
not_asked Stopped h = refl

-- A job that asks isn't stopped.
pub asks_going : (stopped : Bool) (n : Next) (side : Side) (op : Op) → n ≡ Ask side op → (stopped ≡ true → n ≡ Stopped) → stopped ≡ false
asks_going true n side op e h = let never : Stopped ≡ Ask side op = sym (h refl) ∙ e in cc
asks_going false n side op e h = refl
