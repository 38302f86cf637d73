-- The jobs of profiles before their first turns.
use Rattle.std.proofs.Common.{◌≡◌, ◌≢◌, ◌⊎◌, inl, inr, ⊎_elim, true, false, List, [], ◌∷◌, ◌++◌, length, Option, Some, None, refl, ap, sym, ◌∙◌, subst}
use Rattle.std.specs.Prelude.{ℕ, slice_get}
use Rattle.std.specs.List.{list_any}
use Rattle.std.proofs.lemmas.List.{length-map}
use Rattle.hub_text.specs.laws.List.{snoc-cases}
use Rattle.hub_path.specs.Path.{Path}
use Rattle.hub_path.specs.declared.side.Side.{Side}
use Rattle.hub_path.specs.declared.side.Side.TheVariants.{Left, Right}
use Rattle.hub_profile.specs.Parts.{Parts, IsProfile, some_passes}
use Rattle.hub_reach.specs.Reach.{has_root}
use Rattle.hub_tree.specs.Tree.{Replica}
use Rattle.hub_state.specs.State.{State}
use Rattle.hub_schedule.specs.declared.slot.Slot.{Slot}
use Rattle.hub_schedule.specs.declared.slot.WorkingTree.{WorkingTree}
use Rattle.hub_job.specs.JobValue.{JobValue}
use Rattle.hub_job.specs.Outcome.{archive_of, jobs_of, replicas_of}
use Rattle.hub_job.specs.Run.{root_at}
use Rattle.hub_schedule.specs.Table.{place_on, stopped_at, IsTreeNumber, AreTrees, IsNew, AddsTrees, IsSlot, ShowsWorld}
use Rattle.hub_job.specs.World.{opening}
use Rattle.hub_job.specs.laws.Logs.{no_log, open_log}
use Rattle.hub_schedule.specs.laws.Lists.{any-at}

-- A new job, with its replicas in place.
pub record IsOpened (S : State) (trees : List WorkingTree) (j : ℕ) (P : Parts) (s : Slot) : Type 0 where
  pub new : IsNew j P (archive_of S (Some P)) s
  pub places : (k : Side) → IsTreeNumber trees (root_at P k) (place_on s k)

-- The first jobs of profiles, and their replicas.
pub record AreOpened (S : State) (Ps : List Parts) (slots : List Slot) (trees : List WorkingTree) : Type 0 where
  pub each : (j : ℕ) (s : Slot) → slice_get slots j ≡ Some s → (P : Parts) × (slice_get Ps j ≡ Some P) × IsOpened S trees j P s
  pub replicas : AreTrees (replicas_of S) trees
  pub roots : (k : ℕ) (t : WorkingTree) → slice_get trees k ≡ Some t → list_any (λ P. has_root P t.root.now) Ps ≡ true

-- One more at the end.
pub get_push : {X : Type 0} (Q : ℕ → X → Type 0) (xs : List X) (x : X) → ((j : ℕ) (y : X) → slice_get xs j ≡ Some y → Q j y) → Q (length xs) x → (j : ℕ) (y : X) → slice_get (xs ++ x ∷ []) j ≡ Some y → Q j y
get_push Q xs x each last j y e =
    ⊎_elim (λ old. each j y old) (λ new. subst (Q j) new.1 (subst (λ i. Q i x) (sym new.0) last)) (snoc-cases xs x y j e)

-- A new job and its two places.
pub open_at : (S : State) (trees : List WorkingTree) (i j : ℕ) (P : Parts) (s : Slot) → i ≡ j → IsNew i P (archive_of S (Some P)) s → IsTreeNumber trees (root_at P Left) s.left → IsTreeNumber trees (root_at P Right) s.right
    → IsOpened S trees j P s
open_at S trees i j P s e new l r = record { new = subst (λ k. IsNew k P (archive_of S (Some P)) s) e new; places = go }
  where
    go : (k : Side) → IsTreeNumber trees (root_at P k) (place_on s k)
    go Left = l
    go Right = r

earlier : (S : State) (Ps : List Parts) (old new : List WorkingTree) (P : Parts) → AddsTrees P old new → (j : ℕ) (t : Slot)
    → (Q : Parts) × (slice_get Ps j ≡ Some Q) × IsOpened S old j Q t → (Q : Parts) × (slice_get Ps j ≡ Some Q) × IsOpened S new j Q t
earlier S Ps old new P more j t w = (
  w.0,
  w.1,
  record { new = w.2.new; places = λ k. let p = w.2.places k in (p.0, more.kept (place_on t k) p.0 p.1, p.2) },
)

pub opened_more : (S : State) (Ps : List Parts) (slots : List Slot) (old new : List WorkingTree) (P : Parts) (s : Slot) → AreOpened S Ps slots old → slice_get Ps (length slots) ≡ Some P
    → IsOpened S new (length slots) P s → AreTrees (replicas_of S) new → AddsTrees P old new → AreOpened S Ps (slots ++ s ∷ []) new
opened_more S Ps slots old new P s opened is one trees more = record {
  each = get_push (λ j s. (P : Parts) × (slice_get Ps j ≡ Some P) × IsOpened S new j P s) slots s (λ j t e. earlier S Ps old new P more j t (opened.each j t e)) (P, is, one);
  replicas = trees;
  roots = λ k t e. elim (more.rest k t e) [
    | inl h ↦ opened.roots k t h
    | inr h ↦ any-at (λ P. has_root P t.root.now) Ps (length slots) P is h
  ];
}

-- All of them are those of the opening.
module _ (S : State) (Ps : List Parts) (slots : List Slot) (trees : List WorkingTree) (opened : AreOpened S Ps slots trees) (all : length slots ≡ length Ps) where
  slot_is : (j : ℕ) (s : Slot) (P : Parts) → slice_get Ps j ≡ Some P → IsOpened S trees j P s → IsSlot (jobs_of S Ps) (opening (jobs_of S Ps) (replicas_of S)) trees j s
  slot_is j s P at o =
      let new = o.new in
      let own : s.job.profile ≡ P = ap (λ (v : JobValue). v.profile) new.job in
      let archive : s.job.archive ≡ archive_of S (Some P) = ap (λ (v : JobValue). v.archive) new.job in
      record {
        is = at ∙ ap (λ Q. Some Q) (sym own);
        valid = subst IsProfile (sym own) new.valid;
        archive = archive ∙ ap (archive_of S) (sym at);
        number = ap (λ (v : JobValue). v.number) new.job;
        log = ap (λ (v : JobValue). v.log) new.job ∙ sym (open_log Ps j);
        places = λ k. subst (λ Q. IsTreeNumber trees (root_at Q k) (place_on s k)) (sym own) (o.places k);
      }

  pub opened_table : ShowsWorld (jobs_of S Ps) (opening (jobs_of S Ps) (replicas_of S)) slots trees
  opened_table = record {
    each = λ j s e. let P = opened.each j s e in slot_is j s P.0 P.1 P.2;
    count = all;
    logs = length-map Ps (λ (P : Parts). no_log);
    replicas = opened.replicas;
    roots = opened.roots;
  }

  going_by : (j : ℕ) (x : Option Slot) → slice_get slots j ≡ x → some_passes (λ (s : Slot). s.job.stopped) x ≡ false
  going_by j None e = refl
  going_by j (Some s) e = ap (λ (v : JobValue). v.stopped) (opened.each j s e).2.new.job

  pub none_stopped : (j : ℕ) → stopped_at slots j ≡ false
  none_stopped j = going_by j (slice_get slots j) refl

pub trees_push : (replica : Path → Replica) (trees : List WorkingTree) (t : WorkingTree) → AreTrees replica trees → t.tree ≡ replica t.root.now
    → ((k : ℕ) (u : WorkingTree) → slice_get trees k ≡ Some u → u.root.now ≢ t.root.now) → AreTrees replica (trees ++ t ∷ [])
trees_push replica trees t are is new = record {
  each = get_push (λ k u. u.tree ≡ replica u.root.now) trees t are.each is;
  once = λ i k u v e f h.
      get_push (λ i u. (k : ℕ) (v : WorkingTree) → slice_get (trees ++ t ∷ []) k ≡ Some v → u.root.now ≡ v.root.now → i ≡ k) trees t
      (λ i u e. get_push (λ k v. u.root.now ≡ v.root.now → i ≡ k) trees t (λ k v f h. are.once i k u v e f h) (λ h. absurd (new i u e h)))
      (get_push (λ k v. t.root.now ≡ v.root.now → length trees ≡ k) trees t (λ k v f h. absurd (new k v f (sym h))) (λ h. refl))
      i u e k v f h;
}

pub rest_push : (trees : List WorkingTree) (t : WorkingTree) (r : Path) → t.root.now ≡ r → (k : ℕ) (u : WorkingTree) → slice_get (trees ++ t ∷ []) k ≡ Some u → (slice_get trees k ≡ Some u) ⊎ (u.root.now ≡ r)
rest_push trees t r is = get_push (λ k u. (slice_get trees k ≡ Some u) ⊎ (u.root.now ≡ r)) trees t (λ k u e. inl e) (inr is)
