-- What a turn of a job does to the jobs and the replicas of a world.
use Rattle.std.proofs.Common.{◌≡◌, ◌≢◌, ◌<◌, inl, inr, cond, List, [], ◌∷◌, ◌++◌, length, Some, refl, ap, sym, ◌∙◌, subst, length-set}
use Rattle.std.specs.Prelude.{ℕ, slice_get, slice_set}
use Rattle.std.specs.List.{list_any}
use Rattle.std.proofs.lemmas.List.{get_or-set_same, get_or-set_other}
use Rattle.std.proofs.lemmas.Bool.{cases_eq, false_from_ne_true}
use Rattle.std.proofs.lemmas.Option.{same_Some, slice_get_within}
use Rattle.hub_text.specs.laws.List.{put-here}
use Rattle.hub_reconcile.specs.laws.Views.{same_paths}
use Rattle.hub_path.specs.Path.{Path, path_eq}
use Rattle.hub_path.specs.declared.side.Side.{Side}
use Rattle.hub_profile.specs.Parts.{Parts, IsProfile}
use Rattle.hub_reach.specs.Reach.{has_root}
use Rattle.hub_tree.specs.Tree.{Replica}
use Rattle.hub_job.specs.declared.op.Op.{Op}
use Rattle.hub_job.specs.declared.op.Next.TheVariants.{Ask}
use Rattle.hub_schedule.specs.declared.slot.Slot.{Slot}
use Rattle.hub_schedule.specs.declared.slot.WorkingTree.{WorkingTree}
use Rattle.hub_job.specs.Job.{next}
use Rattle.hub_job.specs.Machine.{answer, after}
use Rattle.hub_job.specs.Run.{root_at}
use Rattle.hub_schedule.specs.Table.{place_on, with_tree_after, IsTreeNumber, AreTrees, IsSlot, ShowsWorld}
use Rattle.hub_job.specs.World.{World, Jobs, log_of, entry, event, act, turn_of, turn}
use Rattle.hub_job.specs.laws.Untouched.{path-of_Some}
use Rattle.hub_job.specs.laws.Roots.{side_root}
use Rattle.hub_schedule.specs.laws.Lists.{set_there, each_set}

-- Replicas whose roots stay.
pub record SameRoots (old new : List WorkingTree) : Type 0 where
  pub back : (k : ℕ) (t : WorkingTree) → slice_get new k ≡ Some t → (u : WorkingTree) × (slice_get old k ≡ Some u) × (u.root.now ≡ t.root.now)
  pub forth : (k : ℕ) (t : WorkingTree) → slice_get old k ≡ Some t → (u : WorkingTree) × (slice_get new k ≡ Some u) × (u.root.now ≡ t.root.now)

same_roots : (trees : List WorkingTree) → SameRoots trees trees
same_roots trees = record { back = λ k t e. (t, e, refl); forth = λ k t e. (t, e, refl) }

tree_set : (trees : List WorkingTree) (k : ℕ) (t : WorkingTree) (m : Replica) → slice_get trees k ≡ Some t → SameRoots trees (slice_set trees k (with_tree_after t m))
tree_set trees k t m is = record {
  back = each_set (λ i u. (v : WorkingTree) × (slice_get trees i ≡ Some v) × (v.root.now ≡ u.root.now)) trees k t (with_tree_after t m) is (t, is, refl) (λ i u off e. (u, e, refl));
  forth = λ i u e. elim (cases_eq i k) [
    | inl same ↦ (
      with_tree_after t m,
      ap (slice_get (slice_set trees k (with_tree_after t m))) same ∙ put-here trees k (with_tree_after t m) (slice_get_within trees k t is),
      ap (λ (v : WorkingTree). v.root.now) (same_Some t u (sym is ∙ (ap (slice_get trees) (sym same) ∙ e))),
    )
    | inr off ↦ (u, set_there trees i k (with_tree_after t m) off ∙ e, refl)
  ];
}

placed : (old new : List WorkingTree) → SameRoots old new → (r : Path) (k : ℕ) → IsTreeNumber old r k → IsTreeNumber new r k
placed old new same r k p = let u = same.forth k p.0 p.1 in (u.0, u.1, u.2 ∙ p.2)

once_again : (old new : List WorkingTree) → SameRoots old new
    → ((i k : ℕ) (t u : WorkingTree) → slice_get old i ≡ Some t → slice_get old k ≡ Some u → t.root.now ≡ u.root.now → i ≡ k)
    → (i k : ℕ) (t u : WorkingTree) → slice_get new i ≡ Some t → slice_get new k ≡ Some u → t.root.now ≡ u.root.now → i ≡ k
once_again old new same once i k t u e f h =
    let a = same.back i t e in
    let b = same.back k u f in
    once i k a.0 b.0 a.1 b.1 (a.2 ∙ (h ∙ sym b.2))

-- A job that has the same profile, archive, number and places.
pub record SameSlot (s t : Slot) : Type 0 where
  pub profile : t.job.profile ≡ s.job.profile
  pub archive : t.job.archive ≡ s.job.archive
  pub number : t.job.number ≡ s.job.number
  pub places : (k : Side) → place_on t k ≡ place_on s k

module _ (J : Jobs) (w v : World) (slots : List Slot) (old new : List WorkingTree) (table : ShowsWorld J w slots old) (same : SameRoots old new) (j : ℕ) (s t : Slot) (is : slice_get slots j ≡ Some s) (alike : SameSlot s t)
    (log : t.job.log ≡ log_of v j) (others : (i : ℕ) → i ≢ j → log_of w i ≡ log_of v i) (count : length v.logs ≡ length w.logs) (trees : AreTrees v.replica new) where
  here : IsSlot J v new j t
  here =
      let a = table.each j s is in
      record {
        is = a.is ∙ ap (λ P. Some P) (sym alike.profile);
        valid = subst IsProfile (sym alike.profile) a.valid;
        archive = alike.archive ∙ a.archive;
        number = alike.number ∙ a.number;
        log = log;
        places = λ k. subst (λ (P : Parts). IsTreeNumber new (root_at P k) (place_on t k)) (sym alike.profile)
            (subst (IsTreeNumber new (root_at s.job.profile k)) (sym (alike.places k)) (placed old new same (root_at s.job.profile k) (place_on s k) (a.places k)));
      }

  there : (i : ℕ) (u : Slot) → i ≢ j → slice_get slots i ≡ Some u → IsSlot J v new i u
  there i u off e =
      let a = table.each i u e in
      record {
        is = a.is;
        valid = a.valid;
        archive = a.archive;
        number = a.number;
        log = a.log ∙ others i off;
        places = λ k. placed old new same (root_at u.job.profile k) (place_on u k) (a.places k);
      }

  pub table_set : ShowsWorld J v (slice_set slots j t) new
  table_set = record {
    each = each_set (IsSlot J v new) slots j s t is here there;
    count = length-set slots j t ∙ table.count;
    logs = count ∙ table.logs;
    replicas = trees;
    roots = λ k u e. let b = same.back k u e in ap (λ r. list_any (λ P. has_root P r) J.profiles) (sym b.2) ∙ table.roots k b.0 b.1;
  }

-- A turn by what the job does next.
pub turn_is : (J : Jobs) (w : World) (trees : List WorkingTree) (j : ℕ) (s : Slot) → IsSlot J w trees j s → turn J j w ≡ act s.job.profile j w (next s.job.profile s.job.archive s.job.log)
unfolding turn
turn_is J w trees j s a = ap (turn_of J j w) a.is ∙ (λ i. act s.job.profile j w (next s.job.profile (sym a.archive i) (sym a.log i)))

-- The job and the replicas are the same as before.
pub table_same : (J : Jobs) (w v : World) (slots : List Slot) (trees : List WorkingTree) (j : ℕ) (s t : Slot) → ShowsWorld J w slots trees → slice_get slots j ≡ Some s → SameSlot s t → t.job.log ≡ s.job.log → w ≡ v
    → ShowsWorld J v (slice_set slots j t) trees
table_same J w v slots trees j s t table is alike log e =
    subst (λ (v : World). ShowsWorld J v (slice_set slots j t) trees) e
    (table_set J w w slots trees trees table (same_roots trees) j s t is alike (log ∙ (table.each j s is).log) (λ i off. refl) refl table.replicas)

module _ (J : Jobs) (w : World) (slots : List Slot) (trees : List WorkingTree) (table : ShowsWorld J w slots trees) (j : ℕ) (s t : Slot) (is : slice_get slots j ≡ Some s) (alike : SameSlot s t) (side : Side) (op : Op)
    (asks : next s.job.profile s.job.archive s.job.log ≡ Ask side op) (u : WorkingTree) (at : slice_get trees (place_on s side) ≡ Some u)
    (log : t.job.log ≡ s.job.log ++ record { side = side; step = record { job = s.job.number; op = op; answer = answer u.tree s.job.profile u.root.now op } } ∷ []) where
  a : IsSlot J w trees j s
  a = table.each j s is

  abbrev P : Parts
  P = s.job.profile

  abbrev r : Path
  r = root_at P side

  abbrev k : ℕ
  k = place_on s side

  -- The replica is that of the side's root.
  root_is : u.root.now ≡ r
  root_is = let p = a.places side in ap (λ (v : WorkingTree). v.root.now) (same_Some u p.0 (sym at ∙ p.1)) ∙ p.2

  tree_is : u.tree ≡ w.replica r
  tree_is = table.replicas.each k u at ∙ ap w.replica root_is

  abbrev v : World
  v = event P j side op w (Some r)

  turned : turn J j w ≡ v
  turned = turn_is J w trees j s a ∙ (ap (act P j w) asks ∙ ap (event P j side op w) (side_root P a.valid j side))

  abbrev new : List WorkingTree
  new = slice_set trees k (with_tree_after u (after u.tree op))

  changed : after u.tree op ≡ v.replica u.root.now
  changed = ap (λ m. after m op) tree_is ∙ sym (ap (λ b. cond b (after (w.replica r) op) (w.replica u.root.now)) (path-of_Some r u.root.now (ap (λ q. Some q) (sym root_is))))

  kept : (i : ℕ) (x : WorkingTree) → i ≢ k → slice_get trees i ≡ Some x → x.tree ≡ v.replica x.root.now
  kept i x off e =
      table.replicas.each i x e
      ∙ sym (ap (λ b. cond b (after (w.replica r) op) (w.replica x.root.now)) (false_from_ne_true (path_eq r x.root.now) (λ h. off (table.replicas.once i k x u e at (sym (root_is ∙ same_paths r x.root.now h))))))

  new_trees : AreTrees v.replica new
  new_trees = record {
    each = each_set (λ i x. x.tree ≡ v.replica x.root.now) trees k u (with_tree_after u (after u.tree op)) at changed kept;
    once = once_again trees new (tree_set trees k u (after u.tree op) at) table.replicas.once;
  }

  log_is : t.job.log ≡ log_of v j
  log_is =
      let one : s.job.log ++ record { side = side; step = record { job = s.job.number; op = op; answer = answer u.tree P u.root.now op } } ∷ [] ≡ log_of w j ++ record { side = side; step = entry P j r (w.replica r) op } ∷ [] =
      λ i. a.log i ++ record { side = side; step = record { job = a.number i; op = op; answer = answer (tree_is i) P (root_is i) op } } ∷ [] in
      log ∙ (one ∙ sym (get_or-set_same w.logs j (log_of w j ++ record { side = side; step = entry P j r (w.replica r) op } ∷ []) [] (subst (λ n. j < n) (sym table.logs) (slice_get_within J.profiles j P a.is))))

  pub table_turn : ShowsWorld J (turn J j w) (slice_set slots j t) new
  table_turn =
      subst (λ (x : World). ShowsWorld J x (slice_set slots j t) new) (sym turned)
      (table_set J w v slots trees new table (tree_set trees k u (after u.tree op) at) j s t is alike log_is
      (λ i off. sym (get_or-set_other w.logs j i (log_of w j ++ record { side = side; step = entry P j r (w.replica r) op } ∷ []) [] off)) (length-set w.logs j _) new_trees)
