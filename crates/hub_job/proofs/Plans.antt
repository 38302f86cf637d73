-- The plan of a log is that of the picture which its Looks give.
use Rattle.std.proofs.Common.{◌≡◌, true, false, not, ◌&&◌, List, [], ◌∷◌, length, refl, ap, sym, ◌∙◌, subst, arith, append-nil}
use Rattle.std.specs.Prelude.{ℕ, zero, suc, ◌-◌, slice_get, IsTrue}
use Rattle.std.specs.List.{list_any, AllByRecursion}
use Rattle.std.specs.List.Sorted.{IsStrictlySortedBy}
use Rattle.std.specs.FinMap.Entries.{is_sorted, below_all}
use Rattle.std.specs.Ordering.{is_lt}
use Rattle.std.specs.declared.cmp.Ordering.TheVariants.{Less}
use Rattle.std.proofs.lemmas.Bool.{and_parts, or_parts}
use Rattle.std.proofs.lemmas.List.Sums.{sum_by-cons}
use Rattle.hub_job.specs.laws.Making.{weight}
use Rattle.hub_path.specs.Path.{Path, path_cmp}
use Rattle.hub_path.specs.declared.side.Side.{Side}
use Rattle.hub_path.specs.declared.side.Side.TheVariants.{Left, Right}
use Rattle.hub_profile.specs.Parts.{Parts, some_passes}
use Rattle.hub_tree.specs.Tree.{Archive}
use Rattle.hub_reconcile.specs.Sight.{Sight}
use Rattle.hub_reconcile.specs.Picture.{view_by, are_rising, told_by}
use Rattle.hub_reconcile.specs.Shown.{shown}
use Rattle.hub_reconcile.specs.declared.look.Look.{Look}
use Rattle.hub_reconcile.specs.declared.picture.Picture.{Picture}
use Rattle.hub_reconcile.specs.Sync.{of_side}
use Rattle.hub_job.specs.declared.log.Logged.{Logged}
use Rattle.hub_job.specs.Job.{sights, view_in, is_refused, is_look, Step, steps, steps_made}
use Rattle.hub_job.specs.Phase.{IsWaiting, are_looks, AreSteps}
use Rattle.hub_job.proofs.Told.{sorted_needed, none_refused}
use Rattle.hub_reconcile.specs.Merge.{seen_paths}

all_below : (p : Path) (ss : List (Path × Sight)) → AllByRecursion (λ q. path_cmp p q ≡ Less) (seen_paths ss) → below_all path_cmp p ss ≡ true
all_below p [] a = refl
all_below p (s ∷ ss) a = ap (λ o. is_lt o && below_all path_cmp p ss) a.0 ∙ all_below p ss a.1

rising : (ss : List (Path × Sight)) → IsStrictlySortedBy path_cmp (seen_paths ss) → is_sorted path_cmp ss ≡ true
unfolding IsStrictlySortedBy
rising [] s = refl
rising (x ∷ ss) s = ap (λ b. b && is_sorted path_cmp ss) (all_below x.0 ss s.0) ∙ rising ss s.1

pub looks_rise : (P : Parts) (log : List Logged) (k : Side) → IsWaiting P log k [] → IsTrue (are_rising (sights log k))
looks_rise P log k w =
    rising (sights log k) (subst (λ ps. IsStrictlySortedBy path_cmp ps) (append-nil (seen_paths (sights log k))) (sorted_needed P (sights log k) [] w))

sides_same : (log : List Logged) (k : Side) → of_side (sights log Left) (sights log Right) k ≡ sights log k
sides_same log Left = refl
sides_same log Right = refl

pub shown_is : (P : Parts) (O : Archive) (log : List Logged) → view_by P O (of_side (sights log Left) (sights log Right)) ≡ view_in P O log
shown_is P O log = ap (view_by P O) (λ i k. sides_same log k i)

pub no_steps : (log : List Logged) → are_looks log ≡ true → steps_made log ≡ 0
no_steps [] h = refl
no_steps (e ∷ log) h =
    let parts = and_parts (is_look e.step.op && not (is_refused e.step.answer)) (are_looks log) h in
    let own = and_parts (is_look e.step.op) (not (is_refused e.step.answer)) parts.0 in
    let one : weight (is_look e.step.op) ≡ weight true = ap weight own.0 in
    omega (arith, sum_by-cons (λ (e : Logged). weight (is_look e.step.op)) e log, one, no_steps log parts.1)

refused_at : (log : List Logged) (i : ℕ) → list_any (λ e. is_refused e.step.answer) log ≡ false → some_passes (λ e. is_refused e.step.answer) (slice_get log i) ≡ false
refused_at [] i h = refl
refused_at (e ∷ log) zero h = (or_parts (is_refused e.step.answer) _ h).0
refused_at (e ∷ log) (suc i) h = refused_at log i (or_parts (is_refused e.step.answer) _ h).1

pub steps_follow : (P : Parts) (O : Archive) (log : List Logged) (ss : List Step) → are_looks log ≡ true → IsWaiting P log Left [] → IsWaiting P log Right []
    → ss ≡ steps (view_in P O log) → AreSteps P O log (record { steps = ss; looks = length log })
steps_follow P O log ss looks wl wr e = record {
  steps = e;
  made = omega (arith, no_steps log looks);
  left = wl;
  right = wr;
  refused = none_refused log looks ∙ sym (refused_at log (length log - 1) (none_refused log looks));
}

pub looks_rise_in : (P : Parts) (log : List Logged) (k : Side) (ls ms : List Look) → IsWaiting P log k [] → ms ≡ ls → told_by ls ≡ sights log k → IsTrue (are_rising (told_by ms))
looks_rise_in P log k ls ms w e t = subst (λ ss. IsTrue (are_rising ss)) (sym (ap told_by e ∙ t)) (looks_rise P log k w)

pub shown_by : (P : Parts) (O : Archive) (log : List Logged) (V : Picture) → V.profile.now ≡ P → V.archive.now ≡ O → told_by V.left.now ≡ sights log Left → told_by V.right.now ≡ sights log Right
    → shown V ≡ view_in P O log
shown_by P O log V p o l r =
    ap (λ P. view_by P V.archive.now (of_side (told_by V.left.now) (told_by V.right.now))) p
    ∙ (ap (λ O. view_by P O (of_side (told_by V.left.now) (told_by V.right.now))) o
    ∙ (ap (λ ls. view_by P O (of_side ls (told_by V.right.now))) l
    ∙ (ap (λ rs. view_by P O (of_side (sights log Left) rs)) r ∙ shown_is P O log)))
