-- What one more entry adds to a log, and what the logs are before the first turns.
use Rattle.std.proofs.Common.{◌≡◌, Bool, true, false, cond, List, [], ◌∷◌, ◌++◌, length, map, Some, refl, ap, sym, ◌∙◌, append-nil, append_assoc, arith, ◌<◌}
use Rattle.std.specs.Prelude.{ℕ, zero, suc, slice_get, filter, slice_index_or}
use Rattle.std.specs.List.{flat_map}
use Rattle.std.proofs.lemmas.Grind.{flat_map-append}
use Rattle.std.proofs.lemmas.List.Elements.{filter-append}
use Rattle.hub_path.specs.declared.side.Side.{Side}
use Rattle.hub_profile.specs.Parts.{Parts}
use Rattle.hub_tree.specs.Tree.{Archive}
use Rattle.hub_reconcile.specs.Sides.{side_eq}
use Rattle.hub_job.specs.declared.op.Next.TheVariants.{Ask}
use Rattle.hub_job.specs.declared.log.Logged.{Logged}
use Rattle.hub_job.specs.Machine.{Fits}
use Rattle.hub_job.specs.Job.{told, sights, next}
use Rattle.hub_job.specs.Run.{Runs}

-- What one more entry adds to what a side has seen: what it tells, if it is of that side.
sights_more : (log : List Logged) (e : Logged) (k : Side)
    → sights (log ++ e ∷ []) k ≡ sights log k ++ sights (e ∷ []) k
sights_more log e k =
    ap (flat_map (λ (e : Logged). told e.step.op e.step.answer))
    (filter-append (λ (e : Logged). side_eq e.side k) log (e ∷ []))
    ∙ flat_map-append (λ (e : Logged). told e.step.op e.step.answer)
    (filter (λ (e : Logged). side_eq e.side k) log)
    (filter (λ (e : Logged). side_eq e.side k) (e ∷ []))

sights_one : (e : Logged) (k : Side) (b : Bool) → side_eq e.side k ≡ b
    → sights (e ∷ []) k ≡ flat_map (λ (e : Logged). told e.step.op e.step.answer)
    (cond b (e ∷ []) [])
sights_one e k b h =
    ap (λ b. flat_map (λ (e : Logged). told e.step.op e.step.answer) (cond b (e ∷ []) [])) h

pub sights_own : (log : List Logged) (e : Logged) (k : Side) → side_eq e.side k ≡ true
    → sights (log ++ e ∷ []) k ≡ sights log k ++ told e.step.op e.step.answer
sights_own log e k h =
    sights_more log e k
    ∙ ap (λ ss. sights log k ++ ss)
    (sights_one e k true h ∙ append-nil (told e.step.op e.step.answer))

pub sights_other : (log : List Logged) (e : Logged) (k : Side) → side_eq e.side k ≡ false
    → sights (log ++ e ∷ []) k ≡ sights log k
sights_other log e k h =
    sights_more log e k
    ∙ (ap (λ ss. sights log k ++ ss) (sights_one e k false h) ∙ append-nil (sights log k))

-- An entry that isn't of a Look tells nothing.
pub sights-push : (log : List Logged) (e : Logged) (k : Side) → told e.step.op e.step.answer ≡ []
    → sights (log ++ e ∷ []) k ≡ sights log k
sights-push log e k h =
    elim (side_eq e.side k) as (λ b. side_eq e.side k ≡ b
    → sights (log ++ e ∷ []) k ≡ sights log k) [
      | true ↦ λ g. sights_own log e k g
          ∙ (ap (λ ss. sights log k ++ ss) h ∙ append-nil (sights log k))
      | false ↦ λ g. sights_other log e k g
    ] refl

-- A run goes on by one more entry.
pub runs-push : (P : Parts) (O : Archive) (j : ℕ) (front es : List Logged) (e : Logged)
    → Runs P O j front es → next P O (front ++ es) ≡ Ask e.side e.step.op
    → Fits e.step.op e.step.answer → e.step.job ≡ j
    → Runs P O j front (es ++ e ∷ [])
runs-push P O j front [] e r n f i = (ap (next P O) (sym (append-nil front)) ∙ n, f, i, tt)
runs-push P O j front (x ∷ es) e r n f i = (
  r.0,
  r.1,
  r.2,
  runs-push P O j (front ++ x ∷ []) es e r.3 (ap (next P O) (append_assoc front (x ∷ []) es)
      ∙ n) f i,
)

-- Before the first turns.
abbrev pub no_log : List Logged
no_log = []

pub a_log_each : (Ps : List Parts) (j : ℕ) (P : Parts) → slice_get Ps j ≡ Some P
    → j < length (map (λ (Q : Parts). no_log) Ps)
a_log_each [] j P e = cc
a_log_each (Q ∷ Ps) zero P e = omega arith
a_log_each (Q ∷ Ps) (suc j) P e = let h = a_log_each Ps j P e in omega (arith, h)

pub open_log : (Ps : List Parts) (i : ℕ) → slice_index_or (map (λ (Q : Parts). no_log) Ps) i [] ≡ []
open_log [] i = refl
open_log (Q ∷ Ps) zero = refl
open_log (Q ∷ Ps) (suc i) = open_log Ps i
