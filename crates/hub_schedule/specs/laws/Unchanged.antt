-- What an outcome that histories settle leaves as it was; so much is promised for no profiles.
use Rattle.std.proofs.Common.{◌≡◌, ◌<◌, Bool, true, false, cond, ◌&&◌, List, [], ◌∷◌, length, Option, Some, None, refl, ap, sym, ◌∙◌}
use Rattle.std.specs.Prelude.{ℕ, IsTrue, slice_get, find, unwrap_or}
use Rattle.std.specs.List.{list_any, range_with_len}
use Rattle.std.specs.FinMap as fin
use Rattle.std.proofs.lemmas.Bool.{false≢true, and_parts, false_from_ne_true}
use Rattle.hub_path.specs.Path.{Path, is_place}
use Rattle.hub_profile.specs.Parts.{Parts, some_passes}
use Rattle.hub_reach.specs.Reach.{reach, has_root}
use Rattle.hub_reach.specs.Safe.{Rule}
use Rattle.hub_tree.specs.Tree.{Replica, contents_at, old_mark_at}
use Rattle.hub_state.specs.State.{State, IsState, replica_at, archive_at}
use Rattle.hub_job.specs.declared.job_end.End.{End}
use Rattle.hub_job.specs.declared.job_end.End.TheVariants as end
use Rattle.hub_job.specs.declared.job_end.JobEnd.{JobEnd}
use Rattle.hub_job.specs.declared.outcome.Outcome.{Outcome}
use Rattle.hub_job.specs.declared.log.Entry.{Entry}
use Rattle.hub_job.specs.History.{replay}
use Rattle.hub_job.specs.Ends.{is_finished}
use Rattle.hub_job.specs.Outcome.{replicas_of, takes_marks, mark_by}
use Rattle.hub_schedule.specs.Promise.{logs_in, Settles, ForeignAreAsBefore, OldMarksStay, IsAsIfAlone, IsAsPromised}
use Rattle.hub_reach.specs.laws.General.{passing}

pub none_passes : (t : ℕ → Bool) (xs : List ℕ) → ((i : ℕ) → t i ≡ false) → find t xs ≡ None
none_passes t [] never = refl
none_passes t (x ∷ xs) never =
    ap (λ b. cond b (Some x) (find t xs)) (never x) ∙ none_passes t xs never

pub finished_of : (x : End) → is_finished x ≡ true → x ≡ end.Finished
finished_of end.Finished e = refl
finished_of end.Stopped e = absurd (false≢true e)
finished_of end.Unfinished e = absurd (false≢true e)

-- What it is that a job's marks are taken.
pub record TakesMarks (Ps : List Parts) (o : Outcome) (r s p : Path) (j : ℕ) : Type 0 where
  pub profile : Parts
  pub ended : JobEnd
  pub is : slice_get Ps j ≡ Some profile
  pub at : slice_get o.jobs j ≡ Some ended
  pub finished : ended.end ≡ end.Finished
  pub first : has_root profile r ≡ true
  pub second : has_root profile s ≡ true
  pub reaches : reach profile p ≡ true

pub takes_is : (Ps : List Parts) (o : Outcome) (r s p : Path) (j : ℕ)
    → takes_marks o Ps r s p j ≡ true
    → TakesMarks Ps o r s p j
takes_is Ps o r s p j h =
    let two = and_parts (some_passes (λ e. is_finished e.end) (slice_get o.jobs j))
    (some_passes (λ P. has_root P r && has_root P s && reach P p) (slice_get Ps j)) h in
    let e = passing (λ (e : JobEnd). is_finished e.end) (slice_get o.jobs j) two.0 in
    let P = passing (λ (P : Parts). has_root P r && has_root P s && reach P p)
    (slice_get Ps j) two.1 in
    let three = and_parts (has_root P.0 r && has_root P.0 s) (reach P.0 p) P.2 in
    let roots = and_parts (has_root P.0 r) (has_root P.0 s) three.0 in
    record {
      profile = P.0;
      ended = e.0;
      is = P.1;
      at = e.1;
      finished = finished_of e.0.end e.2;
      first = roots.0;
      second = roots.1;
      reaches = three.1;
    }

module _ (S : State) (Ps : List Parts) (histories : Path → List Entry) (o : Outcome)
    (settles : Settles S Ps histories o) where
  foreign_by : (r : Path) (x : Option Replica) → IsTrue (is_place r)
      → list_any (λ P. has_root P r) Ps ≡ false → replica_at S r ≡ x → replica_at o.state r ≡ x
  foreign_by r None place none e = settles.outcome.others r place e
  foreign_by r (Some m) place none e = settles.outcome.replicas r m place e
      ∙ ap (λ b. Some (cond b (replay (replicas_of S r) (histories r)) m)) none

  pub foreign : ForeignAreAsBefore S Ps o.state
  foreign = λ r place none. foreign_by r (replica_at S r) place none refl

  pub marks_stay : OldMarksStay S Ps o
  marks_stay = λ r s p one other off never.
      let none = none_passes (takes_marks o Ps r s p) (range_with_len 0 (length Ps))
      (λ i. false_from_ne_true (takes_marks o Ps r s p i) (λ h. let w = takes_is Ps o r s p i h in
      false≢true (sym (never i w.profile w.ended w.is w.at w.finished w.first w.second)
      ∙ w.reaches))) in
      settles.outcome.archives r s p one other off
      ∙ ap (mark_by S Ps (logs_in o) p (old_mark_at (unwrap_or (archive_at S r s) fin.empty) p))
      none

-- A state may be none where there are no profiles.
abbrev pub IsStateFor : State → List Parts → Type 0
IsStateFor S Ps = 0 < length Ps → IsState S

no_profile : (j : ℕ) (P : Parts) → slice_get [] j ≡ Some P → ⊥
no_profile j P e = cc

pub promise_none : (S : State) (Rs : List Rule) (histories : Path → List Entry) (o : Outcome)
    → Settles S [] histories o → IsAsPromised S [] Rs histories o
promise_none S Rs histories o settles = record {
  others = λ j P r q front rest e is. absurd (no_profile j P is);
  finished = λ j P e is. absurd (no_profile j P is);
  elsewhere = λ r place q never. ap (λ x. contents_at (unwrap_or x fin.empty) q)
      (foreign S [] histories o settles r place refl);
  foreign = foreign S [] histories o settles;
  marks = marks_stay S [] histories o settles;
  archives = settles.outcome.pairs;
  allowed = λ Q r p c front rest e h at. absurd (no_profile e.job Q at);
}

pub alone_none : (S : State) (o : Outcome) → IsAsIfAlone S [] o
alone_none S o = record {
  logs = λ j P is. absurd (no_profile j P is);
  own = λ j P r q is. absurd (no_profile j P is);
  enough = λ j n P e is. absurd (no_profile j P is);
}
