-- Turns of jobs that clash don't commute: two starts of one profile, which both have looked.
use Rattle.std.specs.Prelude.{⊤, ◌≡◌, ◌≢◌, ℕ, Bool, true, false, T, List, [], ◌∷◌, Some, refl, slice_get, if◌then◌else◌}
use Rattle.std.specs.FinMap.{get-from_sorted, entries-from_sorted, is_sorted, from_sorted}
use Rattle.std.proofs.Common.{cond, ap, sym, ◌∙◌}
use Rattle.hub_glob.specs.Glob.{matches}
use Rattle.hub_reach.specs.Reach.{reach}
use Rattle.hub_reconcile.specs.Sight.{sight}
use Rattle.hub_reconcile.specs.Items.{items, plan}
use Rattle.hub_path.specs.Path.{path_cmp, path_eq}
use Rattle.hub_path.specs.declared.side.Side.TheVariants.{Left, Right}
use Rattle.hub_profile.specs.Parts.{Parts}
use Rattle.hub_profile.specs.examples.Profiles.{s1}
use Rattle.hub_tree.specs.Tree.{Archive, Replica}
use Rattle.hub_tree.specs.declared.contents.Contents.TheVariants as contents
use Rattle.hub_tree.specs.declared.contents.Mark.TheVariants as mark
use Rattle.hub_job.specs.declared.op.Op.TheVariants.{Set}
use Rattle.hub_job.specs.declared.op.Next.TheVariants.{Ask, Stopped}
use Rattle.hub_job.specs.declared.answer.Answer.{Answer}
use Rattle.hub_job.specs.declared.answer.Answer.TheVariants.{Seen, Bytes, Done, Refused}
use Rattle.hub_job.specs.declared.log.Logged.{Logged}
use Rattle.hub_job.specs.Job.{next}
use Rattle.hub_job.specs.Machine.{answer, after}
use Rattle.hub_serial.specs.World.{World, act, event, pair_of, turn, turn_of}
use Rattle.hub_serial.specs.examples.Starts.{P, a, looked_by, marked, nothing, the_second_deletion_is_refused, with_a}

-- What these examples compute.
computed : ⊤
unfolding answer after next sight items plan reach matches
computed = tt

abbrev pub twice : List Parts
twice = P ∷ P ∷ []

abbrev pub marks : Archive
marks = from_sorted {R = path_cmp} (marked mark.Directory)

abbrev pub both : ℕ → List Logged
both j = looked_by j Left mark.Absent ∷ looked_by j Right mark.Directory ∷ []

abbrev pub there : Replica
there = from_sorted {R = path_cmp} with_a

-- a was deleted at the hub, and is still at s1.
abbrev pub looked : World
looked = record {
  replica = λ r. if path_eq r s1 then there else from_sorted {R = path_cmp} nothing;
  archive = λ k. marks;
  log = both;
  done = λ j. false;
  items = λ j. [];
}

pub each_would_delete_it : (j : ℕ) → next P marks (both j) ≡ Ask Right (Set a contents.Absent)
unfolding computed
each_would_delete_it j =
    let h : T (is_sorted path_cmp (marked mark.Directory)) = tt in
    simp (get-from_sorted, entries-from_sorted)

pub deletes : (j : ℕ) (w : World) → slice_get twice j ≡ Some P → w.done j ≡ false → w.archive ≡ (λ k. marks)
    → w.log j ≡ both j → turn twice j w ≡ event P j Right (Set a contents.Absent) w (Some s1)
unfolding turn
deletes j w is d o l =
    ap (turn_of j w) is
    ∙ ((λ i. act P j w (cond (d i) Stopped (next P (o i (pair_of P)) (l i))))
    ∙ ap (act P j w) (each_would_delete_it j))

-- Whether it was refused.
abbrev is_refused : Answer → Bool
is_refused (Seen s) = false
is_refused (Bytes b) = false
is_refused Done = false
is_refused (Refused f) = true

abbrev last_refused : Bool → List Logged → Bool
last_refused b [] = b
last_refused b (e ∷ es) = last_refused (is_refused e.step.answer) es

abbrev after_both : ℕ → ℕ → World
after_both i k = turn twice i (turn twice k looked)

goes_through : answer there P s1 (Set a contents.Absent) ≡ Done
unfolding computed
goes_through = let h : T (is_sorted path_cmp with_a) = tt in simp (get-from_sorted, entries-from_sorted)

first_first : last_refused false ((after_both 1 0).log 1) ≡ true
first_first =
    ap (λ w. last_refused false ((turn twice 1 w).log 1)) (deletes 0 looked refl refl refl refl)
    ∙ (ap (λ w. last_refused false (w.log 1)) (deletes 1 (event P 0 Right (Set a contents.Absent) looked (Some s1)) refl refl refl refl)
    ∙ ap is_refused the_second_deletion_is_refused)

second_first : last_refused false ((after_both 0 1).log 1) ≡ false
second_first =
    ap (λ w. last_refused false ((turn twice 0 w).log 1)) (deletes 1 looked refl refl refl refl)
    ∙ (ap (λ w. last_refused false (w.log 1)) (deletes 0 (event P 1 Right (Set a contents.Absent) looked (Some s1)) refl refl refl refl)
    ∙ ap is_refused goes_through)

turns_of_clashing_jobs_do_not_commute : after_both 1 0 ≢ after_both 0 1
turns_of_clashing_jobs_do_not_commute e =
    let no : true ≡ false = sym first_first ∙ (ap (λ w. last_refused false (w.log 1)) e ∙ second_first) in cc
