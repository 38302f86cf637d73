-- Worked examples of books.
use Rattle.std.specs.Prelude.{⊤, ◌≡◌, Bool, true, false, T, List, [], ◌∷◌, map, refl, codes}
use Rattle.std.specs.FinMap.{get-from_sorted, entries-from_sorted, is_sorted, from_sorted}
use Rattle.std.proofs.Common.{sym, ◌∙◌}
use Rattle.hub_path.specs.Path.{Path, path_of, path_cmp}
use Rattle.hub_profile.specs.Parts.{Parts}
use Rattle.hub_profile.specs.examples.Profiles.{hub, s2, between, of_kept}
use Rattle.hub_tree.specs.Tree.{Replica}
use Rattle.hub_tree.specs.declared.contents.Contents.{Contents}
use Rattle.hub_tree.specs.declared.contents.Contents.TheVariants as contents
use Rattle.hub_tree.specs.declared.contents.Mark.TheVariants as mark
use Rattle.hub_job.specs.declared.op.Op.TheVariants.{Look, Set}
use Rattle.hub_job.specs.declared.answer.OpFault.TheVariants.{NoParent}
use Rattle.hub_job.specs.declared.answer.Answer.TheVariants.{Done, Refused}
use Rattle.hub_job.specs.declared.log.Entry.{Entry}
use Rattle.hub_glob.specs.Glob.{matches}
use Rattle.hub_reach.specs.Reach.{reach}
use Rattle.hub_reconcile.specs.Sight.{sight}
use Rattle.hub_job.specs.Machine.{answer, after, sees}
use Rattle.hub_history.specs.Book.{BookValue, IsBook, entry_of, has_job, new_book, with_entry}

-- What these examples compute.
computed : ⊤
unfolding answer after sight reach matches
computed = tt

abbrev photos : Parts
photos = between (codes "photos") hub s2 (path_of (codes "photos"))

abbrev profiles : List Parts
profiles = of_kept (codes "docs") ∷ photos ∷ []

abbrev jobs_at : Path → List Bool
jobs_at r = map (has_job profiles r) (0 ∷ 1 ∷ 2 ∷ [])

-- A job has the two roots of its profile. There is no job after the last profile.
both_jobs_have_the_hub : jobs_at (path_of (codes "srv/hub")) ≡ true ∷ true ∷ false ∷ []
both_jobs_have_the_hub = refl

one_job_has_the_second_spoke : jobs_at (path_of (codes "srv/s2")) ≡ false ∷ true ∷ false ∷ []
one_job_has_the_second_spoke = refl

no_job_has_another_root : jobs_at (path_of (codes "srv")) ≡ false ∷ false ∷ false ∷ []
no_job_has_another_root = refl

abbrev none : List (Path × Contents)
none = []

abbrev nobody : Replica
nobody = from_sorted {R = path_cmp} none

abbrev opened : BookValue
opened = new_book profiles (path_of (codes "srv/hub")) nobody

a_new_book_is_a_book : IsBook opened
a_new_book_is_a_book = record { legal = tt; replays = refl }

-- On an empty replica nothing is seen, and what has no parent is refused.
abbrev seen : Entry
seen = entry_of 0 (Look (path_of (codes "docs"))) (sees mark.Absent [] false)

abbrev refused : Entry
refused = entry_of 1 (Set (path_of (codes "photos/x")) contents.Directory) (Refused NoParent)

abbrev two_entries : BookValue
two_entries = with_entry (with_entry opened seen) refused

nothing_is_seen : seen.answer ≡ answer nobody (of_kept (codes "docs")) opened.root
    seen.op
unfolding computed
nothing_is_seen =
    let h : T (is_sorted path_cmp none) = tt in simp (get-from_sorted, entries-from_sorted)

a_parent_is_missing :
    refused.answer ≡ answer nobody photos opened.root refused.op
unfolding computed
a_parent_is_missing =
    let h : T (is_sorted path_cmp none) = tt in simp (get-from_sorted, entries-from_sorted)

entries_are_appended : two_entries.history ≡ seen ∷ refused ∷ []
entries_are_appended = refl

with_two_entries_it_is_a_book : IsBook two_entries
unfolding computed
with_two_entries_it_is_a_book = record {
  legal = ((refl, nothing_is_seen), ((refl, a_parent_is_missing), tt));
  replays = refl;
}

-- An entry of a job that doesn't have the root makes no book, nor does an invented answer.
a_foreign_job_makes_no_book : ¬ (IsBook (with_entry opened (record seen { job = 2 })))
a_foreign_job_makes_no_book b = b.legal.0

an_invented_answer_makes_no_book : ¬ (IsBook (with_entry opened (record refused { answer = Done })))
an_invented_answer_makes_no_book b =
    let same : Done ≡ Refused NoParent = b.legal.0.1 ∙ sym a_parent_is_missing in cc
