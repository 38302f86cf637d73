-- Worked values of the lines of jobs: lines of examples/*.output.
use Rattle.std.specs.Prelude.{⊤, ◌≡◌, ℕ, List, [], ◌∷◌, ◌++◌, None, codes, refl}
use Rattle.hub_path.specs.Path.{path_of}
use Rattle.hub_path.specs.declared.side.Side.TheVariants.{Left, Right}
use Rattle.hub_profile.specs.Parts.{Parts}
use Rattle.hub_reconcile.specs.declared.item.Fate.{Fate}
use Rattle.hub_reconcile.specs.declared.item.Fate.TheVariants.{Skip, To}
use Rattle.hub_reconcile.specs.declared.item.Item.{Item}
use Rattle.hub_reconcile.specs.declared.item.Reason.TheVariants.{Barred, Blocked, Conflict, NoParent}
use Rattle.hub_job.specs.declared.job_end.End.{End}
use Rattle.hub_job.specs.declared.job_end.End.TheVariants.{Finished, Stopped, Unfinished}
use Rattle.hub_job.specs.declared.job_end.JobEnd.{JobEnd}
use Rattle.hub_report.specs.Jobs.{lines_of_jobs}
use lib.Utf8.{encode}

-- What these examples compute.
computed : ⊤
unfolding encode
computed = tt

-- A profile of that name, with roots of these texts, which are read from behind the first slash.
abbrev pub profile_of : List ℕ → List ℕ → List ℕ → Parts
profile_of name left right = record {
  name = name;
  roots = path_of left ∷ path_of right ∷ [];
  paths = [];
  ignore = [];
  ignorenot = [];
  force = None;
  prefer = None;
  bars = [];
  partial = [];
}

abbrev job_of : End → List Item → JobEnd
job_of end items = record { end = end; log = []; items = items }

abbrev item_of : List ℕ → Fate → Item
item_of path fate = record { path = path_of path; fate = fate }

abbrev all : Parts
all = profile_of (codes "all") (codes "left") (codes "right")

abbrev docs : Parts
docs = profile_of (codes "docs") (codes "srv/hub") (codes "srv/s1")

abbrev photos : Parts
photos = profile_of (codes "photos") (codes "srv/hub") (codes "srv/s3")

abbrev done : List Item → JobEnd
done items = job_of Finished items

-- new.output: what one side has goes to the other one
items_go_to_the_root_of_the_other_side :
    lines_of_jobs (all ∷ [])
    (done (item_of (codes "a") (To Right) ∷ item_of (codes "d") (To Left) ∷ []) ∷ [])
    ≡ codes "job all finished\nto /right a\nto /left d\n"
unfolding computed
items_go_to_the_root_of_the_other_side = refl

-- star.output: the jobs stand in the order of their profiles
jobs_stand_in_the_order_of_their_profiles :
    lines_of_jobs (docs ∷ photos ∷ [])
    (done (item_of (codes "docs/report.txt") (To Left) ∷ [])
    ∷ done (item_of (codes "photos/sea.jpg") (To Left) ∷ []) ∷ [])
    ≡ codes "job docs finished\nto /srv/hub docs/report.txt\n"
    ++ codes "job photos finished\nto /srv/hub photos/sea.jpg\n"
unfolding computed
jobs_stand_in_the_order_of_their_profiles = refl

-- conflict.output, barred.output, blocked.output, no-parent.output: why an item was skipped
a_conflict_is_skipped :
    lines_of_jobs (all ∷ []) (done (item_of (codes "a") (Skip Conflict) ∷ []) ∷ [])
    ≡ codes "job all finished\nskip Conflict a\n"
unfolding computed
a_conflict_is_skipped = refl

what_a_bar_forbids_is_skipped :
    lines_of_jobs (all ∷ []) (done (item_of (codes "d") (Skip Barred) ∷ []) ∷ [])
    ≡ codes "job all finished\nskip Barred d\n"
unfolding computed
what_a_bar_forbids_is_skipped = refl

a_directory_with_an_ignored_child_is_skipped :
    lines_of_jobs (all ∷ []) (done (item_of (codes "d") (Skip Blocked) ∷ []) ∷ [])
    ≡ codes "job all finished\nskip Blocked d\n"
unfolding computed
a_directory_with_an_ignored_child_is_skipped = refl

what_has_no_parent_is_skipped :
    lines_of_jobs (docs ∷ []) (done (item_of (codes "p/q") (Skip NoParent) ∷ []) ∷ [])
    ≡ codes "job docs finished\nskip NoParent p/q\n"
unfolding computed
what_has_no_parent_is_skipped = refl

a_job_that_has_more_to_do_was_stopped :
    lines_of_jobs (docs ∷ photos ∷ []) (job_of Stopped [] ∷ job_of Unfinished [] ∷ [])
    ≡ codes "job docs stopped\njob photos stopped\n"
unfolding computed
a_job_that_has_more_to_do_was_stopped = refl

nothing_is_said_without_profiles : lines_of_jobs [] [] ≡ []
nothing_is_said_without_profiles = refl
