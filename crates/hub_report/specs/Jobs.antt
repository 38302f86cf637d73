-- The lines that say what jobs did.
use Rattle.std.specs.Prelude.{ℕ, List, [], ◌∷◌, ◌++◌, codes, encode_utf8_all}
use Rattle.std.specs.List.{flat_map, zip}
use Rattle.hub_path.specs.Path.{Path}
use Rattle.hub_profile.specs.Parts.{Parts, at_side}
use Rattle.hub_reconcile.specs.declared.item.Fate.{Fate}
use Rattle.hub_reconcile.specs.declared.item.Fate.TheVariants.{Skip, To}
use Rattle.hub_reconcile.specs.declared.item.Item.{Item}
use Rattle.hub_reconcile.specs.declared.item.Reason.{Reason}
use Rattle.hub_reconcile.specs.declared.item.Reason.TheVariants.{Barred, Blocked, Conflict, NoParent}
use Rattle.hub_job.specs.declared.job_end.End.{End}
use Rattle.hub_job.specs.declared.job_end.End.TheVariants.{Finished, Stopped, Unfinished}
use Rattle.hub_job.specs.declared.job_end.JobEnd.{JobEnd}
use Rattle.hub_report.specs.Refusal.{joined, path_text, text_of_root}

-- How a job ended, in a word. A job that has more to do was stopped.
abbrev pub end_text : End → List ℕ
end_text Finished = codes "finished"
end_text Stopped = codes "stopped"
end_text Unfinished = codes "stopped"

-- Why an item was skipped, in a word.
abbrev pub reason_text : Reason → List ℕ
reason_text Conflict = codes "Conflict"
reason_text Barred = codes "Barred"
reason_text Blocked = codes "Blocked"
reason_text NoParent = codes "NoParent"

-- The line of an item: the root that it went to, or why it was skipped; and its path.
abbrev pub fate_line : List Path → List ℕ → Fate → List ℕ
fate_line roots path (To side) =
    joined (codes "to " ∷ text_of_root (at_side roots side) ∷ codes " " ∷ path ∷ codes "\n" ∷ [])
fate_line roots path (Skip reason) =
    joined (codes "skip " ∷ reason_text reason ∷ codes " " ∷ path ∷ codes "\n" ∷ [])

abbrev pub item_line : List Path → Item → List ℕ
item_line roots item = fate_line roots (path_text item.path) item.fate

-- The line of a job: the name of its profile, and how it ended.
abbrev pub job_line : Parts → End → List ℕ
job_line P end =
    joined (codes "job " ∷ encode_utf8_all P.name ∷ codes " " ∷ end_text end ∷ codes "\n" ∷ [])

-- A job's line, and below it those of its items.
abbrev pub job_lines : Parts → JobEnd → List ℕ
job_lines P job = job_line P job.end ++ flat_map (item_line P.roots) job.items

-- The lines of the jobs of these profiles, in their order.
abbrev pub lines_of_jobs : List Parts → List JobEnd → List ℕ
lines_of_jobs Ps jobs = flat_map (λ p. job_lines p.0 p.1) (zip Ps jobs)
