use Rattle.std.proofs.Common.{◌≡◌, ◌∙◌, ℕ, List, map, sym, ap}
use Rattle.std.specs.List.{flat_map, zip}
use Rattle.std.proofs.lemmas.Iterator.{YieldsList-from_slice, YieldsList-from_zip}
use Rattle.std.proofs.lemmas.Iterator.Consumers.{YieldsList-end}
use Rattle.std.proofs.lemmas.List.Folds.{flat_map-map}
use Rattle.hub_profile.specs.Parts.{Parts}
use Rattle.hub_job.specs.declared.job_end.JobEnd.{JobEnd}
use Rattle.hub_report.specs.Jobs.{job_lines, lines_of_jobs}
use Rattle.hub_report.proofs.jobs.lines_of_jobs.Goals as goal

-- The lines of all pairs of a profile and a job are those of the profiles and jobs, where v reads a pair.
lines-of-pairs : {A : Type 0} (v : A → Parts × JobEnd) (ls : List ℕ) (pairs : List A) (Ps : List Parts) (jobs : List JobEnd)
    → ls ≡ flat_map (λ x. job_lines (v x).0 (v x).1) pairs → map v pairs ≡ zip Ps jobs → ls ≡ lines_of_jobs Ps jobs
lines-of-pairs v ls pairs Ps jobs e all =
    let step : Parts × JobEnd → List ℕ = λ p. job_lines p.0 p.1 in
    e ∙ (sym (flat_map-map step v pairs) ∙ ap (flat_map step) all)

pub returns : goal.returns
returns c =
    let pairs = YieldsList-from_zip {s = c.into_iter-profile-iterator.result} (YieldsList-from_slice c.args.profiles.now cc) (YieldsList-from_slice c.args.jobs.now cc) in
    let end = YieldsList-end pairs c.loop-profile.yielded _ c.loop-profile.yielded_by _ c.next.new.self c.in-None.is c.next.ensures.steps in
    lines-of-pairs (λ p. (p.0.now, p.1.now)) _ c.loop-profile.yielded c.args.profiles.now c.args.jobs.now c.loop-profile.invariant end.0
