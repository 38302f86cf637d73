use Rattle.std.proofs.Common.{◌≡◌, string_bytes}
use Rattle.std.specs.List.{flat_map}
use Rattle.hub_report.specs.Jobs.{job_lines}
use Rattle.hub_report.proofs.jobs.lines_of_jobs.Given as goal

abbrev pub invariant-loop-profile : goal.invariant-loop-profile
invariant-loop-profile l =
    string_bytes l.text ≡ flat_map (λ p. job_lines p.0.now p.1.now) l.yielded
