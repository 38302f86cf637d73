use Rattle.std.proofs.Common.{◌≡◌, ◌++◌, take, string_bytes}
use Rattle.std.specs.List.{flat_map}
use Rattle.hub_cert.specs.Writing.{goal_text, line, stage_text}
use Rattle.hub_cert.proofs.certificate.writing.push_certificate.Given as goal

abbrev pub invariant-loop-number : goal.invariant-loop-number
invariant-loop-number l = string_bytes l.out ≡ string_bytes l.fn.out ++ line (goal_text l.certificate.goal) ++ flat_map (λ t. line (stage_text t)) (take l.number l.certificate.stages)
