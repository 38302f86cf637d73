use Rattle.std.proofs.Common.{◌∙◌, ◌++◌, List, ℕ, take, string_bytes, append_assoc, sym, ap, arith}
use Rattle.std.specs.Prelude.{chars}
use Rattle.std.specs.List.{flat_map}
use Rattle.std.proofs.lemmas.List.{flat_map_more, take_all}
use Rattle.hub_cert.specs.Writing.{goal_text, line, stage_text}
use Rattle.hub_cert.proofs.TextStages.{text-more}
use Rattle.hub_cert.proofs.certificate.writing.push_certificate.Goals as goal

-- What is written of a text.
abbrev line_of : List ℕ → List ℕ
line_of t = line (stage_text t)

pub loop-number-preserved : goal.loop-number-preserved
loop-number-preserved c =
    let ts = c.args.certificate.now.stages in
    let n = c.loop-number.number in
    let t : List ℕ = chars c.text.result.now in
    let before : List ℕ = string_bytes c.args.out.now ++ line (goal_text c.args.certificate.now.goal) in
    c.in_ok-push_stage.ensures
    ∙ (ap (λ (bs : List ℕ). bs ++ line_of t) c.loop-number.invariant
    ∙ (flat_map_more line_of before (take n ts) t
    ∙ ap (λ (us : List (List ℕ)). before ++ flat_map line_of us) (sym (text-more ts n t c.text.ensures))))

pub returns-clause-text : goal.returns-clause-text
returns-clause-text c =
    let ts = c.args.certificate.now.stages in
    let before : List ℕ = string_bytes c.args.out.now ++ line (goal_text c.args.certificate.now.goal) in
    c.loop-number.invariant
    ∙ (ap (λ (us : List (List ℕ)). before ++ flat_map line_of us) (take_all c.loop-number.number ts (omega arith))
    ∙ append_assoc (string_bytes c.args.out.now) (line (goal_text c.args.certificate.now.goal)) (flat_map line_of ts))
