use Rattle.std.proofs.Common.{◌≡◌, ◌<◌, ◌+◌, ◌-◌, List, [], length, take, get_or, refl, ap, sym, ◌∙◌, arith}
use Rattle.std.specs.Prelude.{ℕ}
use Rattle.std.proofs.lemmas.List.{take_more}
use Rattle.hub_job.specs.laws.Making.{fetched_last-push}
use Rattle.hub_job.specs.declared.answer.Answer.{Answer}
use Rattle.hub_job.specs.declared.answer.Answer.TheVariants.{Seen, Bytes, Done, Refused}
use Rattle.hub_job.specs.declared.log.Logged.{Logged}
use Rattle.hub_job.specs.Job.{bytes_or, fetched_last}
use Rattle.hub_job.proofs.step.last_file.Goals as goal

one_less : (n i : ℕ) → i < n → n - i ≡ (n - 1 - i) + 1
one_less n i h = omega (arith, h)

within : (n i : ℕ) → i < n → n - 1 - i < n
within n i h = omega (arith, h)

at_last : (log : List Logged) (i : ℕ) (e : Logged) → i < length log
    → fetched_last [] (take (length log - i) log) ≡ bytes_or (fetched_last [] (take (length log - 1 - i) log)) (get_or log (length log - 1 - i) e).step.answer
at_last log i e h =
    ap (λ n. fetched_last [] (take n log)) (one_less (length log) i h)
    ∙ (ap (λ (es : List Logged). fetched_last [] es) (take_more log (length log - 1 - i) e (within (length log) i h))
    ∙ fetched_last-push [] (take (length log - 1 - i) log) (get_or log (length log - 1 - i) e))

no_bytes : (bytes : List ℕ) (a : Answer) → ((b : List ℕ) → a ≡ Bytes b → ⊥) → bytes_or bytes a ≡ bytes
no_bytes bytes (Seen s) h = refl
no_bytes bytes (Bytes b) h = absurd (h b refl)
no_bytes bytes Done h = refl
no_bytes bytes (Refused f) h = refl

next_one : (n i : ℕ) → n - (i + 1) ≡ n - 1 - i
next_one n i = omega arith

pub returns-in-Bytes : goal.returns-in-Bytes
returns-in-Bytes c =
    let log = c.args.log.now in
    sym (sym c.loop-i.invariant
    ∙ (at_last log c.loop-i.i c.index-log-log.result c.loop-i-test.true
    ∙ ap (λ (a : Answer). bytes_or (fetched_last [] (take (length log - 1 - c.loop-i.i) log)) a) c.in-Bytes.is))

pub loop-i-preserved : goal.loop-i-preserved
loop-i-preserved c =
    let log = c.args.log.now in
    ap (λ n. fetched_last [] (take n log)) (next_one (length log) c.loop-i.i)
    ∙ (sym (at_last log c.loop-i.i c.index-log-log.result c.loop-i-test.true
    ∙ no_bytes (fetched_last [] (take (length log - 1 - c.loop-i.i) log)) (get_or log (length log - 1 - c.loop-i.i) c.index-log-log.result).step.answer c.in_default.not-Bytes)
    ∙ c.loop-i.invariant)
