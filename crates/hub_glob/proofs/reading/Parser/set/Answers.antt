use Rattle.std.proofs.Common.{◌≡◌, ◌⊎◌, ⊎_elim, inl, inr, true, None, Some, [], Err}
use Rattle.std.proofs.lemmas.Result.{IfErr-weaker}
use Rattle.hub_glob.specs.declared.fault.GlobFault.TheVariants as fault
use Rattle.hub_glob.specs.Reading as reading
use Rattle.hub_glob.proofs.Readings.{set_fault}
use Rattle.hub_glob.proofs.reading.Parser.set.Goals as goal

pub returns-in-Some-clause-err : goal.returns-in-Some-clause-err
returns-in-Some-clause-err c =
    let n = c.args.self.now.in_name in
    let all = reading.signs n (Some []) c.args.self.now.tokens.now in
    IfErr-weaker c.read_set.result (λ e. (e ≡ fault.OutOfMemory) ⊎ (reading.set_piece c.in-Some.set.now true ≡ Err e)) (λ e. (e ≡ fault.OutOfMemory) ⊎ reading.BeginsWithFault e all)
    (λ e h. ⊎_elim (λ m. inl m) (λ f. inr (set_fault all (reading.signs n None c.in-Some.rest.now) c.in-Some.set.now true e (c.in-Some.ensures.split n) f)) h) c.read_set.ensures.err
