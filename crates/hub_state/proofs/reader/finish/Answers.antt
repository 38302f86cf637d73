use Rattle.std.proofs.Common.{◌≡◌, ◌⊎◌, List, subst}
use Rattle.std.specs.Prelude.{ℕ, Result, Ok, Err, IfOk, IfErr}
use Rattle.hub_state.specs.declared.fault.StateFault.{StateFault}
use Rattle.hub_state.specs.State.{State}
use Rattle.hub_state.specs.Blocks.{bytes_taken, out_of_memory, Stands}
use Rattle.hub_state.proofs.Blocks.{stands-Ok, stands-Err, stands-fault}
use Rattle.hub_state.proofs.reader.finish.Goals as goal

pub returns-in-Ok-clause-ok : goal.returns-in-Ok-clause-ok
returns-in-Ok-clause-ok c = λ bytes h.
    let p = c.args.prefix.now in
    stands-Ok bytes p c.read_rest.result (subst (λ (r : Result _ StateFault). Stands bytes p r) c.in-Ok.is h)
    (subst (λ (s : List ℕ). IfOk c.read_rest.result (λ (x : State). bytes_taken p.number p.draft s ≡ Ok x)) c.as_slice.ensures.value c.read_rest.ensures.ok)

pub returns-in-Ok-clause-err : goal.returns-in-Ok-clause-err
returns-in-Ok-clause-err c = λ bytes h.
    let p = c.args.prefix.now in
    stands-Err bytes p c.read_rest.result (subst (λ (r : Result _ StateFault). Stands bytes p r) c.in-Ok.is h)
    (subst (λ (s : List ℕ). IfErr c.read_rest.result (λ (e : StateFault). (e ≡ out_of_memory) ⊎ (bytes_taken p.number p.draft s ≡ Err e))) c.as_slice.ensures.value c.read_rest.ensures.err)

pub returns-in-Err-clause-err : goal.returns-in-Err-clause-err
returns-in-Err-clause-err c = λ bytes h. stands-fault bytes c.in-Err.fault (subst (λ (r : Result _ StateFault). Stands bytes c.args.prefix.now r) c.in-Err.is h)
