use Rattle.std.proofs.Common.{subst}
use Rattle.std.specs.Prelude.{Result}
use Rattle.hub_state.specs.declared.fault.StateFault.{StateFault}
use Rattle.hub_state.specs.Blocks.{Stands}
use Rattle.hub_state.proofs.Blocks.{stands-longer}
use Rattle.hub_state.proofs.reader.take_block.Goals as goal

pub returns-in-Ok-clause-stands : goal.returns-in-Ok-clause-stands
returns-in-Ok-clause-stands c = λ bytes h. c.take_bytes.ensures.stands bytes (subst (λ (r : Result _ StateFault). Stands bytes c.args.prefix.now r) c.in-Ok.is h)

pub returns-in-Err-clause-stands : goal.returns-in-Err-clause-stands
returns-in-Err-clause-stands c = λ bytes h. stands-longer bytes c.args.block.now c.in-Err.fault (subst (λ (r : Result _ StateFault). Stands bytes c.args.prefix.now r) c.in-Err.is h)
