use Rattle.hub_parts.proofs.ListedParts.{by-listed, to-listed}
use Rattle.hub_parts.proofs.Unison.{read-parts}
use Rattle.hub_parts.proofs.laws.listed_pairs_are_enough.Goals as goal

pub returns-clause-safe : goal.returns-clause-safe
returns-clause-safe c = λ Ps Rs ps roots has. (to-listed Ps Rs ps, by-listed Ps Rs ps roots has)

pub returns-clause-read : goal.returns-clause-read
returns-clause-read c = λ Ws Ps Rs ps written. read-parts Ws Ps written Rs ps
