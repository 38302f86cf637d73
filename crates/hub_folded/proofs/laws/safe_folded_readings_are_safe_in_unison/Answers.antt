use Rattle.hub_folded.specs.InUnison.{norm_of}
use Rattle.hub_folded.proofs.NormOf.{norm-met}
use Rattle.hub_folded.proofs.Safe.{keeps-folded, safe-folded}
use Rattle.hub_folded.proofs.laws.safe_folded_readings_are_safe_in_unison.Goals as goal

pub returns-clause-safe : goal.returns-clause-safe
returns-clause-safe c F Vs Rs Cs read is archives =
    safe-folded F Vs Rs Cs read (norm_of F) (norm-met F) is archives

pub returns-clause-kept : goal.returns-clause-kept
returns-clause-kept c = keeps-folded
