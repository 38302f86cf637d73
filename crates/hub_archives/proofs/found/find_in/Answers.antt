use Rattle.std.proofs.Common.{arith}
use Rattle.std.proofs.lemmas.Option.{slice_get_within}
use Rattle.hub_archives.proofs.found.find_in.Goals as goal

pub returns : goal.returns
returns c i s at = c.loop-section.invariant i s (omega (arith, slice_get_within c.args.sections.now i s at, c.loop-section-test.false)) at
