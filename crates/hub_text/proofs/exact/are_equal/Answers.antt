use Rattle.std.proofs.lemmas.Slice.Eq.{slice_eq-Decides}
use Rattle.hub_text.proofs.exact.are_equal.Goals as goal

pub returns : goal.returns
returns g c = slice_eq-Decides g.met.T.Exact.exact c.args.xs.now c.args.ys.now c.eq.result c.eq.ensures
