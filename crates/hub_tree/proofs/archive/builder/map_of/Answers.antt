use Rattle.std.proofs.Common.{◌≡◌, length, arith}
use Rattle.std.specs.BTreeMap.{IsFromIterResult}
use Rattle.std.specs.Vec.Iter.{into_iter_len}
use Rattle.std.proofs.lemmas.Iterator.Adapters.{YieldsList-from_vec, fact_from_collect}
use Rattle.hub_path.specs.Path.{path_cmp}
use Rattle.hub_tree.proofs.archive.builder.map_of.Goals as goal

pub returns : goal.returns
returns c =
    let many : into_iter_len c.into_iter.result ≡ length c.args.marks.items = omega (arith, c.into_iter.ensures.len) in
    fact_from_collect (IsFromIterResult path_cmp) c.collect.result c.collect.ensures.ran (YieldsList-from_vec c.args.marks.items c.into_iter.ensures.rest many)
