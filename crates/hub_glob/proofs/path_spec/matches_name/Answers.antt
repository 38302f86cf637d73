use Rattle.std.proofs.Common.{◌-◌, arith}
use Rattle.hub_glob.proofs.Paths.{last_matched}
use Rattle.hub_glob.proofs.path_spec.matches_name.Goals as goal

pub returns : goal.returns
returns c =
    last_matched c.args.parts.now c.new.result c.args.path.now (c.args.len - 1) c.args.len c.name.result.now c.text.result.now c.push_name.result c.name.ensures.name c.text.ensures.text c.text.ensures.valid c.new.ensures (omega arith) c.push_name.ensures.matched
