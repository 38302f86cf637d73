use Rattle.std.proofs.Common.{◌∙◌, ◌+◌, ap, arith}
use Rattle.hub_folder.specs.Told.{folder_profiles, profile_bytes}
use Rattle.hub_folder.proofs.NotedFacts.{noted-more}
use Rattle.hub_folder.proofs.OperandFacts.{folder_profiles-more, named-more, profile_bytes_more, unnamed-at}
use Rattle.hub_folder.proofs.operands.profiles_named.Goals as goal

pub returns-in-Err-clause-err : goal.returns-in-Err-clause-err
returns-in-Err-clause-err g c =
    unnamed-at (g.F.FileReader.reads c.args.reader.now) (g.F.FileReader.lists c.args.reader.now) c.args.operands.now c.loop-operand.operand-index _
    c.loop-operand.profiles.items c.loop-operand.taken c.in-Err.fault c.loop-operand-test.true c.loop-operand.invariant.named c.loop-operand.invariant.bytes
    c.in-Err.ensures.err

pub loop-operand-preserved : goal.loop-operand-preserved
loop-operand-preserved g c =
    let own = c.in-Ok.own.profiles.items in
    let old = c.loop-operand.profiles.items in
    let pushed = c.in_ok-push_all-in-Ok.ensures in
    let folders = folder_profiles-more old _ _ own pushed in
    let more = profile_bytes_more (folder_profiles old) own _ folders in
    let sum = c.bytes_with-taken.ensures ∙ ap (λ ps. c.loop-operand.taken + profile_bytes ps) c.as_slice.ensures.value in
    record {
      named =
          named-more (g.F.FileReader.reads c.args.reader.now) (g.F.FileReader.lists c.args.reader.now) c.args.operands.now c.loop-operand.operand-index _
          old own _ _ c.loop-operand-test.true pushed c.machine_of.ensures c.loop-operand.invariant.named c.in-Ok.ensures.ok;
      noted =
          noted-more (g.F.FileReader.reads c.args.reader.now) (g.F.FileReader.lists c.args.reader.now) c.args.operands.now c.loop-operand.operand-index _
          (folder_profiles old) own _ c.loop-operand.rootless.items c.in-Ok.own.rootless.items _ c.loop-operand-test.true folders c.in_ok-push_paths-in-Ok.ensures
          c.loop-operand.invariant.noted c.in-Ok.ensures.noted;
      bytes = omega (arith, sum, more, c.loop-operand.invariant.bytes);
      within = omega (arith, sum, c.in-Ok.ensures.fits);
    }
