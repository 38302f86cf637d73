use Rattle.std.proofs.Common.{List, sym, subst}
use Rattle.hub_reconcile.specs.forms.Blocks.{IsPartition}
use Rattle.hub_reconcile.specs.declared.block.Block.{Block}
use Rattle.hub_reconcile.specs.Shown.{shown}
use Rattle.hub_reconcile.proofs.reconcile.items_and_archive.Goals as goal

pub archive_of-requires-clause-blocks : goal.archive_of-requires-clause-blocks
archive_of-requires-clause-blocks c =
    subst (λ (bs : List Block). IsPartition (shown c.args.picture.now) bs) (sym c.as_slice-4.ensures.value) c.in_ok-blocks.ensures
