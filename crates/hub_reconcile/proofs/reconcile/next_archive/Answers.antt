use Rattle.std.proofs.Common.{List, sym, subst}
use Rattle.hub_reconcile.specs.forms.Groups.{IsPartition}
use Rattle.hub_reconcile.specs.Shown.{shown}
use Rattle.hub_reconcile.specs.declared.group.Group.{Group}
use Rattle.hub_reconcile.proofs.reconcile.next_archive.Goals as goal

pub archive_of-requires-clause-groups : goal.archive_of-requires-clause-groups
archive_of-requires-clause-groups c =
    subst (λ (bs : List Group). IsPartition (shown c.args.picture.now) bs) (sym c.as_slice-3.ensures.value) c.in_ok-groups.ensures
