use Rattle.std.proofs.Common.{sym, ap, ◌∙◌}
use Rattle.std.specs.FinMap as fin
use Rattle.hub_path.specs.laws.General.{name_cmp-total}
use Rattle.hub_state.specs.Taking.{BlobMap}
use Rattle.hub_state.proofs.blobs.Blobs.get.Goals as goal

pub returns : goal.returns
returns c =
    c.get.ensures.value ∙ sym (fin.get-from_entries name_cmp-total c.self.inside.blobs.entries c.args.digest.now) ∙ ap (λ (m : BlobMap). fin.get m c.args.digest.now) c.self.view_is
