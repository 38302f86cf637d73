use Rattle.std.proofs.Common.{sym, ap, ◌∙◌}
use Rattle.std.specs.FinMap as fin
use Rattle.hub_path.specs.laws.General.{name_cmp-total, name_cmp-exact}
use Rattle.hub_tree.specs.laws.Ascending.{entries-ascending}
use Rattle.hub_state.specs.Taking.{BlobMap}
use Rattle.hub_state.proofs.blobs.Blobs.iter.Goals as goal

pub returns : goal.returns
returns c =
    c.iter.ensures.rest ∙ sym (entries-ascending name_cmp-total name_cmp-exact c.self.inside.blobs.entries c.iter.ensures.ordered) ∙ ap (λ (m : BlobMap). fin.entries m) c.self.view_is
