use Rattle.std.proofs.Common.{length, sym, ap, ◌∙◌}
use Rattle.std.specs.FinMap as fin
use Rattle.hub_path.specs.laws.General.{name_cmp-total, name_cmp-exact}
use Rattle.hub_tree.specs.laws.Ascending.{entries-ascending}
use Rattle.hub_state.specs.Taking.{BlobMap}
use Rattle.hub_state.proofs.blobs.Blobs.len.Goals as goal

pub returns : goal.returns
returns c =
    c.len.ensures.len
    ∙ sym (fin.len-entries (fin.from_entries c.self.inside.blobs.entries) ∙ ap length (entries-ascending name_cmp-total name_cmp-exact c.self.inside.blobs.entries c.len.ensures.ordered))
    ∙ ap (λ (m : BlobMap). fin.len m) c.self.view_is
