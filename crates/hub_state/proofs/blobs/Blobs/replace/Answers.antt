use Rattle.std.proofs.Common.{sym, ap, ◌∙◌}
use Rattle.std.specs.FinMap as fin
use Rattle.hub_path.specs.laws.General.{name_cmp-total}
use Rattle.hub_state.specs.Taking.{BlobMap}
use Rattle.hub_state.proofs.Files.{changed_blobs}
use Rattle.hub_state.proofs.blobs.Blobs.replace.Goals as goal

pub returns-clause-old : goal.returns-clause-old
returns-clause-old c =
    c.in_ok-old.ensures.old ∙ sym (fin.get-from_entries name_cmp-total c.self.inside.blobs.entries c.digest-digest.result)
    ∙ ap (λ (m : BlobMap). fin.get m c.digest-digest.result) c.self.view_is ∙ ap (λ d. fin.get c.args.self.now d) c.digest-digest.ensures

pub returns-clause-new : goal.returns-clause-new
returns-clause-new c =
    changed_blobs _ _ c.args.self.now c.digest-digest.result c.args.blob c.self.view_is c.in_ok-old.ensures.updates.0 ∙ ap (λ d. fin.insert c.args.self.now d c.args.blob) c.digest-digest.ensures
