use Rattle.std.proofs.Common.{sym, ap, ◌∙◌}
use Rattle.std.specs.FinMap as fin
use Rattle.sha2.specs.Sha256.{sha256}
use Rattle.hub_state.proofs.Files.{added_again}
use Rattle.hub_state.proofs.blobs.Blobs.add.Goals as goal

pub returns-in-Some : goal.returns-in-Some
returns-in-Some c =
    added_again c.args.self.now c.replace.new.self c.args.blob.now c.in-Some.known c.eq.result
    (sym c.in-Some.is ∙ c.in_ok-known.ensures.old ∙ ap (λ b. fin.get c.args.self.now (sha256 b)) c.in_ok-copy.ensures)
    (c.in_ok-known.ensures.new ∙ ap (λ b. fin.insert c.args.self.now (sha256 b) b) c.in_ok-copy.ensures) c.eq.ensures
