use Rattle.std.proofs.Common.{◌≡◌, refl, sym, ◌∙◌}
use Rattle.std.proofs.lemmas.Bool.{false≢true}
use Rattle.std.proofs.lemmas.Slice.Eq.{slice_eq-Decides, bytes_eq-Decides}
use Rattle.hub_path.specs.Path.{Path, path_eq}
use Rattle.hub_state.proofs.draft.Draft.first_root.Goals as goal

pub returns-clause-apart : goal.returns-clause-apart
returns-clause-apart c = λ e.
    let r : Path = c.in-HalfArchive.first in
    let s : Path = c.args.second.now in
    let same : r ≡ s = sym c.in_ok-copy.ensures ∙ e in
    absurd (false≢true (sym c.if-eq.false ∙ c.eq.ensures ∙ (slice_eq-Decides bytes_eq-Decides r s (path_eq r s) refl).1 same))
