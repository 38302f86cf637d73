use Rattle.std.proofs.Common.{◌∙◌, List, ap, subst, sym}
use Rattle.std.specs.Prelude.{ℕ, slice_get}
use Rattle.hub_profile.specs.Parts.{Parts}
use Rattle.hub_report.specs.Report.{TellsArchive}
use Rattle.hub_serve.specs.Unison.{archives_as}
use Rattle.hub_serve.proofs.Told.{archive-told}
use Rattle.hub_serve.proofs.verdict.report_on_archives.Goals as goal

pub returns-in-Some-clause-told : goal.returns-in-Some-clause-told
returns-in-Some-clause-told c = λ safe.
    let reading = c.args.reading in
    archive-told reading c.args.set.now c.in-Ok.archives.items c.in-Some.numbers.now c.same_archive.result
    (c.in-Ok.ensures ∙ ap (λ (Ps : List Parts). archives_as reading Ps) c.profiles.ensures.value)
    (ap (λ (xs : List (ℕ × ℕ)). slice_get xs 0) (sym c.deref.ensures.value) ∙ sym c.in-Some.ensures.value) safe
    (subst (λ (Ps : List Parts). TellsArchive Ps c.in-Some.numbers.now c.same_archive.result) c.profiles-in-Some.ensures.value c.same_archive.ensures.line)
