use Rattle.hub_schedule.specs.forms.Left.{has_pair, mark_given, HasArchives, HasMarks}
use Rattle.hub_schedule.proofs.Marked.{on_ok, put_at_roots, roots_differ, there_at_roots}
use Rattle.hub_schedule.proofs.ends.put_marks.Goals as goal

pub put_archive-requires : goal.put_archive-requires
put_archive-requires c = roots_differ c.args.profile.now c.roots-roots.ensures.valid c.roots-roots.result.now c.roots-roots.ensures.value c.index-roots-0-2.result c.index-roots-1-2.result

pub returns-clause-archives : goal.returns-clause-archives
returns-clause-archives c =
    let P = c.args.profile.now in
    on_ok c.put_archive.result _ (HasArchives (has_pair P) c.args.state.now c.put_archive.new.self)
    (there_at_roots P c.roots-roots.ensures.valid c.roots-roots.result.now c.roots-roots.ensures.value c.index-roots-0-2.result c.index-roots-1-2.result
    c.args.state.now c.in_ok-merged.merged c.put_archive.new.self)
    c.put_archive.ensures.ok

pub returns-clause-marks : goal.returns-clause-marks
returns-clause-marks c =
    let P = c.args.profile.now in
    let S = c.args.state.now in
    on_ok c.put_archive.result _ (HasMarks (mark_given P c.args.next) S c.put_archive.new.self)
    (put_at_roots P c.roots-roots.ensures.valid c.roots-roots.result.now c.roots-roots.ensures.value c.index-roots-0.result c.index-roots-1.result c.index-roots-0-2.result c.index-roots-1-2.result
    S c.args.next c.in_ok-merged.merged c.archive_or_empty-current.result.now c.archive_or_empty-current.ensures c.in_ok-merged.ensures c.put_archive.new.self)
    c.put_archive.ensures.ok
