use Rattle.std.proofs.Common.{ap, length, refl, sym}
use Rattle.std.proofs.lemmas.Option.{slice_get_past, slice_get_read}
use Rattle.hubsync.specs.Bundled.{file_of}
use Rattle.hubsync.proofs.bundled.file_at.Goals as goal

pub returns-in-Some : goal.returns-in-Some
returns-in-Some c =
    sym (ap file_of (slice_get_read c.args.parts.now (length c.args.parts.now) c.args.number c.in-Some.part.now refl c.in-Some.ensures.lookup.3.0 c.in-Some.ensures.lookup.1))

pub returns-in-None : goal.returns-in-None
returns-in-None c = sym (ap file_of (slice_get_past c.args.parts.now c.args.number c.in-None.ensures.lookup.3))
