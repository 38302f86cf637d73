use Rattle.std.proofs.Common.{◌∙◌, sym, ap, chars}
use Rattle.hub_profile.specs.LineByLine.{lines_reading}
use Rattle.hub_profile.specs.Reading.{with_preference}
use Rattle.hub_profile.proofs.Whole.{places_of_text}
use Rattle.hub_profile.proofs.reading.read_profile.Goals as goal

pub finish-requires-clause-roots : goal.finish-requires-clause-roots
finish-requires-clause-roots c =
    (places_of_text c.args.bytes.now c.in_ok-text.text.now c.in_ok-draft.draft c.in_ok-text.ensures.text c.in_ok-text.ensures.ok (ap (λ s. lines_reading with_preference s (chars c.in_ok-text.text.now)) (sym c.new.ensures) ∙ c.in_ok-draft.ensures.ok)).0

pub finish-requires-clause-paths : goal.finish-requires-clause-paths
finish-requires-clause-paths c =
    (places_of_text c.args.bytes.now c.in_ok-text.text.now c.in_ok-draft.draft c.in_ok-text.ensures.text c.in_ok-text.ensures.ok (ap (λ s. lines_reading with_preference s (chars c.in_ok-text.text.now)) (sym c.new.ensures) ∙ c.in_ok-draft.ensures.ok)).1
