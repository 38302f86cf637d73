use Rattle.std.proofs.Common.{ap, chars}
use Rattle.hub_profile.specs.Reading.{with_value}
use Rattle.hub_profile.proofs.draft.Draft.set.Goals as goal

pub returns-in-NoEffect-clause-ok : goal.returns-in-NoEffect-clause-ok
returns-in-NoEffect-clause-ok c = ap (λ k. with_value k c.args.self.now c.args.number (chars c.args.value.now)) c.in-NoEffect.is
