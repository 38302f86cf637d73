use Rattle.std.proofs.Common.{◌∙◌, Some, ap, sym}
use Rattle.std.proofs.lemmas.Option.{slice_get-get_or}
use Rattle.hub_rounds.proofs.LineLists.{lines-in}
use Rattle.hub_rounds.proofs.named.Named.lines_of.Goals as goal

pub returns : goal.returns
returns c = λ es noted.
    let lists = c.args.self.now.lists.items in
    lines-in es lists c.as_slice.result.now c.args.profile
    (slice_get-get_or lists c.args.profile c.index.result.now c.requires ∙ ap Some (sym (c.as_slice.ensures ∙ c.index.ensures))) noted
