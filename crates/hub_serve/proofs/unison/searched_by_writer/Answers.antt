use Rattle.hub_serve.proofs.UnisonFound.{by-writer-found}
use Rattle.hub_serve.proofs.unison.searched_by_writer.Goals as goal

pub returns-clause-found : goal.returns-clause-found
returns-clause-found c =
    let rounds = c.rounds_without_lines_are_safe_in_unison.ensures in
    let searched = c.in_ok-lines_in_unison.ensures in
    let sorted = c.in_ok-by_writer.ensures in
    by-writer-found rounds.anywhere rounds.safe rounds.kept c.lines_show_unsafe_parts.ensures c.args.profiles c.args.rules _ _
    searched.valid searched.readings searched.rules searched.lines sorted.profiles sorted.rules sorted.lines sorted.order
