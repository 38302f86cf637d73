use Rattle.hub_path.specs.declared.side.Side.TheVariants.{Right}
use Rattle.hub_nested.specs.Meeting.{meeting}
use Rattle.hub_apart.specs.ApartLines.{Adds}
use Rattle.hub_apart.specs.NestedLines.{AreLinesAt, AreLinesOfNested}
use Rattle.hub_apart.proofs.NestedParts.{four, on-ok-so}
use Rattle.hub_apart.proofs.nested.search_nested.Goals as goal

pub returns-clause-lines : goal.returns-clause-lines
returns-clause-lines c =
    let P = c.args.first.now in
    let Q = c.args.second.now in
    let i = c.args.numbers.first in
    let j = c.args.numbers.second in
    let old = c.args.lines.now.items in
    let o = c.search_at-3.new.lines.items in
    let new = c.search_at-4.new.lines.items in
    on-ok-so c.search_at-4.result (Adds (AreLinesAt (meeting P Right Q Right) i j) o new) (Adds (AreLinesOfNested P Q i j) old new)
    (λ d. four P Q i j old c.search_at.new.lines.items c.search_at-2.new.lines.items o new
    c.in_ok-search_at.ensures.lines c.in_ok-search_at-2.ensures.lines c.in_ok-search_at-3.ensures.lines d)
    c.search_at-4.ensures.lines
