use Rattle.std.proofs.Common.{◌||◌, ◌∙◌, sym}
use Rattle.hub_folded.proofs.Known.{ascii-known, other-known}
use Rattle.hub_folded.proofs.fold.is_known.Goals as goal

pub returns-then-is_ascii : goal.returns-then-is_ascii
returns-then-is_ascii c = ascii-known c.args.c (sym c.is_ascii.ensures ∙ c.if-is_ascii.true)

pub returns : goal.returns
returns c =
    c.is_any.ensures
    ∙ ((λ i. c.has_row.ensures i || (c.is_in_low_range.ensures i || c.is_in_high_range.ensures i))
    ∙ other-known c.args.c (sym c.is_ascii.ensures ∙ c.if-is_ascii.false))
