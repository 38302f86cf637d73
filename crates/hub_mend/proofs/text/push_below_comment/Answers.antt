use Rattle.std.proofs.Common.{ap}
use Rattle.std.specs.Prelude.{string_bytes}
use Rattle.std.specs.List.{flat_map}
use Rattle.hub_mend.specs.Additions.{line_text}
use Rattle.hub_mend.proofs.Appending.{three}
use Rattle.hub_mend.proofs.text.push_below_comment.Goals as goal

pub returns : goal.returns
returns c =
    three c.push_lines.result _ _ _ _ _ _ _ _ c.in_ok-push_end.ensures c.in_ok-push.ensures c.push_lines.ensures
    (ap (flat_map (λ l. line_text (string_bytes l))) c.as_slice.ensures.value)
