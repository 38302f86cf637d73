use Rattle.std.proofs.Common.{subst}
use Rattle.hub_bundle.specs.Sections.{Spells}
use Rattle.hub_respelled.specs.Respelled.{folded_contents}
use Rattle.hub_respelled.proofs.SameContents.{spells-one}
use Rattle.hub_respelled.proofs.laws.all_lines_of_a_folded_bundle_count.Goals as goal

pub returns : goal.returns
returns c bundle text f own says =
    spells-one text own (folded_contents f.said) (subst (λ t. Spells t own) f.all says) f.folded
