use Rattle.hub_text.proofs.BlankCuts.{skip_trim}
use Rattle.hub_text.proofs.blank.skip_blanks.Goals as goal

pub returns : goal.returns
returns c = skip_trim _ _ c.utf8.text c.trim_start_matches.ensures.matches
