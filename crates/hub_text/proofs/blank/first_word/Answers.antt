use Rattle.std.proofs.Common.{◌∙◌, ap, refl, chars}
use Rattle.std.proofs.lemmas.Str.{chars-nil}
use Rattle.hub_text.proofs.BlankCuts.{word_and_rest}
use Rattle.hub_text.proofs.blank.first_word.Goals as goal

pub returns-clause-word : goal.returns-clause-word
returns-clause-word c = ap (λ t. chars t.0.now) c.unwrap_or.ensures ∙ (word_and_rest c.args.text.now c.split_once.result _ c.utf8.text c.split_once.ensures.cases refl chars-nil).0

pub returns-clause-rest : goal.returns-clause-rest
returns-clause-rest c = ap (λ t. chars t.1.now) c.unwrap_or.ensures ∙ (word_and_rest c.args.text.now c.split_once.result _ c.utf8.text c.split_once.ensures.cases refl chars-nil).1
