-- What is asked about profiles as Unison may run them is asked of their readings for it.
use Rattle.std.proofs.Common.{◌≡◌, Some, refl}
use Rattle.std.proofs.lemmas.Option.{none-some}
use Rattle.hub_cli.specs.declared.words.Question.{Question}
use Rattle.hub_cli.specs.declared.words.Question.TheVariants as ask
use Rattle.hub_cli.specs.declared.words.Reading.TheVariants.{Unison}
use Rattle.hub_cli.specs.Words.{Request, about, reading_for, reading_of}
use Rattle.hub_serve.specs.InUnison.{asked_in_unison, unison_question}
use Rattle.hub_serve.specs.declared.unison_question.UnisonQuestion.{UnisonQuestion}

question-asked : (question : Question) (q : UnisonQuestion) → unison_question question ≡ Some q → reading_of question ≡ Unison
question-asked (ask.Check Unison) q is = refl
question-asked (ask.Clashes Unison) q is = refl
question-asked (ask.Graph Unison) q is = refl
question-asked (ask.Rounds Unison) q is = refl
question-asked _ q is = absurd (none-some q is)

pub unison-asked : (request : Request) (q : UnisonQuestion) → asked_in_unison request ≡ Some q → reading_for request ≡ Unison
unison-asked (about question) q is = question-asked question q is
unison-asked _ q is = absurd (none-some q is)
