-- Which question is about profiles as Unison may run them.
use Rattle.std.proofs.Common.{◌≡◌, ◌∙◌, true, List, ℕ, None, Option, Some, refl, sym, ap, subst}
use Rattle.std.proofs.lemmas.Bool.{false≢true}
use Rattle.std.proofs.lemmas.Option.{none-some, same_Some}
use Rattle.hub_state.specs.State.{State}
use Rattle.hub_cli.specs.declared.words.Question.{Question}
use Rattle.hub_cli.specs.declared.words.Question.TheVariants as ask
use Rattle.hub_cli.specs.declared.words.Reading.{Reading}
use Rattle.hub_cli.specs.declared.words.Reading.TheVariants.{Plain, Unison}
use Rattle.hub_cli.specs.Words.{Request, about, reading_for, reading_of}
use Rattle.hub_report.specs.declared.clashes_answer.ClashesAnswer.{ClashesAnswer}
use Rattle.hub_report.specs.declared.clashes_answer.ClashesAnswer.TheVariants.{Lines, Graph, Cut}
use Rattle.hub_report.specs.declared.unison_answer.UnisonAnswer.{UnisonAnswer}
use Rattle.hub_report.specs.declared.unison_answer.UnisonAnswer.TheVariants.{Safe, Refused, Unsearched, SameArchive, Clashes}
use Rattle.hub_serve.specs.InUnison.{ClashesHold, UnisonHolds, asked_in_unison, may_be_safe_in_unison, unison_question}
use Rattle.hub_serve.specs.Shown.{may_be_safe}
use Rattle.hub_serve.specs.Task.{AsksTask}
use Rattle.hub_serve.specs.declared.task.Task.{Task}
use Rattle.hub_serve.specs.declared.unison_question.UnisonQuestion.{UnisonQuestion}
use Rattle.hub_serve.specs.declared.unison_question.UnisonQuestion.TheVariants as unison
use Rattle.hub_serve.proofs.UnisonAsked.{unison-asked}

-- A question that isn't about them reads the profiles plainly.
plain-question : (q : Question) → unison_question q ≡ None → reading_of q ≡ Plain
plain-question (ask.Check Plain) is = refl
plain-question (ask.Check Unison) is = absurd (none-some unison.Check (sym is))
plain-question (ask.Clashes Plain) is = refl
plain-question (ask.Clashes Unison) is = absurd (none-some unison.Clashes (sym is))
plain-question (ask.Graph Plain) is = refl
plain-question (ask.Graph Unison) is = absurd (none-some unison.Graph (sym is))
plain-question (ask.Rounds Plain) is = refl
plain-question (ask.Rounds Unison) is = absurd (none-some unison.Rounds (sym is))
plain-question _ is = refl

pub plain-asked : (request : Request) (state : Option State) (t : Task) → AsksTask request state t → asked_in_unison request ≡ None → reading_for request ≡ Plain
plain-asked request state t a whole =
    ap reading_for a.asked ∙ plain-question a.of_set (sym (ap asked_in_unison a.asked) ∙ whole)

-- The question of words that are about them.
pub record AsksInUnison (request : Request) (u : UnisonQuestion) : Type 0 where
  pub of_set : Question
  pub asked : request ≡ about of_set
  pub is : unison_question of_set ≡ Some u
  pub reading : reading_of of_set ≡ Unison

pub asks-in-unison : (request : Request) (u : UnisonQuestion) → asked_in_unison request ≡ Some u → AsksInUnison request u
asks-in-unison (about q) u is = record { of_set = q; asked = refl; is = is; reading = unison-asked (about q) u is }
asks-in-unison _ u is = absurd (none-some u is)

-- Nothing is answered about them to words that aren't about them.
pub unasked : (request : Request) (bytes : List ℕ) (a : UnisonAnswer) → asked_in_unison request ≡ None → UnisonHolds (asked_in_unison request) bytes a → ⊥
unasked request bytes a none h = go a (subst (λ q. UnisonHolds q bytes a) none h)
  where
    of-clashes : (c : ClashesAnswer) → ClashesHold None bytes c → ⊥
    of-clashes (Lines text first) h = none-some unison.Clashes h.0
    of-clashes (Graph g) h = none-some unison.Graph h.0
    of-clashes (Cut c) h = none-some unison.Rounds h.0

    go : (a : UnisonAnswer) → UnisonHolds None bytes a → ⊥
    go Safe h = none-some h.0.0 h.0.1
    go (Refused line refusal) h = none-some unison.Check h.0
    go (Unsearched line refusal) h = none-some h.0.0 h.0.1
    go (SameArchive line refusal) h = none-some unison.Check h.0
    go (Clashes c) h = of-clashes c h

-- `safe` may be the answer to it.
pub safe-in-unison : (q : Question) (u : UnisonQuestion) → unison_question q ≡ Some u → may_be_safe_in_unison u ≡ true → may_be_safe q ≡ true
safe-in-unison (ask.Check Unison) u is may = refl
safe-in-unison (ask.Clashes Unison) u is may = refl
safe-in-unison (ask.Graph Unison) u is may = absurd (false≢true (ap may_be_safe_in_unison (same_Some unison.Graph u is) ∙ may))
safe-in-unison (ask.Rounds Unison) u is may = absurd (false≢true (ap may_be_safe_in_unison (same_Some unison.Rounds u is) ∙ may))
safe-in-unison _ u is may = absurd (none-some u is)

-- Words for what clashes ask for nothing else.
no-check : unison.Clashes ≡ unison.Check → ⊥
no-check e = cc

pub check-no-clashes : (request : Request) (reading : Reading) → asked_in_unison request ≡ Some unison.Check → request ≡ about (ask.Clashes reading) → ⊥
check-no-clashes request Plain is asks = none-some unison.Check (sym (ap asked_in_unison asks) ∙ is)
check-no-clashes request Unison is asks = no-check (same_Some unison.Clashes unison.Check (sym (ap asked_in_unison asks) ∙ is))

-- What is asked if they do, if they ask for a graph, or for rounds.
pub clashes-in-unison : (request : Request) (reading : Reading) (u : UnisonQuestion) → asked_in_unison request ≡ Some u → request ≡ about (ask.Clashes reading) → reading ≡ Unison
clashes-in-unison request reading u is asks = sym (ap reading_for asks) ∙ unison-asked request u is

-- The question by what it asks.
question_for : UnisonQuestion → Question
question_for unison.Check = ask.Check Unison
question_for unison.Clashes = ask.Clashes Unison
question_for unison.Graph = ask.Graph Unison
question_for unison.Rounds = ask.Rounds Unison

is-for : (q : Question) (u : UnisonQuestion) → unison_question q ≡ Some u → q ≡ question_for u
unfolding question_for
is-for (ask.Check Unison) u is = ap question_for (same_Some unison.Check u is)
is-for (ask.Clashes Unison) u is = ap question_for (same_Some unison.Clashes u is)
is-for (ask.Graph Unison) u is = ap question_for (same_Some unison.Graph u is)
is-for (ask.Rounds Unison) u is = ap question_for (same_Some unison.Rounds u is)
is-for _ u is = absurd (none-some u is)

pub graph-question : (request : Request) → asked_in_unison request ≡ Some unison.Graph → request ≡ about (ask.Graph Unison)
unfolding question_for
graph-question request is =
    let a = asks-in-unison request unison.Graph is in
    a.asked ∙ ap about (is-for a.of_set unison.Graph a.is)

pub rounds-question : (request : Request) → asked_in_unison request ≡ Some unison.Rounds → request ≡ about (ask.Rounds Unison)
unfolding question_for
rounds-question request is =
    let a = asks-in-unison request unison.Rounds is in
    a.asked ∙ ap about (is-for a.of_set unison.Rounds a.is)
