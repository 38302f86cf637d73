-- Which question asks for what.
use Rattle.std.proofs.Common.{◌≡◌, ◌∙◌, inl, inr, Option, Some, None, refl, sym, ap, subst}
use Rattle.std.specs.Prelude.{⊤, IfSome}
use Rattle.std.proofs.lemmas.Option.{same_Some}
use Rattle.hub_cert.specs.Refused.{IsRefused}
use Rattle.hub_cert.specs.declared.fault.CheckFault.{CheckFault}
use Rattle.hub_state.specs.State.{State}
use Rattle.hub_bundle.specs.declared.sections.BundleContents.{BundleContents}
use Rattle.hub_bundle.specs.Sections.{members}
use Rattle.hub_cli.specs.declared.words.Question.{Question}
use Rattle.hub_cli.specs.declared.words.Question.TheVariants as ask
use Rattle.hub_cli.specs.declared.words.Question.TheVariants.{CheckWithState, Run, RunByRounds, RunInOrder, Check, Certify, Verify}
use Rattle.hub_cli.specs.declared.words.Reading.{Reading}
use Rattle.hub_cli.specs.Words.{Request, about, reading_for, reading_of}
use Rattle.hub_serve.specs.declared.task.Task.{Task}
use Rattle.hub_serve.specs.declared.task.Task.TheVariants as task
use Rattle.hub_serve.specs.Told.{FaultOf, IsRefusedFor}
use Rattle.hub_serve.specs.Task.{AsksTask, reading_in, task_of}

-- The request by which alone this is asked for, of a bundle that has this state or none. A check, a run and certificates
-- aren't in question here.
abbrev pub AsksAlone : Task → Request → Option State → Type 0
AsksAlone task.Verify request state = request ≡ about Verify
AsksAlone (task.Clashes reading) request state = request ≡ about (ask.Clashes reading)
AsksAlone (task.Graph reading) request state = request ≡ about (ask.Graph reading)
AsksAlone (task.Rounds reading) request state = request ≡ about (ask.Rounds reading)
AsksAlone (task.RunByRounds n S) request state = (request ≡ about (RunByRounds n)) × (state ≡ Some S)
AsksAlone (task.RunInOrder n S) request state = (request ≡ about (RunInOrder n)) × (state ≡ Some S)
AsksAlone _ request state = ⊤

-- Each of these is asked for by one question.
asks-by : (q : Question) (state : Option State) → IfSome (task_of q state) (λ t. AsksAlone t (about q) state)
asks-by CheckWithState None = tt
asks-by CheckWithState (Some S) = tt
asks-by (Run n) None = tt
asks-by (Run n) (Some S) = tt
asks-by (RunByRounds n) None = tt
asks-by (RunByRounds n) (Some S) = (refl, refl)
asks-by (RunInOrder n) None = tt
asks-by (RunInOrder n) (Some S) = (refl, refl)
asks-by (Check reading) state = tt
asks-by Certify state = tt
asks-by Verify state = refl
asks-by (ask.Clashes reading) state = refl
asks-by (ask.Graph reading) state = refl
asks-by (ask.Rounds reading) state = refl

pub asks : (request : Request) (state : Option State) (t : Task) → AsksTask request state t → AsksAlone t request state
asks request state t a =
    subst (λ r. AsksAlone t r state) (sym a.asked)
    (subst (λ o. IfSome o (λ u. AsksAlone u (about a.of_set) state)) a.task_is (asks-by a.of_set state))

-- What is to be done reads the profiles as it was asked for.
read-for : (q : Question) (state : Option State) → IfSome (task_of q state) (λ t. reading_in t ≡ reading_of q)
read-for CheckWithState None = refl
read-for CheckWithState (Some S) = refl
read-for (Run n) None = tt
read-for (Run n) (Some S) = refl
read-for (RunByRounds n) None = tt
read-for (RunByRounds n) (Some S) = refl
read-for (RunInOrder n) None = tt
read-for (RunInOrder n) (Some S) = refl
read-for (Check reading) state = refl
read-for Certify state = refl
read-for Verify state = refl
read-for (ask.Clashes reading) state = refl
read-for (ask.Graph reading) state = refl
read-for (ask.Rounds reading) state = refl

pub reading-asked : (q : Question) (state : Option State) (t : Task) → task_of q state ≡ Some t → reading_in t ≡ reading_of q
reading-asked q state t is = subst (λ o. IfSome o (λ u. reading_in u ≡ reading_of q)) is (read-for q state)

pub reading-for-task : (request : Request) (state : Option State) (t : Task) → AsksTask request state t → reading_in t ≡ reading_for request
reading-for-task request state t a = reading-asked a.of_set state t a.task_is ∙ ap reading_for (sym a.asked)

-- The question what clashes asks for nothing else.
pub asked-clashes : (reading : Reading) (request : Request) (state : Option State) (t : Task) → AsksTask request state t → request ≡ about (ask.Clashes reading) → t ≡ task.Clashes reading
asked-clashes reading request state t a is =
    let about_is : about a.of_set ≡ about (ask.Clashes reading) = sym a.asked ∙ is in
    let q_is : a.of_set ≡ ask.Clashes reading = cc in
    sym (same_Some (task.Clashes reading) t (subst (λ q. task_of q state ≡ Some t) q_is a.task_is))

-- So no set is refused for a goal then.
pub unrefused : (reading : Reading) (request : Request) (c : BundleContents) (t : Task) (e : CheckFault) → AsksTask request c.state t → request ≡ about (ask.Clashes reading) → IsRefusedFor t c e → IsRefused (members c) e
unrefused reading request c t e a is (inl h) = h.0
unrefused reading request c t e a is (inr h) = absurd (subst (λ u. FaultOf u (members c) c.certificates e) (asked-clashes reading request c.state t a is) h)
