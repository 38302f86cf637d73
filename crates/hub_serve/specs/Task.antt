-- What is to be done about a set.
use Rattle.std.specs.Prelude.{◌≡◌, ◌⊎◌, ℕ, Option, Some, None}
use Rattle.hub_state.specs.State.{State}
use Rattle.hub_cli.specs.declared.words.Question.{Question}
use Rattle.hub_cli.specs.declared.words.Question.TheVariants.{CheckWithState, Run, RunByRounds, RunInOrder, Check}
use Rattle.hub_cli.specs.declared.words.Question.TheVariants.{Certify, Verify, Clashes, Graph, Rounds}
use Rattle.hub_cli.specs.declared.words.Reading.{Reading}
use Rattle.hub_cli.specs.declared.words.Reading.TheVariants.{Plain}
use Rattle.hub_cli.specs.Words.{Request, about}
use Rattle.hub_cli.specs.declared.words.TheConstants.{DEFAULT_WORKERS}
use Rattle.hub_serve.specs.declared.task.Task.{Task}
use Rattle.hub_serve.specs.declared.task.Task.TheVariants as task

-- What a question asks to do if the bundle has this state, or none. Without a command, the jobs are
-- run by `DEFAULT_WORKERS` workers if there is a state. A run without a state can't be done.
abbrev pub task_of : Question → Option State → Option Task
task_of CheckWithState None = Some (task.Check Plain)
task_of CheckWithState (Some S) = Some (task.RunJobs DEFAULT_WORKERS S)
task_of (Run n) None = None
task_of (Run n) (Some S) = Some (task.RunJobs n S)
task_of (RunByRounds n) None = None
task_of (RunByRounds n) (Some S) = Some (task.RunByRounds n S)
task_of (RunInOrder n) None = None
task_of (RunInOrder n) (Some S) = Some (task.RunInOrder n S)
task_of (Check reading) state = Some (task.Check reading)
task_of Certify state = Some task.Certify
task_of Verify state = Some task.Verify
task_of (Clashes reading) state = Some (task.Clashes reading)
task_of (Graph reading) state = Some (task.Graph reading)
task_of (Rounds reading) state = Some (task.Rounds reading)

-- How the profiles are read for what is to be done.
abbrev pub reading_in : Task → Reading
reading_in (task.Check reading) = reading
reading_in (task.Clashes reading) = reading
reading_in (task.Graph reading) = reading
reading_in (task.Rounds reading) = reading
reading_in _ = Plain

-- It was asked to do this of a bundle that has this state, or none.
pub record AsksTask (request : Request) (state : Option State) (t : Task) : Type 0 where
  pub of_set : Question
  pub asked : request ≡ about of_set
  pub task_is : task_of of_set state ≡ Some t

-- It was asked for a run by so many workers, by rounds, in order or neither, of a bundle that has no
-- state.
pub record LacksState (request : Request) (state : Option State) : Type 0 where
  pub workers : ℕ
  pub asked : (request ≡ about (Run workers)) ⊎ (request ≡ about (RunByRounds workers))
      ⊎ (request ≡ about (RunInOrder workers))
  pub missing : state ≡ None
