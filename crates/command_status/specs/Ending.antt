-- How a command that only asks ends: it writes its answer, or the fault line of the error.
use Rattle.std.specs.Prelude.{◌≡◌, ◌⊎◌, ℕ, Bool, List, Option, Some, None, Result, Ok, Err, if◌then◌else◌}
use Rattle.ldd_resolve.specs.declared.kinds.ProgramFault.{ProgramFault}
use Rattle.tree_face.specs.Stream.{SinkState}
use Rattle.command_status.specs.Status.{EndsWith, IsCut, IsWritten, of_program}
use Rattle.command_status.specs.declared.status.Status.{Status}
use Rattle.command_status.specs.declared.status.Status.TheVariants.{Done, Missing, OutputFault}

-- the text of an answer, and what it says of the things that were asked for
pub record AnswerText : Type 0 where
  pub text : List ℕ
  -- whether something that was asked for is missing
  pub missing : Bool
  -- why a path has no program, for the first such path
  pub fault : Option ProgramFault

-- the status of the fault, if there is one
abbrev pub first_status : Option ProgramFault → Status → Status
first_status (Some fault) other = of_program fault
first_status None other = other

abbrev pub answered : AnswerText → Status
answered answer = first_status answer.fault (if answer.missing then Missing else Done)

-- the status if the output fails
abbrev pub cut_off : AnswerText → Status
cut_off answer = first_status answer.fault OutputFault

-- the whole answer is written; or the sink fails, and a prefix of it is written without a further line
abbrev pub AnswersBy : AnswerText → Status → SinkState → SinkState → Type 0
AnswersBy answer status old new = ((status ≡ answered answer) × IsWritten answer.text old new) ⊎ ((status ≡ cut_off answer) × IsCut answer.text old new)

-- the status of the answer or of the error, and what is written
abbrev pub EndsAs : Result AnswerText Status → Status → SinkState → SinkState → Type 0
EndsAs (Ok answer) status old new = AnswersBy answer status old new
EndsAs (Err error) status old new = (status ≡ error) × EndsWith error old new
