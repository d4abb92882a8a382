-- Why the arguments are not a command.
use Rattle.std.specs.Prelude.{◌≡◌, ⊤, ℕ, List, [], Result, Ok, Err}
use Rattle.clap.specs.Words.{Kinds}
use Rattle.clap.specs.declared.error.kind.ErrorKind.{ErrorKind}
use Rattle.clap.specs.declared.error.kind.ErrorKind.TheVariants.{OutOfMemory}
use Rattle.root_words.specs.declared.command.RootCommand.{RootCommand}
use Rattle.root_words.specs.declared.fault.Rejection.{Rejection}
use Rattle.root_words.specs.declared.fault.Why.{Why}
use Rattle.root_words.specs.declared.rejection.Rejected.{Rejected}
use Rattle.root_words.specs.declared.fault.RootWordsFault.{RootWordsFault}
use Rattle.root_words.specs.declared.fault.RootWordsFault.TheVariants as faults

abbrev pub because : Why → List ℕ → Rejection
because why argument = record { argument = argument; why = why }

-- the rejection, whose argument is borrowed
abbrev pub rejection_of : Rejected → Rejection
rejection_of r = because r.why r.argument.now

-- the result of reading the arguments
pub data Verdict : Type 0 where
  takes : RootCommand → Verdict
  rejects : Rejection → Verdict
  refuses : Verdict

-- the result of a call, which may also run out of memory
abbrev pub Gives : Verdict → Result RootCommand RootWordsFault → Type 0
Gives verdict (Ok command) = verdict ≡ takes command
Gives verdict (Err (faults.Rejected rejection)) = verdict ≡ rejects rejection
Gives verdict (Err (faults.Refused line)) = verdict ≡ refuses
Gives verdict (Err faults.NoMemory) = ⊤

-- an error of `clap` as a fault: out of memory stays out of memory
abbrev pub FitsKind : ErrorKind → RootWordsFault → Type 0
FitsKind kind (faults.Refused line) = kind ≡ OutOfMemory → ⊥
FitsKind kind (faults.Rejected rejection) = ⊥
FitsKind kind faults.NoMemory = ⊤

-- `clap` rejects the arguments because they have an error, or memory ran out
abbrev pub FitsRefusal : Kinds → RootWordsFault → Type 0
FitsRefusal kinds (faults.Refused line) = kinds ≡ [] → ⊥
FitsRefusal kinds (faults.Rejected rejection) = ⊥
FitsRefusal kinds faults.NoMemory = ⊤
