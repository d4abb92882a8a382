-- The status of an update or a check whose result is known, and what is written on the output.
use Rattle.std.specs.Prelude.{◌≡◌, ◌⊎◌, Result, Ok, Err}
use Rattle.command_status.specs.declared.status.Status.{Status}
use Rattle.command_status.specs.declared.status.Status.TheVariants.{Done, NoMemory}
use Rattle.root_answers.specs.Answers.{Answers, check_text, verbose_text}
use Rattle.root_answers.specs.declared.answers.Shown.{Shown}
use Rattle.root_update.specs.Check.{status_of_changes}
use Rattle.root_update.specs.Faults.{of_root}
use Rattle.root_update.specs.declared.checking.RootChanges.{RootChanges}
use Rattle.root_update.specs.declared.fault.RootFault.{RootFault}
use Rattle.root_update.specs.declared.updating.Updated.{Updated}
use Rattle.tree_face.specs.Stream.{SinkState}

-- memory runs out, and nothing is written
abbrev pub GivesUp : Status → SinkState → SinkState → Type 0
GivesUp status old new = (status ≡ NoMemory) × (new ≡ old)

abbrev pub EndsUpdate : Shown → Result Updated RootFault → Status → SinkState → SinkState → Type 0
EndsUpdate shown (Ok updated) status old new = Answers (verbose_text shown.front.now shown.verbose updated.looked updated.links) Done status old new ⊎ GivesUp status old new
EndsUpdate shown (Err fault) status old new = (status ≡ of_root fault) × (new ≡ old)

abbrev pub EndsCheck : Shown → Result RootChanges RootFault → Status → SinkState → SinkState → Type 0
EndsCheck shown (Ok changes) status old new =
    Answers (check_text shown.front.now shown.verbose changes shown.cache.now) (status_of_changes changes) status old new ⊎ GivesUp status old new
EndsCheck shown (Err fault) status old new = (status ≡ of_root fault) × (new ≡ old)
