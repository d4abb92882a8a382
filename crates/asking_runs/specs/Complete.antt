-- Completeness: a command that finds what it asks for says so, unless a device fails or memory runs out.
use Rattle.std.specs.Prelude.{◌≡◌, ◌⊎◌, Result, IfOk}
use Rattle.lib_types.specs.Counts.{HasRisen}
use Rattle.tree_face.specs.Devices.{DeviceStates}
use Rattle.command_status.specs.Ending.{AnswerText, answered}
use Rattle.command_status.specs.declared.status.Status.{Status}
use Rattle.command_status.specs.declared.status.Status.TheVariants.{NoMemory}

-- no count of faults has risen
pub record NoFault (old new : DeviceStates) : Type 0 where
  pub store : HasRisen old.store.faults new.store.faults → ⊥
  pub disk : HasRisen old.disk.faults new.disk.faults → ⊥
  pub source : HasRisen old.source.faults new.source.faults → ⊥
  pub sink : HasRisen old.sink.faults new.sink.faults → ⊥

-- if there is an answer, the command ends with it
abbrev pub Completes : {F : Type 0} → Result AnswerText F → DeviceStates → DeviceStates → Status → Type 0
Completes result old new status = IfOk result (λ answer. NoFault old new → (status ≡ answered answer) ⊎ (status ≡ NoMemory))
