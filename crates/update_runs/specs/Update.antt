-- One update of a session, with its report.
use Rattle.std.specs.Prelude.{◌≡◌, Result, Ok, Err}
use Rattle.hwcap_dirs.specs.declared.kinds.Scope.TheVariants.{Image}
use Rattle.lib_types.specs.Counts.{HasRisen}
use Rattle.tree_face.specs.declared.disk.Tag.{Tag}
use Rattle.tree_face.specs.Disk.{DiskState}
use Rattle.tree_face.specs.Follows.{IsFollowedBy, IsFollowedByPart}
use Rattle.tree_face.specs.Known.{Relates}
use Rattle.tree_face.specs.Store.{StoreState}
use Rattle.tree_face.specs.Stream.{SinkState}
use Rattle.image_session.specs.Session.{Loaded}
use Rattle.ldconfig_core.specs.declared.fault.UpdateFault.{UpdateFault}
use Rattle.ldconfig_core.specs.declared.report.Report.{Report}
use Rattle.ldconfig_core.specs.Update.{Updates}
use Rattle.command_status.specs.declared.status.Status.{Status}
use Rattle.command_status.specs.declared.status.Status.TheVariants as statuses
use Rattle.command_status.specs.Status.{of_update}
use Rattle.update_runs.specs.declared.fault.UpdatingFault.{UpdatingFault}
use Rattle.update_runs.specs.declared.fault.UpdatingFault.TheVariants.{Update, OutputFault}

-- the status of a command that ends with this fault
abbrev pub of_updating : UpdatingFault → Status
of_updating (Update fault) = of_update fault
of_updating OutputFault = statuses.OutputFault

-- the states of the devices that an update works on
pub record States : Type 0 where
  pub store : StoreState
  pub disk : DiskState
  pub sink : SinkState

abbrev pub states : StoreState → DiskState → SinkState → States
states store disk sink = record { store = store; disk = disk; sink = sink }

-- The updated session is returned after its whole report, or the output has failed after a prefix of it. Without an update nothing
-- is reported.
abbrev pub Reports : Result (Loaded × Report) UpdateFault → Result Loaded UpdatingFault → SinkState → SinkState → Type 0
Reports (Ok updated) (Ok session) old new = (session ≡ updated.0) × (Relates (IsFollowedBy updated.1.text) old.written new.written × (new.faults ≡ old.faults))
Reports (Ok updated) (Err OutputFault) old new = Relates (IsFollowedByPart updated.1.text) old.written new.written × HasRisen old.faults new.faults
Reports (Ok updated) (Err (Update fault)) old new = ⊥
Reports (Err fault) to old new = (to ≡ Err (Update fault)) × (new ≡ old)

-- one update and its report: the updated session, or why there is none
pub record UpdatesTo (tag : Tag) (s : Loaded) (to : Result Loaded UpdatingFault) (old new : States) : Type 0 where
  pub result : Result (Loaded × Report) UpdateFault
  pub updates : Updates Image tag s result old.store new.store old.disk new.disk
  pub reports : Reports result to old.sink new.sink
