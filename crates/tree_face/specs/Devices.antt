-- The states of the devices that a command works on.
use Rattle.std.specs.Prelude.{Option}
use Rattle.std.specs.Borrow.{MutBor}
use Rattle.tree_face.specs.declared.devices.Devices.{Devices}
use Rattle.tree_face.specs.Disk.{DiskState, DiskContent}
use Rattle.tree_face.specs.Known.{IfKnown}
use Rattle.tree_face.specs.Store.{StoreState, Contents}
use Rattle.tree_face.specs.Stream.{SourceState, SinkState}

pub record DeviceStates : Type 0 where
  pub store : StoreState
  pub disk : DiskState
  pub source : SourceState
  pub sink : SinkState

abbrev pub states : StoreState → DiskState → SourceState → SinkState → DeviceStates
states store disk source sink = record { store = store; disk = disk; source = source; sink = sink }

-- the states of devices that are passed as one value
abbrev pub states_in : {S D I O : Type 0} → (S → StoreState) → (D → DiskState) → (I → SourceState) → (O → SinkState) → Devices S D I O → DeviceStates
states_in store disk source sink d = states (store d.store.now) (disk d.disk.now) (source d.source.now) (sink d.sink.now)

-- the states after a call that takes this value apart
abbrev pub states_left : {S D I O : Type 0} → (S → StoreState) → (D → DiskState) → (I → SourceState) → (O → SinkState)
    → MutBor S × (MutBor D × (MutBor I × (MutBor O × Unit {0}))) → DeviceStates
states_left store disk source sink d = states (store d.0.now) (disk d.1.0.now) (source d.1.1.0.now) (sink d.1.1.1.0.now)

-- a property of the store's contents and the disk's content, if both are known
abbrev pub IfBothKnown : Option Contents → Option DiskContent → (Contents → DiskContent → Type 0) → Type 0
IfBothKnown held disk P = IfKnown held (λ contents. IfKnown disk (λ content. P contents content))
