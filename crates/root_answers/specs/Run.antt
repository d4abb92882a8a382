-- A run on a directory (ldconfig(8)): the interfaces that it works on, and why it fails before it writes.
use Rattle.std.specs.Prelude.{◌≡◌, ◌⊎◌, ◌≤◌, ◌+◌, ℕ, length, IsSomeAnd}
use Rattle.command_status.specs.declared.status.Status.{Status}
use Rattle.command_status.specs.declared.status.Status.TheVariants as statuses
use Rattle.hwcap_dirs.specs.declared.kinds.Scope.{Scope}
use Rattle.image_session.specs.Session.{Loaded, image_with}
use Rattle.image_tree.specs.declared.tree.TheConstants.{NODES_MAX}
use Rattle.ldconfig_core.specs.Outcome.{Lacking, Outcome, TooLarge, TooMany, Writes, update_outcome}
use Rattle.lib_types.specs.Counts.{HasRisen}
use Rattle.root_folder.specs.Folder.{FolderState, KeepsFolder}
use Rattle.root_tree.specs.ReadTree.{IsTooLarge, KeepsMade}
use Rattle.root_update.specs.Loading.{IfAux, LoadsRoot}
use Rattle.root_update.specs.Made.{RootStates, image_states, root_states}
use Rattle.root_update.specs.declared.parts.RootParts.{RootParts}
use Rattle.tree_face.specs.Disk.{DiskState, KeepsAll}
use Rattle.tree_face.specs.Known.{IfKnown}
use Rattle.tree_face.specs.Store.{Contents, StoreState}
use Rattle.tree_face.specs.Stream.{SinkState}

-- ---- the interfaces

pub record RunStates : Type 0 where
  pub files : RootStates
  pub sink : SinkState

abbrev pub run_states : FolderState → StoreState → DiskState → SinkState → RunStates
run_states folder store disk sink = record { files = root_states folder store disk; sink = sink }

-- a property of a directory's files and its image, if they are known: its tree, with the records of the auxiliary cache if that is read
abbrev pub IfDirectory : RootParts → RootStates → (Contents → Loaded → Type 0) → Type 0
IfDirectory parts s P = IfKnown s.store.held (λ held. IfKnown s.folder.contents (λ dir. IfAux parts.aux s.disk.contents (λ aux. P held (image_with dir.now aux))))

-- no link is made, no directory is flushed, and no file is replaced: a crash leaves what a crash before the run might have left
pub record WritesNothing (old new : RootStates) : Type 0 where
  pub folder : KeepsFolder old.folder new.folder
  pub made : KeepsMade old.folder.counts new.folder.counts
  pub disk : KeepsAll old.disk new.disk

-- no interface has counted an error
pub record CountsNoError (old new : RootStates) : Type 0 where
  pub folder : new.folder.faults ≡ old.folder.faults
  pub store : new.store.faults ≡ old.store.faults
  pub disk : new.disk.faults ≡ old.disk.faults

-- ---- why a run fails before it writes

-- the image of the directory is read, and its update has this outcome
pub record HasOutcome (parts : RootParts) (held : Contents) (outcome : Outcome) (old new : RootStates) : Type 0 where
  pub image : Loaded
  pub loads : LoadsRoot parts.aux image (image_states old) (image_states new)
  pub is : update_outcome parts.scope held image ≡ outcome

-- the directory or the store has counted an error of a reading call, or the store lacks a file that the update must open
abbrev pub FailsToRead : RootParts → RootStates → RootStates → Type 0
FailsToRead parts old new =
    HasRisen old.folder.read_faults new.folder.read_faults
    ⊎ (HasRisen old.store.faults new.store.faults ⊎ IsSomeAnd old.store.held (λ held. HasOutcome parts held Lacking old new))

-- the directory has more paths than are read, or its tree would have too many nodes with the planned links
abbrev pub HasNoRoom : RootParts → ℕ → ℕ → RootStates → RootStates → Type 0
HasNoRoom parts nodes bytes old new =
    ((nodes ≡ NODES_MAX + 1) × ((bytes ≡ 0) × IsTooLarge old.folder)) ⊎ IfKnown old.store.held (λ held. HasOutcome parts held (TooLarge nodes bytes) old new)

-- The cause of each status of a run that fails before it writes. Other statuses don't occur. Memory runs out only where no interface has
-- counted an error.
abbrev pub HasCause : RootParts → Status → RootStates → RootStates → Type 0
HasCause parts statuses.StoreFault old new = FailsToRead parts old new
HasCause parts statuses.DiskFault old new = HasRisen old.disk.faults new.disk.faults
HasCause parts (statuses.TooLarge nodes bytes) old new = HasNoRoom parts nodes bytes old new
HasCause parts (statuses.TooMany count) old new = IfKnown old.store.held (λ held. HasOutcome parts held (TooMany count) old new)
HasCause parts statuses.NoMemory old new = CountsNoError old new
HasCause parts _ old new = ⊥

-- the status has its cause, and nothing is written, not even on the output
pub record FailsFirst (parts : RootParts) (status : Status) (old new : RunStates) : Type 0 where
  pub cause : HasCause parts status old.files new.files
  pub nothing : WritesNothing old.files new.files
  pub output : new.sink ≡ old.sink

-- ---- completeness

-- the update of this image writes, and its tree isn't too large
pub record CanBeUpdated (scope : Scope) (held : Contents) (image : Loaded) : Type 0 where
  pub small : length image.tree ≤ NODES_MAX
  pub writes : update_outcome scope held image ≡ Writes

-- no count of errors has risen
pub record RaisesNone (old new : RunStates) : Type 0 where
  pub folder : HasRisen old.files.folder.faults new.files.folder.faults → ⊥
  pub reading : HasRisen old.files.folder.read_faults new.files.folder.read_faults → ⊥
  pub store : HasRisen old.files.store.faults new.files.store.faults → ⊥
  pub disk : HasRisen old.files.disk.faults new.files.disk.faults → ⊥
  pub sink : HasRisen old.sink.faults new.sink.faults → ⊥

-- if the directory can be updated and no interface counts an error, the status is one of these
abbrev pub Completes : RootParts → RunStates → RunStates → Type 0 → Type 0
Completes parts old new IsOne =
    IfDirectory parts old.files (λ held image. CanBeUpdated parts.scope held image → RaisesNone old new → IsOne)

-- an update that can be made is done, or memory runs out
abbrev pub UpdateCompletes : RootParts → Status → RunStates → RunStates → Type 0
UpdateCompletes parts status old new = Completes parts old new ((status ≡ statuses.Done) ⊎ (status ≡ statuses.NoMemory))

-- the same for a check, which may find a change
abbrev pub CheckCompletes : RootParts → Status → RunStates → RunStates → Type 0
CheckCompletes parts status old new =
    Completes parts old new ((status ≡ statuses.Done) ⊎ ((status ≡ statuses.Missing) ⊎ (status ≡ statuses.NoMemory)))
