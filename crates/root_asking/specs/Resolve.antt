-- The command `resolve` of a directory that has no manifest: what the loader loads for programs of it (ld.so(8); ldd(1) lists it).
use Rattle.std.specs.Prelude.{◌≡◌, ◌⊎◌, ◌≤◌, List, length, Option, Result, Ok, Err}
use Rattle.std.specs.Result.{result_map_both}
use Rattle.asking_runs.specs.Complete.{NoFault}
use Rattle.asking_runs.specs.Listings.{listed_text}
use Rattle.asking_runs.specs.Resolve.{HaveListings, ListsImage, cache_of}
use Rattle.asking_runs.specs.declared.fault.ListFault.{ListFault}
use Rattle.asking_runs.specs.declared.listings.Listed.{Listed}
use Rattle.cache_reader.specs.Cache.{CachedEntry}
use Rattle.command_status.specs.Ending.{AnswerText, EndsAs}
use Rattle.command_status.specs.declared.status.Status.{Status}
use Rattle.command_status.specs.declared.status.Status.TheVariants.{Done, Missing, NoMemory}
use Rattle.tree_face.specs.Devices.{DeviceStates, IfBothKnown, states}
use Rattle.command_words.specs.declared.kinds.Resolve.{Resolve}
use Rattle.rpath_search.specs.declared.kinds.SystemDirs.TheVariants.{Debian}
use Rattle.image_session.specs.declared.reading.ReadImage.{ReadImage}
use Rattle.image_tree.specs.Tree.{Nodes}
use Rattle.image_tree.specs.declared.tree.TheConstants.{NODES_MAX}
use Rattle.lib_types.specs.Counts.{HasRisen}
use Rattle.root_asking.specs.Faults.{of_root_list}
use Rattle.root_asking.specs.Reading.{ReadsRoot}
use Rattle.root_asking.specs.declared.fault.ReadFault.{ReadFault}
use Rattle.root_asking.specs.declared.fault.RootListFault.{RootListFault}
use Rattle.root_asking.specs.declared.fault.RootListFault.TheVariants as faults
use Rattle.root_folder.specs.Folder.{FolderState}
use Rattle.tree_face.specs.Disk.{Content, DiskState}
use Rattle.tree_face.specs.Known.{IfKnown}
use Rattle.tree_face.specs.Store.{Contents, StoreState}
use Rattle.tree_face.specs.Stream.{SinkState, SourceState}

-- ---- the answer

-- The programs are listed as those of an image, but all built-in directories are searched.
pub record ListsRoot (asked : Resolve) (image : ReadImage) (answer : Result AnswerText RootListFault) (old new : StoreState) : Type 0 where
  pub listed : Result AnswerText ListFault
  pub lists : ListsImage Debian asked image listed old new
  pub answer_is : answer ≡ result_map_both (λ text. text) faults.List listed

-- the same, for the result of the readings; if they failed, nothing is opened
abbrev pub AnswersRoot : Resolve → Result ReadImage ReadFault → Result AnswerText RootListFault → StoreState → StoreState → Type 0
AnswersRoot asked (Ok image) answer old new = ListsRoot asked image answer old new
AnswersRoot asked (Err fault) answer old new = (answer ≡ Err (faults.Read fault)) × (new ≡ old)

-- ---- completeness

-- the tree isn't too large, the cache is in order if there is one, and each program has a listing
pub record IsRootAnswerable (asked : Resolve) (tree : Nodes) (held : Contents) (cache : Content) : Type 0 where
  pub small : length tree ≤ NODES_MAX
  pub entries : Option (List CachedEntry)
  pub cache_is : cache_of cache ≡ Ok entries
  pub listings : HaveListings Debian asked tree entries held

-- If each program has a listing, all are listed, unless an interface fails or memory runs out.
abbrev pub CompletesRoot : Resolve → Nodes → Contents → Content → FolderState → FolderState → DeviceStates → DeviceStates → Status → Type 0
CompletesRoot asked tree held cache before after old new status =
    IsRootAnswerable asked tree held cache → (HasRisen before.faults after.faults → ⊥) → NoFault old new → ((status ≡ Done) ⊎ (status ≡ Missing)) ⊎ (status ≡ NoMemory)

-- ---- the command

-- The tree and the cache of the directory are read, and the command ends with the answer. It writes nothing but the answer.
pub record ResolvesRoot (asked : Resolve) (before after : FolderState) (old new : DeviceStates) (status : Status) : Type 0 where
  pub read : Result ReadImage ReadFault
  pub reads : ReadsRoot read before after old.disk new.disk
  pub answer : Result AnswerText RootListFault
  pub answers : AnswersRoot asked read answer old.store new.store
  pub ends : EndsAs (result_map_both (λ text. text) of_root_list answer) status old.sink new.sink
  pub source : new.source ≡ old.source
  pub complete : IfKnown before.contents (λ dir. IfBothKnown old.store.held old.disk.contents
      (λ held content. CompletesRoot asked dir.now held content.now.cache before after old new status))

-- ---- the states of the interfaces

-- those that the command uses
pub record AskedStates : Type 0 where
  pub folder : FolderState
  pub store : StoreState
  pub disk : DiskState
  pub sink : SinkState

abbrev pub states_of : FolderState → StoreState → DiskState → SinkState → AskedStates
states_of folder store disk sink = record { folder = folder; store = store; disk = disk; sink = sink }

abbrev pub with_source : SourceState → AskedStates → DeviceStates
with_source source s = states s.store s.disk source s.sink

-- The input may be in any state, because nothing is read from it.
abbrev pub ResolvesWithoutInput : Resolve → AskedStates → AskedStates → Status → Type 0
ResolvesWithoutInput asked old new status =
    (source : SourceState) → ResolvesRoot asked old.folder new.folder (with_source source old) (with_source source new) status

-- ---- what private functions say

abbrev pub root_answer : Result Listed RootListFault → Result AnswerText RootListFault
root_answer result = result_map_both listed_text (λ fault. fault) result
