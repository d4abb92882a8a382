-- The reading of the conf files of a directory (ldconfig(8)): what is needed of the directory is looked up.
use Rattle.std.specs.Prelude.{◌≡◌, ◌≤◌, All, length, Result, Ok, Err, IfErr, IfOk, OnOk}
use Rattle.image_tree.specs.declared.path.TheConstants.{PATH_MAX}
use Rattle.ldso_conf.specs.Looked.{items_listed, items_looked}
use Rattle.ldso_conf.specs.Reading.{IsConfOf, ReadsConf, Source}
use Rattle.ldso_conf.specs.Visits.{ReadsAny}
use Rattle.ldso_conf.specs.declared.kinds.Conf.{Conf}
use Rattle.lib_types.specs.Counts.{raised}
use Rattle.looked_conf.specs.View.{FailsBy}
use Rattle.looked_conf.specs.declared.fault.LookFault.{LookFault}
use Rattle.looked_conf.specs.declared.fault.LookFault.TheVariants as faults
use Rattle.looked_tree.specs.Looked.{IsLookedOf, Loads, Looked, LooksOn}
use Rattle.root_folder.specs.Folder.{FolderState}
use Rattle.root_tree.specs.ReadTree.{HasRead}
use Rattle.image_tree.specs.Tree.{Nodes}
use Rattle.tree_face.specs.Known.{IfKnown}
use Rattle.tree_face.specs.Store.{Contents, StoreState}
use Rattle.tree_face.specs.StoreUse.{Ending, Complete, DeviceFailed, GaveUp}

-- exactly the paths were looked up and exactly the directories were listed that this source of directories needs
abbrev pub LoadsConf : Source → Contents → FolderState → FolderState → Looked → Looked → Type 0
LoadsConf source held before after old new = Loads (λ t. items_looked source held t) (λ t. items_listed source held t) before after old new

-- a property of the tree, if it is known and what was looked at agrees with it
abbrev pub IfLooked : FolderState → Looked → (Nodes → Type 0) → Type 0
IfLooked folder l P = IfKnown folder.contents (λ c. IsLookedOf c.now l → P c.now)

-- ---- faults

abbrev pub look_ending_by : LookFault → Ending
look_ending_by (faults.Tree why) = GaveUp
look_ending_by faults.StoreFault = DeviceFailed
look_ending_by faults.NoMemory = GaveUp

abbrev pub look_ending : {A : Type 0} → Result A LookFault → Ending
look_ending (Ok value) = Complete
look_ending (Err fault) = look_ending_by fault

-- what was done to the directory before the reading stopped
abbrev pub LookFails : LookFault → FolderState → FolderState → Looked → Looked → Type 0
LookFails (faults.Tree why) before after old new = FailsBy why before after new
LookFails faults.StoreFault before after old new = LooksOn before after old new
LookFails faults.NoMemory before after old new = HasRead before after

-- ---- the reading

-- If the tree and the contents of the files are known, the conf files are those of the tree, and exactly what they need was looked at. In
-- every case the directory is only read, and what was looked at still agrees with the tree.
pub record SeesConf (source : Source) (result : Result Conf LookFault) (before after : FolderState) (start end : StoreState) (old new : Looked) : Type 0 where
  pub conf : IfOk result (λ conf. IfLooked before old (λ t. IfKnown start.held (λ held. IsConfOf source conf held t)))
  pub short : IfOk result (λ conf. All (λ dir. length dir ≤ PATH_MAX) conf.dirs)
  pub begun : IfOk result (λ conf. end.begun ≡ raised start.begun conf.files)
  pub loads : OnOk result (IfKnown start.held (λ held. LoadsConf source held before after old new))
  pub looks : OnOk result (LooksOn before after old new)
  pub fails : IfErr result (λ fault. LookFails fault before after old new)
  pub reads : IfLooked before old (λ t. ReadsConf source t (look_ending result) start end)
  pub any : ReadsAny start.held (look_ending result) start end
