-- What was done to the directory, stage by stage.
use Rattle.std.proofs.Common.{Result, Ok, Err}
use Rattle.looked_conf.specs.Conf.{LookFails}
use Rattle.looked_conf.specs.declared.fault.LookFault.{LookFault}
use Rattle.looked_conf.specs.declared.fault.LookFault.TheVariants as looking
use Rattle.looked_tree.specs.Looked.{Looked}
use Rattle.root_folder.specs.Folder.{FolderState}
use Rattle.root_tree.specs.ReadTree.{HasRead, ReadsOn}
use Rattle.root_tree.specs.declared.fault.TreeRead.{TreeRead}
use Rattle.root_tree.proofs.Readings.{fails_on, read_on}
use Rattle.looked_search.specs.Faults.{FailsOn, ReadsFolder, of_look}
use Rattle.looked_search.specs.declared.fault.SearchFault.{SearchFault}
use Rattle.looked_search.specs.declared.fault.SearchFault.TheVariants.{Tree, Find}

-- the reading of the conf files stopped
pub look_failed : (fault : LookFault) (a b : FolderState) (x y : Looked) → LookFails fault a b x y → FailsOn (of_look fault) a b
look_failed (looking.Tree why) a b x y fails = fails.reads
look_failed looking.StoreFault a b x y fails = fails.reads
look_failed looking.NoMemory a b x y fails = fails

-- a look-up failed after a reading
pub tree_failed : {A : Type 0} (fault : TreeRead) (a b c : FolderState) → HasRead a b → ReadsOn {A = A} (Err fault) b c → FailsOn (Tree fault) a c
tree_failed fault a b c first next = fails_on a b c fault first next

failed_on : (fault : SearchFault) (a b c : FolderState) → HasRead a b → FailsOn fault b c → FailsOn fault a c
failed_on (Tree why) a b c first next = fails_on a b c why first next
failed_on (Find why) a b c first next = read_on a b c first next

-- one stage after another
pub folder_on : {A : Type 0} (r : Result A SearchFault) (a b c : FolderState) → HasRead a b → ReadsFolder r b c → ReadsFolder r a c
folder_on (Ok found) a b c first next = read_on a b c first next
folder_on (Err fault) a b c first next = failed_on fault a b c first next
