-- Why the search of a directory fails, from the errors of its parts, and what was done to the directory before.
use Rattle.std.specs.Prelude.{Bool, true, false, Result, Ok, Err}
use Rattle.library_search.specs.declared.fault.FindFault.TheVariants as finding
use Rattle.looked_conf.specs.declared.fault.LookFault.{LookFault}
use Rattle.looked_conf.specs.declared.fault.LookFault.TheVariants as looking
use Rattle.looked_search.specs.declared.fault.SearchFault.{SearchFault}
use Rattle.looked_search.specs.declared.fault.SearchFault.TheVariants.{Tree, Find}
use Rattle.root_folder.specs.Folder.{FolderState}
use Rattle.root_tree.specs.ReadTree.{HasRead, ReadsOn}

abbrev pub of_look : LookFault → SearchFault
of_look (looking.Tree why) = Tree why
of_look looking.StoreFault = Find finding.StoreFault
of_look looking.NoMemory = Find finding.NoMemory

-- the directory is only read; a call failed only if a path couldn't be looked up
abbrev pub FailsOn : SearchFault → FolderState → FolderState → Type 0
FailsOn (Tree why) old new = ReadsOn {A = Unit {0}} (Err why) old new
FailsOn (Find why) old new = HasRead old new

abbrev pub ReadsFolder : {A : Type 0} → Result A SearchFault → FolderState → FolderState → Type 0
ReadsFolder (Ok found) old new = HasRead old new
ReadsFolder (Err fault) old new = FailsOn fault old new

-- an error of reading the conf files or of looking up paths
abbrev pub is_of_seeing : SearchFault → Bool
is_of_seeing (Tree why) = true
is_of_seeing (Find finding.StoreFault) = true
is_of_seeing (Find finding.NoMemory) = true
is_of_seeing (Find (finding.TooLarge nodes)) = false

-- an error of looking up paths
abbrev pub is_of_looking : SearchFault → Bool
is_of_looking (Tree why) = true
is_of_looking (Find finding.StoreFault) = false
is_of_looking (Find finding.NoMemory) = true
is_of_looking (Find (finding.TooLarge nodes)) = false
