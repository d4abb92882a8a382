-- The files that the search of a directory opens (ldconfig(8)): the conf files, and the library files whose identity has no stamp.
use Rattle.std.specs.Prelude.{◌≡◌, ◌≤◌, ◌<◌, ◌⊎◌, ℕ, true, false, List, Some, None, IsSomeAnd, Option, Result, Ok, Err}
use Rattle.aux_cache.specs.declared.stamps.Stamp.{Stamp}
use Rattle.elf_dynamic.specs.Begun.{ReadsKeys}
use Rattle.file_table.specs.Analyses.{HaveNames}
use Rattle.file_table.specs.Table.{analysis_at}
use Rattle.hwcap_dirs.specs.Places.{absent, places}
use Rattle.hwcap_dirs.specs.declared.kinds.Scope.{Scope}
use Rattle.image_tree.specs.Tree.{IsTree, Nodes}
use Rattle.image_tree.specs.declared.tree.TheConstants.{NODES_MAX}
use Rattle.ldso_conf.specs.Reading.{ReadsConf}
use Rattle.ldso_conf.specs.Visits.{ReadsAny}
use Rattle.ldso_conf.specs.declared.kinds.Conf.{Conf}
use Rattle.library_search.specs.Begun.{has_too_many_nodes, lacks_file, lacks_some, opened_wanted, update_bytes, update_keys}
use Rattle.library_search.specs.Faults.{find_ending, is_store_fault}
use Rattle.library_search.specs.Ldconfig.{conf_of, links_in}
use Rattle.library_search.specs.Stages.{HasRead, IsSearchOf, opened_planned, planned_by}
use Rattle.library_search.specs.declared.fault.FindFault.{FindFault}
use Rattle.library_search.specs.declared.search.Search.{Search}
use Rattle.looked_conf.specs.Conf.{IfLooked}
use Rattle.looked_tree.specs.Looked.{Looked}
use Rattle.root_folder.specs.Folder.{FolderContent, FolderState}
use Rattle.soname_links.specs.Apply.{nodes_with}
use Rattle.tree_face.specs.Known.{IfKnown}
use Rattle.tree_face.specs.Store.{Contents, StoreState}
use Rattle.tree_face.specs.StoreUse.{Ending, Complete, GaveUp, ReadsFiles}
use Rattle.looked_search.specs.declared.fault.SearchFault.{SearchFault}
use Rattle.looked_search.specs.declared.fault.SearchFault.TheVariants.{Tree, Find}

-- ---- how the reading ends

abbrev pub ending_by : SearchFault → Ending
ending_by (Tree why) = GaveUp
ending_by (Find why) = find_ending {A = Unit {0}} (Err why)

abbrev pub search_ending : {A : Type 0} → Result A SearchFault → Ending
search_ending (Ok found) = Complete
search_ending (Err fault) = ending_by fault

-- ---- the files that are opened

-- The tree with the planned links has at most as many nodes as the tree of an image may have.
abbrev pub Fits : Scope → Contents → Nodes → List Stamp → Type 0
Fits scope held t loaded = has_too_many_nodes scope held t loaded ≡ false

-- The search of this tree opens these files and no others, if the tree fits. Whatever the stamps, only a file of the tree whose content isn't
-- held ends the reading, apart from failures of the store.
pub record OpensIn (scope : Scope) (t : Nodes) (loaded : List Stamp) (ending : Ending) (old new : StoreState) : Type 0 where
  pub keys : IfKnown old.held (λ held. Fits scope held t loaded →
      ReadsFiles (lacks_file scope held t loaded ≡ true) (Some (update_keys scope held t loaded)) (Some (update_bytes scope held t loaded)) ending old new)
  pub any : ReadsFiles (IsSomeAnd old.held (λ held. lacks_some scope held t ≡ true)) None None ending old new

-- The same, if the tree of the directory is known. In every case, only a content that isn't held ends the reading, apart from failures of the
-- store.
pub record OpensFiles (scope : Scope) (loaded : List Stamp) (ending : Ending) (folder : FolderState) (old new : StoreState) : Type 0 where
  pub known : IfKnown folder.contents (λ c. OpensIn scope c.now loaded ending old new)
  pub any : ReadsAny old.held ending old new

-- The part that was looked up would have this number of nodes with the planned links. It is more than a tree may have, and the directory's
-- tree would have at least as many.
pub record HasNoRoomFor (scope : Scope) (loaded : List Stamp) (nodes : ℕ) (folder : FolderState) (store : StoreState) : Type 0 where
  pub many : NODES_MAX < nodes
  pub fewer : IfKnown folder.contents (λ c. IfKnown store.held (λ held. nodes ≤ nodes_with c.now (links_in scope held c.now loaded)))

-- ---- what private functions say

-- the conf files were read
pub record OpensConf (scope : Scope) (ending : Ending) (folder : FolderState) (l : Looked) (old new : StoreState) : Type 0 where
  pub known : IfLooked folder l (λ t. ReadsConf (conf_of scope) t ending old new)
  pub any : ReadsAny old.held ending old new

-- the part was searched for these directories
pub record IsSearchFor (scope : Scope) (loaded : List Stamp) (conf : Conf) (part : Nodes) (known : Option Contents) (search : Search) : Type 0 where
  pub conf_is : search.conf ≡ conf
  pub places_are : search.dirs.places ≡ places scope part conf.dirs
  pub absent_is : search.dirs.absent ≡ absent part conf.dirs
  pub tree : IsTree part
  pub of : IsSearchOf scope part search
  pub named : HaveNames (analysis_at search.files.table)
  pub read : IfKnown known (λ held. HasRead scope held part loaded search)

-- the files with library names were read, and then the targets of links
pub record OpensTargets (scope : Scope) (loaded : List Stamp) (conf : Conf) (part : Nodes) (ending : Ending) (old new : StoreState) : Type 0 where
  pub search : Search
  pub is : IsSearchFor scope loaded conf part old.held search
  pub middle : StoreState
  pub first : ReadsKeys (opened_wanted part loaded (places scope part conf.dirs)) Complete old middle
  pub next : ReadsKeys (opened_planned loaded search part) ending middle new

-- not all files with library names could be read
pub record OpensWanted (scope : Scope) (loaded : List Stamp) (conf : Conf) (part : Nodes) (fault : FindFault) (old new : StoreState) : Type 0 where
  pub tree : IsTree part
  pub others : is_store_fault fault ≡ true
  pub reads : ReadsKeys (opened_wanted part loaded (places scope part conf.dirs)) (find_ending {A = Unit {0}} (Err fault)) old new

abbrev pub OpensPart : {A : Type 0} → Scope → List Stamp → Conf → Nodes → Result A FindFault → StoreState → StoreState → Type 0
OpensPart scope loaded conf part (Ok found) old new = OpensTargets scope loaded conf part Complete old new
OpensPart scope loaded conf part (Err fault) old new =
    OpensWanted scope loaded conf part fault old new ⊎ OpensTargets scope loaded conf part (find_ending {A = Unit {0}} (Err fault)) old new

-- the part with the planned links would have too many nodes
pub record HasNoRoom (scope : Scope) (loaded : List Stamp) (conf : Conf) (part : Nodes) (known : Option Contents) (nodes : ℕ) : Type 0 where
  pub search : Search
  pub is : IsSearchFor scope loaded conf part known search
  pub nodes_are : nodes ≡ nodes_with part (planned_by search part)
  pub many : NODES_MAX < nodes
