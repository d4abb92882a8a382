-- The search of the part of a directory that was looked at, and the links that are planned for it.
use Rattle.std.specs.Prelude.{◌≡◌, IsTrue, List}
use Rattle.aux_cache.specs.declared.stamps.Stamp.{Stamp}
use Rattle.file_table.specs.Analyses.{HaveNames}
use Rattle.file_table.specs.Table.{analysis_at}
use Rattle.hwcap_dirs.specs.Places.{absent, are_spelled, places}
use Rattle.hwcap_dirs.specs.declared.kinds.Scope.{Scope}
use Rattle.image_tree.specs.Tree.{IsTree, Nodes}
use Rattle.ldso_conf.specs.declared.kinds.Conf.{Conf}
use Rattle.library_files.specs.declared.links.FolderLinks.{FolderLinks}
use Rattle.library_search.specs.Stages.{HasFollowed, HasRead, IsPlannedFor, IsSearchOf}
use Rattle.library_search.specs.declared.finding.Found.{Found}
use Rattle.library_search.specs.declared.search.Search.{Search}
use Rattle.root_folder.specs.Folder.{FolderState}
use Rattle.tree_face.specs.Known.{IfKnown}
use Rattle.tree_face.specs.Store.{StoreState}
use Rattle.looked_search.specs.Sonames.{AddsTree, odd_paths}
use Rattle.looked_search.specs.declared.finding.FoundPart.{FoundPart}

-- The part was searched for these directories, and the planned links were put into it.
pub record SearchesPart (scope : Scope) (loaded : List Stamp) (conf : Conf) (part : Nodes) (known : StoreState) (found : Found) (tree : Nodes) : Type 0 where
  pub search : Search
  pub conf_is : search.conf ≡ conf
  pub places_are : search.dirs.places ≡ places scope part conf.dirs
  pub absent_is : search.dirs.absent ≡ absent part conf.dirs
  pub of : IsSearchOf scope part search
  pub is_part : IsTree part
  pub named : HaveNames (analysis_at found.search.files.table)
  pub read : IfKnown known.held (λ held. HasRead scope held part loaded search)
  pub planned : IsPlannedFor loaded search part found tree
  pub followed : IfKnown known.held (λ held. HasFollowed scope held loaded search found tree)
  pub is_tree : IsTree tree
  pub spelled : IsTrue (are_spelled found.search.dirs.places)

-- the results, with the links that were followed in the new tree
abbrev pub with_links_of : Found → List FolderLinks → Found
with_links_of found links = record found { followed = record found.followed { links = links } }

-- The links with the names of odd sonames were added to the tree. Else the results are the same.
pub record AddsLinks (a b : FolderState) (found : Found) (old : Nodes) (part : FoundPart) : Type 0 where
  pub same : part.found ≡ with_links_of found part.found.followed.links
  pub adds : AddsTree (odd_paths found.search.dirs.places found.search.files.table) a b old part.tree
  pub is_tree : IsTree part.tree
