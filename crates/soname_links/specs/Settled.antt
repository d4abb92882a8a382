-- After the planned links are put, the same files are read and no further link is planned.
use Rattle.std.specs.Prelude.{◌≡◌, IsTrue, List, [], map}
use Rattle.hwcap_dirs.specs.Places.{are_dirs}
use Rattle.hwcap_dirs.specs.declared.kinds.Place.{Place}
use Rattle.image_tree.specs.Tree.{Nodes}
use Rattle.place_libraries.specs.Libraries.{libraries_in}
use Rattle.soname_links.specs.Plan.{links}
use Rattle.library_files.specs.Search.{wanted}
use Rattle.file_table.specs.Analyses.{Analyses, HaveNames}
use Rattle.link_plan.specs.declared.kinds.Planned.{Planned}

-- the search directories are still directories, have the same files and libraries, and want no link
pub record IsSettled (what : Analyses) (t : Nodes) (places : List Place) (new : Nodes) : Type 0 where
  pub dirs : IsTrue (are_dirs new places)
  pub files : wanted new places ≡ wanted t places
  pub libraries : map (libraries_in what new) places ≡ map (libraries_in what t) places
  pub none : links what new places ≡ []

-- this holds for all search directories and analyses for which the plan was made
abbrev pub Settles : Nodes → List Planned → Nodes → Type 0
Settles t plan new =
    (what : Analyses) (places : List Place) → HaveNames what → IsTrue (are_dirs t places) → plan ≡ links what t places → IsSettled what t places new
