-- A tree that has grown since its search: the search directories have the same files with library names.
use Rattle.std.specs.Prelude.{◌≡◌, IsTrue, List}
use Rattle.hwcap_dirs.specs.Places.{are_dirs}
use Rattle.hwcap_dirs.specs.declared.kinds.Place.{Place}
use Rattle.image_tree.specs.Tree.{Nodes}
use Rattle.library_files.specs.Search.{wanted}
use Rattle.seen_tree.specs.Part.{AreSeen}

-- the search directories are still directories, and each file with a library name there has the same node
pub record HasSameFiles (t : Nodes) (places : List Place) (new : Nodes) : Type 0 where
  pub dirs : IsTrue (are_dirs new places)
  pub files : wanted new places ≡ wanted t places
  pub nodes : AreSeen t new (wanted t places)
