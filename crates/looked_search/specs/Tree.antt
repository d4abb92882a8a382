-- What a search looks at before it reads the libraries: the conf files, the search directories, and the library names in them
-- (ldconfig(8), ld.so(8)).
use Rattle.std.specs.Prelude.{◌≡◌, ◌≤◌, All, length}
use Rattle.hwcap_dirs.specs.declared.kinds.Scope.{Scope}
use Rattle.image_tree.specs.Tree.{Nodes}
use Rattle.image_tree.specs.declared.path.TheConstants.{PATH_MAX}
use Rattle.ldso_conf.specs.Reading.{IsConfOf, ReadsConf}
use Rattle.ldso_conf.specs.declared.kinds.Conf.{Conf}
use Rattle.library_search.specs.Ldconfig.{conf_of, places_in}
use Rattle.looked_conf.specs.Conf.{IfLooked}
use Rattle.looked_places.specs.Listed.{libraries_looked}
use Rattle.looked_tree.specs.Looked.{Looked, LooksOn}
use Rattle.root_folder.specs.Folder.{FolderState}
use Rattle.seen_tree.specs.Part.{AreSeen}
use Rattle.seen_update.specs.Looked.{conf_looked, dirs_looked}
use Rattle.tree_face.specs.Known.{IfKnown}
use Rattle.tree_face.specs.Store.{Contents, StoreState}
use Rattle.tree_face.specs.StoreUse.{Complete}

-- what the planning of the links needs was seen
pub record AreThere (scope : Scope) (held : Contents) (t part : Nodes) : Type 0 where
  pub conf : AreSeen t part (conf_looked scope held t)
  pub dirs : AreSeen t part (dirs_looked scope held t)
  pub libraries : AreSeen t part (libraries_looked t (places_in scope held t))

-- The conf files were read, and then what they, the search directories and the libraries need was looked up.
pub record SeesTree (scope : Scope) (conf : Conf) (a b : FolderState) (start end : StoreState) (old new : Looked) : Type 0 where
  pub conf_is : IfLooked a old (λ t. IfKnown start.held (λ held. IsConfOf (conf_of scope) conf held t))
  pub short : All (λ dir. length dir ≤ PATH_MAX) conf.dirs
  pub seen : IfLooked a old (λ t. IfKnown start.held (λ held. AreThere scope held t new.seen.part))
  pub looks : LooksOn a b old new
  pub reads : IfLooked a old (λ t. ReadsConf (conf_of scope) t Complete start end)
  pub held : end.held ≡ start.held
