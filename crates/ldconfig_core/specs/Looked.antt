-- The search directories of an update, and the libraries found in them (ldconfig(8): -v).
use Rattle.std.specs.Prelude.{◌≡◌}
use Rattle.hwcap_dirs.specs.declared.kinds.Scope.{Scope}
use Rattle.image_session.specs.Session.{Loaded}
use Rattle.ldso_conf.specs.Reading.{IsConfOf}
use Rattle.tree_face.specs.Store.{Contents}
use Rattle.library_search.specs.Ldconfig.{best_libraries, conf_of, places_in}
use Rattle.ldconfig_core.specs.declared.preparing.Looked.{Looked}

-- the result of the conf files, the search directories, and the best library of each soname in each directory
pub record HasLooked (scope : Scope) (held : Contents) (s : Loaded) (looked : Looked) : Type 0 where
  pub conf : IsConfOf (conf_of scope) looked.conf held s.tree
  pub places : looked.dirs.places ≡ places_in scope held s.tree
  pub bests : looked.bests ≡ best_libraries scope held s.tree s.stamps
