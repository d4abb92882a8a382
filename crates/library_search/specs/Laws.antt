-- If stamps are true and equal identities imply equal contents, an update finds the same as an update without stamps.
use Rattle.std.specs.Prelude.{◌≡◌, ℕ, List, []}
use Rattle.aux_cache.specs.declared.stamps.Stamp.{Stamp}
use Rattle.elf_dynamic.specs.Begun.{lacks_one}
use Rattle.hwcap_dirs.specs.declared.kinds.Scope.{Scope}
use Rattle.image_tree.specs.Tree.{Nodes}
use Rattle.file_stamps.specs.Files.{what_is}
use Rattle.file_stamps.specs.Opened.{opens}
use Rattle.tree_face.specs.Store.{Contents}
use Rattle.library_search.specs.Begun.{after_keys, opened_in, wanted_keys}
use Rattle.library_search.specs.Ldconfig.{entries_in, library_files, library_paths, links_in, info_files, stamps_in, walk_in}

pub record IsInfoRight (scope : Scope) (held : Contents) (t : Nodes) (loaded : List Stamp) : Type 0 where
  -- the analysis of each file is that of its content
  pub info : (path : List ℕ) → info_files scope held t loaded path ≡ what_is held t path
  pub links : links_in scope held t loaded ≡ links_in scope held t []
  pub files : library_files scope held t loaded ≡ library_files scope held t []
  pub entries : entries_in scope held t loaded ≡ entries_in scope held t []
  pub walk : walk_in scope held t loaded ≡ walk_in scope held t []
  pub stamps : stamps_in scope held t loaded ≡ stamps_in scope held t []
  -- one update misses a content exactly if the other does
  pub wanted_lack : lacks_one held (wanted_keys scope held t loaded) ≡ lacks_one held (wanted_keys scope held t [])
  pub after_lack : lacks_one held (after_keys scope held t loaded) ≡ lacks_one held (after_keys scope held t [])
  -- each library file without an identity is opened, and one file of each identity without a stamp
  pub opened : opened_in scope held t loaded ≡ opens t loaded (library_paths scope held t loaded)
