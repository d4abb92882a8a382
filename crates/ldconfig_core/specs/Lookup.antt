-- Lookups in a cache compared with the search of the image's directories.
use Rattle.std.specs.Prelude.{◌≡◌, ℕ, List}
use Rattle.hwcap_dirs.specs.declared.kinds.Scope.{Scope}
use Rattle.aux_cache.specs.declared.stamps.Stamp.{Stamp}
use Rattle.cache_lookup.specs.Scan.{scan}
use Rattle.cache_reader.specs.Cache.{read}
use Rattle.lib_types.specs.declared.abi.Abi.{Abi}
use Rattle.tree_face.specs.Store.{Contents}
use Rattle.image_tree.specs.Tree.{Nodes}
use Rattle.library_search.specs.Ldconfig.{walk_in}

-- For each name, ABI and list of hwcaps names, the loader finds in the cache the same path as the search of the directories, or no path.
abbrev pub FindsAsSearched : Scope → Contents → Nodes → List Stamp → List ℕ → Type 0
FindsAsSearched scope held t loaded cache = (name : List ℕ) (abi : Abi) (caps : List (List ℕ)) → scan (read cache) name abi caps ≡ walk_in scope held t loaded name abi caps
