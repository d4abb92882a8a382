-- The list of paths at which the loader looks for a library that an object needs (ld.so(8), "DESCRIPTION").
use Rattle.std.specs.Prelude.{ℕ, Bool, ◌==◌, ◌&&◌, nat_eq, if◌then◌else◌, List, [], ◌∷◌, ◌++◌, length, map, flat_map, codes, Option, Some, None, is_some, option_and_then, option_map, option_to_list}
use Rattle.std.specs.List.{before_last, filter_map, list_any, slice_split, starts_with}
use Rattle.std.specs.Option.{option_map_or}
use Rattle.lib_types.specs.Sets.{is_in, slashes, without_end}
use Rattle.hwcap_dirs.specs.Places.{all_builtin_dirs, system_dirs}
use Rattle.lib_types.specs.Abi.{lib_of}
use Rattle.lib_types.specs.declared.abi.Abi.{Abi}
use Rattle.string_pool.specs.Distinct.{distinct}
use Rattle.origin_expand.specs.Tokens.{expanded, value_of}
use Rattle.image_tree.specs.Paths.{is_below, is_slash, root}
use Rattle.rpath_search.specs.declared.kinds.SystemDirs.{SystemDirs}
use Rattle.rpath_search.specs.declared.kinds.SystemDirs.TheVariants.{Loader, Debian}
use Rattle.rpath_search.specs.declared.kinds.Env.{Env}
use Rattle.rpath_search.specs.declared.kinds.Owner.{Owner}

-- ---- texts as paths

-- puts a slash in front of a text that doesn't begin with one
abbrev pub from_root : List ℕ → List ℕ
from_root text = if starts_with nat_eq text root then text else root ++ text

-- the directory of a path's text: the text before its last slash; if that is empty, the root
abbrev pub or_root : List ℕ → List ℕ
or_root text = if length text == 0 then root else text

abbrev pub folder_of : List ℕ → List ℕ
folder_of path = or_root (before_last (is_in slashes) path)

abbrev pub has_slash : List ℕ → Bool
has_slash name = list_any is_slash name

-- ---- the directories in a text

-- the directory that a text names, without slashes at its end; the root is the empty text
abbrev pub directory : List ℕ → List ℕ
directory text = without_end slashes (from_root text)

-- the items of a text; an empty text has none
abbrev pub items : List ℕ → List ℕ → List (List ℕ)
items separators text = if length text == 0 then [] else slice_split (is_in separators) text

-- the directory of an item after its tokens are replaced; secure execution drops an item with `$ORIGIN`
abbrev pub item_dir : Env → List ℕ → List ℕ → Option (List ℕ)
item_dir env origin item = option_map directory (expanded (value_of origin (lib_of env.abi) env.platform) env.secure item)

abbrev pub dirs_of : Env → List ℕ → List ℕ → List ℕ → List (List ℕ)
dirs_of env separators origin text = filter_map (item_dir env origin) (items separators text)

-- the directories of an object's DT_RPATH or DT_RUNPATH
abbrev pub dirs_by : Env → Owner → List ℕ → List (List ℕ)
dirs_by env owner text = dirs_of env (codes ":") owner.origin text

-- the DT_RPATH directories of an object; none if it has DT_RUNPATH
abbrev pub rpath_dirs : Env → Owner → List (List ℕ)
rpath_dirs env owner = if is_some owner.runpath then [] else option_map_or (dirs_by env owner) owner.rpath []

-- the directories of the library path; none in secure execution
abbrev pub library_dirs : Env → Owner → List (List ℕ)
library_dirs env program = if env.secure then [] else dirs_of env (codes ":;") program.origin env.library_path

-- ---- the search directories of an object

pub record Reach : Type 0 where
  -- from DT_RPATH of the object, of its loader, and so on up to the program
  pub rpaths : List (List ℕ)
  pub library : List (List ℕ)
  -- from the object's DT_RUNPATH, if it has one
  pub runpath : Option (List (List ℕ))
  -- whether the default directories are left out
  pub nodeflib : Bool

-- the last one of an object and its loaders, the program
abbrev pub program_of : Owner → List Owner → Owner
program_of owner [] = owner
program_of owner (loader ∷ more) = program_of loader more

-- the search directories of an object with these loaders: the object that needed it first, and so on up to the program
abbrev pub reach_of : Env → Owner → List Owner → Reach
reach_of env owner loaders = record {
  rpaths = flat_map (rpath_dirs env) (owner ∷ loaders);
  library = library_dirs env (program_of owner loaders);
  runpath = option_map (dirs_by env owner) owner.runpath;
  nodeflib = owner.nodeflib;
}

-- the directories before the cache; if the object has DT_RUNPATH, DT_RPATH directories are left out
abbrev pub first_dirs : Reach → List (List ℕ)
first_dirs reach = (if is_some reach.runpath then [] else reach.rpaths) ++ reach.library ++ option_map_or (λ dirs. dirs) reach.runpath []

-- the default directories of ld.so(8), and the other built-in directories if they are wanted
abbrev pub system_dirs_of : SystemDirs → List (List ℕ)
system_dirs_of Loader = system_dirs
system_dirs_of Debian = all_builtin_dirs

-- the directories after the cache
abbrev pub default_dirs : Env → Reach → List (List ℕ)
default_dirs env reach = if reach.nodeflib then [] else system_dirs_of env.system

-- ---- the search paths of a name

abbrev pub hwcaps_path : List ℕ → List ℕ → List ℕ → List ℕ
hwcaps_path dir name cap = dir ++ codes "/glibc-hwcaps/" ++ cap ++ root ++ name

-- for each hwcaps name in order the path in that subdirectory, then the path in the directory itself
abbrev pub paths_in : List ℕ → List (List ℕ) → List ℕ → List (List ℕ)
paths_in name caps dir = map (hwcaps_path dir name) caps ++ (dir ++ root ++ name) ∷ []

-- the path is in a default directory or below one; the other built-in directories are below these
abbrev pub is_default : List ℕ → Bool
is_default path = list_any (λ dir. is_below dir path) system_dirs

-- the path in the cache; an object with DF_1_NODEFLIB ignores it if it is below a default directory
abbrev pub cached_path : Bool → List ℕ → Option (List ℕ)
cached_path nodeflib path = if nodeflib && is_default path then None else Some path

abbrev pub cached_paths : Reach → Option (List ℕ) → List (List ℕ)
cached_paths reach cached = option_to_list (option_and_then (cached_path reach.nodeflib) cached)

abbrev pub paths_by : List ℕ → Env → Reach → Option (List ℕ) → List (List ℕ)
paths_by name env reach cached =
    flat_map (paths_in name env.caps) (first_dirs reach)
    ++ cached_paths reach cached
    ++ flat_map (paths_in name env.caps) (default_dirs env reach)

-- ---- all search paths

-- each hwcaps name only once, at its first position
abbrev pub with_caps_once : Env → Env
with_caps_once env = record env { caps = distinct env.caps }

-- the same, for a program with this ABI
abbrev pub env_for : Env → Abi → Env
env_for env abi = record (with_caps_once env) { abi = abi }

abbrev pub searched : List ℕ → Env → List Owner → Option (List ℕ) → List (List ℕ)
searched name env [] cached = []
searched name env (owner ∷ loaders) cached = paths_by name env (reach_of env owner loaders) cached

-- The search paths of a name that the first object of a chain needs. The next object in the chain needed the first object first, and so
-- on up to the program. `cached` is the path of the name in the cache, if there is one. If the name contains a slash, it is the only path.
unfoldable pub paths : List ℕ → List Owner → Env → Option (List ℕ) → List (List ℕ)
paths name chain env cached =
    if has_slash name then from_root name ∷ [] else searched name env chain cached
