-- The libraries that a program loads, and their paths (ld.so(8); ldd(1) lists them). The needed names of the program and of each library
-- that was found are requests. They are answered one after another, breadth first.
use Rattle.std.specs.Prelude.{◌&&◌, ℕ, zero, suc, ◌+◌, Bool, false, List, [], ◌∷◌, ◌++◌, length, map, take, drop, flat_map, if◌then◌else◌, Option, Some, None, is_none, option_and_then, option_map, option_to_list}
use Rattle.std.specs.List.{list_any}
use Rattle.std.specs.Str.{bytes_eq}
use Rattle.lib_types.specs.declared.abi.Abi.{Abi}
use Rattle.tree_face.specs.Store.{Contents}
use Rattle.image_tree.specs.Tree.{Nodes}
use Rattle.path_walk.specs.Files.{file_at}
use Rattle.elf_dynamic.specs.declared.kinds.Dynamic.{Dynamic}
use Rattle.rpath_search.specs.Parts.{part_of}
use Rattle.rpath_search.specs.Places.{folder_of, paths, reach_of}
use Rattle.rpath_search.specs.Search.{first_good, library_at, looked_at}
use Rattle.rpath_search.specs.Searching.{is_among, keys_next_to}
use Rattle.rpath_search.specs.declared.kinds.Env.{Env}
use Rattle.rpath_search.specs.declared.kinds.Owner.{Owner}
use Rattle.rpath_search.specs.declared.parts.Part.{Part}
use Rattle.rpath_search.specs.declared.parts.Part.TheVariants as part
use Rattle.ldd_resolve.specs.declared.kinds.Item.{Item}
use Rattle.ldd_resolve.specs.declared.kinds.Reply.{Reply}
use Rattle.ldd_resolve.specs.declared.kinds.Reply.TheVariants.{Known, Loads, Missing}

-- ---- the inputs of a listing

pub record Inputs : Type 0 where
  pub held : Contents
  pub nodes : Nodes
  -- the path of a name in the cache, if there is one
  pub cached : List ℕ → Option (List ℕ)
  -- with the ABI of the program
  pub env : Env

-- ---- objects and requests

-- the program, or a library that was found
pub record Loaded : Type 0 where
  -- the path by which it was found
  pub path : List ℕ
  -- the path of its file, without links
  pub real : List ℕ
  -- its DT_SONAME, if it has one, and then the names of the requests that it answered, each once
  pub names : List (List ℕ)
  pub needed : List (List ℕ)
  -- the object, then the object that needed it first, and so on up to the program
  pub chain : List Owner

-- a needed name, with the chain of the object that needs it
pub record Request : Type 0 where
  pub name : List ℕ
  pub chain : List Owner

abbrev pub requests_of : Loaded → List Request
requests_of o = map (λ name. record { name = name; chain = o.chain }) o.needed

-- the requests of these objects, ordered by the object's number and then by the position of the name
abbrev pub requests : List Loaded → List Request
requests objects = flat_map requests_of objects

abbrev pub is_called : List ℕ → Loaded → Bool
is_called name o = list_any (bytes_eq name) o.names

abbrev pub places_of : List Loaded → List (List ℕ)
places_of objects = map (λ o. o.real) objects

abbrev pub has_name : List (List ℕ) → List ℕ → Bool
has_name names name = list_any (bytes_eq name) names

-- adds a name if it isn't in the list
abbrev pub with_name : List (List ℕ) → List ℕ → List (List ℕ)
with_name names name = if has_name names name then names else names ++ name ∷ []

-- adds the name to the object with this file
abbrev pub named : List ℕ → List ℕ → Loaded → Loaded
named real name o = if bytes_eq real o.real then record o { names = with_name o.names name } else o

abbrev pub owner_of : List ℕ → Option Dynamic → Owner
owner_of path None = record { origin = folder_of path; rpath = None; runpath = None; nodeflib = false }
owner_of path (Some d) = record { origin = folder_of path; rpath = d.rpath; runpath = d.runpath; nodeflib = d.nodeflib }

abbrev pub soname_in : Option Dynamic → List (List ℕ)
soname_in None = []
soname_in (Some d) = option_to_list d.soname

abbrev pub needed_in : Option Dynamic → List (List ℕ)
needed_in None = []
needed_in (Some d) = d.needed

-- the names of an object: its DT_SONAME, if it has one, and the requested name; the program has no requested name
abbrev pub names_by : List (List ℕ) → Option (List ℕ) → List (List ℕ)
names_by soname None = soname
names_by soname (Some name) = with_name soname name

-- The object with this path, file and dynamic section, found for a request of this name. The chain is that of the object that needs it.
abbrev pub loaded : List ℕ → List ℕ → Option Dynamic → Option (List ℕ) → List Owner → Loaded
loaded path real d name chain =
    record { path = path; real = real; names = names_by (soname_in d) name; needed = needed_in d; chain = owner_of path d ∷ chain }

-- ---- the record of a listing

pub record Record : Type 0 where
  -- by number, the program first
  pub objects : List Loaded
  -- the number of answered requests
  pub answered : ℕ
  pub items : List Item
  -- each path by which an object was found, the program's first
  pub found : List (List ℕ)
  -- one for each answered request
  pub replies : List Reply
  -- the keys that were opened
  pub keys : List (List ℕ)

-- the requests that aren't answered yet
abbrev pub left : Record → List Request
left r = drop r.answered (requests r.objects)

abbrev pub item : List ℕ → Option (List ℕ) → Item
item name path = record { name = name; path = path }

-- the item has this name and wasn't found
abbrev pub is_missing : List ℕ → Item → Bool
is_missing name i = bytes_eq name i.name && is_none i.path

abbrev pub with_missing : List ℕ → List Item → List Item
with_missing name items = if list_any (is_missing name) items then items else items ++ item name None ∷ []

-- ---- the answer to a request

-- the paths at which the requested name is searched
abbrev pub paths_of : Inputs → Request → List (List ℕ)
paths_of w q = paths q.name q.chain w.env (w.cached q.name)

-- The keys that a search opens: those of the files to which the paths lead, up to the first good path, without loaded files.
abbrev pub keys_searched : Contents → Nodes → Abi → List (List ℕ) → List (List ℕ) → List (List ℕ)
keys_searched held t abi places all =
    keys_next_to t places (take (looked_at held t abi all) all)

-- the dynamic section of the library at a path without links
abbrev pub dynamic_at : Inputs → List ℕ → Option Dynamic
dynamic_at w real = option_and_then (λ o. o.dynamic) (library_at w.held w.nodes w.env.abi real)

-- the part of the search that gives a path
abbrev pub part_along : Inputs → List ℕ → List ℕ → List Owner → Part
part_along w name path [] = part.Default
part_along w name path (owner ∷ loaders) = part_of name w.env (reach_of w.env owner loaders) (w.cached name) path

abbrev pub part_for : Inputs → Request → List ℕ → Part
part_for w q path = part_along w q.name path q.chain

-- one more answered request
abbrev pub replied : Record → Reply → Record
replied r reply = record r { replies = r.replies ++ reply ∷ [] }

-- If the file is a loaded object, the object gets the name. Otherwise a new object and an item are added. In both cases the path is one by
-- which an object was found.
abbrev pub with_file : Inputs → Record → Request → List ℕ → List ℕ → Record
with_file w r q path real =
    if is_among (places_of r.objects) real then replied (record r { objects = map (named real q.name) r.objects; found = r.found ++ path ∷ [] }) Known else
    replied (record r {
      objects = r.objects ++ loaded path real (dynamic_at w real) (Some q.name) q.chain ∷ [];
      items = r.items ++ item q.name (Some path) ∷ [];
      found = r.found ++ path ∷ [];
    }) (Loads (length r.objects) (part_for w q path))

-- the record after a search: either nothing was found, or a path and the file to which it leads
abbrev pub with_found : Inputs → Record → Request → Option (List ℕ × List ℕ) → Record
with_found w r q None = replied (record r { items = with_missing q.name r.items }) Missing
with_found w r q (Some found) = with_file w r q found.0 found.1

-- the first good path, and the file to which it leads
abbrev pub found_by : Inputs → List (List ℕ) → Option (List ℕ × List ℕ)
found_by w all = option_and_then (λ path. option_map (λ real. (path, real)) (file_at w.nodes path)) (first_good w.held w.nodes w.env.abi all)

abbrev pub with_search : Inputs → Record → Request → List (List ℕ) → Record
with_search w r q all = with_found w (record r { keys = r.keys ++ keys_searched w.held w.nodes w.env.abi (places_of r.objects) all }) q (found_by w all)

-- If an object has the requested name, it is the answer. Otherwise the name is searched.
abbrev pub with_answer : Inputs → Record → Request → Record
with_answer w r q = if list_any (is_called q.name) r.objects then replied r Known else with_search w r q (paths_of w q)

-- answers the first of the remaining requests, if there is one
abbrev pub with_next : Inputs → Record → List Request → Record
with_next w r [] = r
with_next w r (q ∷ qs) = with_answer w (record r { answered = r.answered + 1 }) q

-- the record after this number of answered requests
unfoldable pub record_after : Inputs → Record → ℕ → Record
record_after w first zero = first
record_after w first (suc n) = with_next w (record_after w first n) (left (record_after w first n))
