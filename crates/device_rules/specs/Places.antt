-- The paths of an image's files, below its root. The cache is where ld.so(8) reads it ("FILES") or where option -C of ldconfig(8) puts it.
-- The auxiliary cache is where ldconfig(8) keeps it.
use Rattle.std.specs.Prelude.{◌≡◌, ◌⊎◌, ◌==◌, ◌&&◌, ℕ, Bool, not, List, [], ◌∷◌, ◌++◌, codes, length, nat_eq, Option, Some, None, if◌then◌else◌}
use Rattle.std.specs.List.{ends_with}
use Rattle.std.specs.Str.{bytes_eq}
use Rattle.device_rules.specs.Paths.{has_up}
use Rattle.tree_face.specs.declared.disk.Slot.{Slot}
use Rattle.tree_face.specs.declared.disk.Slot.TheVariants.{Manifest, Cache, Aux}

abbrev pub usual_cache : List ℕ
usual_cache = codes "etc/ld.so.cache"

-- the slot's file, if the cache has this path
abbrev pub file_of : List ℕ → Slot → List ℕ
file_of cache Manifest = codes "image.mtree"
file_of cache Cache = cache
file_of cache Aux = codes "var/cache/ldconfig/aux-cache"

-- the file has this name in this directory, which is empty for the root
abbrev pub IsIn : List ℕ → List ℕ → List ℕ → Type 0
IsIn directory name file = (file ≡ directory ++ 47 ∷ name) ⊎ ((directory ≡ []) × (name ≡ file))

-- ---- a cache of another path

-- the path ends with a file name: it doesn't end with a slash or with the component `.`
abbrev pub ends_in_name : List ℕ → Bool
ends_in_name path = not (length path == 0) && not (ends_with nat_eq path (codes "/")) && not (bytes_eq path (codes ".")) && not (ends_with nat_eq path (codes "/."))

-- the path can name a file below the root: no component of it is `..`
abbrev pub is_file_path : List ℕ → Bool
is_file_path path = ends_in_name path && not (has_up path)

-- a path in the image, relative to its root
abbrev pub below_root : List ℕ → List ℕ
below_root [] = []
below_root (b ∷ path) = if b == 47 then path else b ∷ path

-- the path of the cache file, relative to the root, if the path can name a file
abbrev pub cache_at : List ℕ → Option (List ℕ)
cache_at path = if is_file_path (below_root path) then Some (below_root path) else None
