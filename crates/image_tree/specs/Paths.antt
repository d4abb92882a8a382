-- Paths below the root of a tree, and their order.
use Rattle.std.specs.Prelude.{ℕ, ◌+◌, Bool, List, [], ◌++◌, ◌==◌, ◌&&◌, not, nat_le, nat_eq, if◌then◌else◌, map, filter, length, drop, codes}
use Rattle.std.specs.declared.cmp.Ordering.{Ordering}
use Rattle.std.specs.Ordering.{nat_cmp}
use Rattle.std.specs.Cmp.Lexicographic.{slice_cmp}
use Rattle.std.specs.List.{list_all, slice_split, starts_with, before_first}
use Rattle.std.specs.Str.{bytes_eq}
use Rattle.lib_types.specs.Name.{slash, is_name}
use Rattle.image_tree.specs.declared.path.TheConstants.{PATH_MAX}

-- the root, which is not the path of any node
abbrev pub root : List ℕ
root = codes "/"

abbrev pub is_slash : ℕ → Bool
is_slash b = b == slash

-- a component between two slashes is kept unless it is empty or `.`
abbrev pub is_kept : List ℕ → Bool
is_kept component = not (length component == 0) && not (bytes_eq component (codes "."))

abbrev pub components : List ℕ → List (List ℕ)
components text = filter is_kept (slice_split is_slash text)

-- names, separated by slashes
abbrev pub are_names : List ℕ → Bool
are_names bytes = list_all is_name (slice_split is_slash bytes)

-- a slash, followed by names that are separated by slashes; at most 4095 bytes in total
abbrev pub is_path : List ℕ → Bool
is_path path = nat_le (length path) PATH_MAX && starts_with nat_eq path root && are_names (drop 1 path)

-- In the order of a tree a slash comes before every other byte.
abbrev pub path_rank : ℕ → ℕ
path_rank b = if b == slash then 0 else b + 1

-- the order of paths: by their bytes, where the slash is below every other byte
abbrev pub path_cmp : List ℕ → List ℕ → Ordering
path_cmp p q = slice_cmp nat_cmp (map path_rank p) (map path_rank q)

-- a path without its trailing slash; only the root has one
abbrev pub stem : List ℕ → List ℕ
stem path = if bytes_eq path root then [] else path

-- the prefix of each path below a directory
abbrev pub folder : List ℕ → List ℕ
folder path = stem path ++ root

-- the path of a name in a directory
abbrev pub join : List ℕ → List ℕ → List ℕ
join place name = folder place ++ name

-- q lies below p
abbrev pub is_below : List ℕ → List ℕ → Bool
is_below p q = starts_with nat_eq q (folder p)

-- the text isn't empty, and the path is the text followed by a slash and more
abbrev pub is_above : List ℕ → List ℕ → Bool
is_above text path = not (length text == 0) && is_below text path

-- the name at the offset n of a path
abbrev pub name_after : ℕ → List ℕ → List ℕ
name_after n path = before_first is_slash (drop n path)
