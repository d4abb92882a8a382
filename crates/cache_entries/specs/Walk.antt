-- The library of a soname, found by searching the directories without a cache. First come the directories for the loader's first hwcaps
-- name, in order (ld.so(8): glibc-hwcaps subdirectories), then those for its next hwcaps name. The directories without a hwcaps name are
-- last. A loader finds libraries in this order through its cache. In a library path it searches one directory after another instead, each
-- with its subdirectories first.
use Rattle.std.specs.Prelude.{ℕ, Bool, List, [], ◌∷◌, ◌++◌, filter, if◌then◌else◌, map, nat_eq, Option, Some, None}
use Rattle.std.specs.Option.{option_and_then, option_eq, option_or}
use Rattle.std.specs.Str.{bytes_eq}
use Rattle.hwcap_dirs.specs.declared.kinds.Place.{Place}
use Rattle.lib_types.specs.Abi.{flags_of}
use Rattle.lib_types.specs.declared.abi.Abi.{Abi}
use Rattle.file_table.specs.Analyses.{Analyses}
use Rattle.place_libraries.specs.Libraries.{libraries_in}
use Rattle.place_libraries.specs.Library.{Library}
use Rattle.image_tree.specs.Paths.{join}
use Rattle.image_tree.specs.Tree.{Nodes}
use Rattle.cache_entries.specs.Entries.{entry_name}
use Rattle.cache_entries.specs.Winner.{links_to_libraries, winner}

-- the value of the first item that has one
abbrev pub first_value : {X Y : Type 0} → (X → Option Y) → List X → Option Y
first_value f [] = None
first_value f (x ∷ xs) = option_or (f x) (first_value f xs)

-- ---- one search directory

-- equal hwcaps names, or both None
abbrev pub is_same_cap : Option (List ℕ) → Option (List ℕ) → Bool
is_same_cap = option_eq bytes_eq

abbrev pub is_same_abi : Abi → Abi → Bool
is_same_abi abi other = nat_eq (flags_of abi) (flags_of other)

-- the path of a search directory's winner, if the winner has this ABI
abbrev pub path_for : Nodes → Abi → Place → Library → Option (List ℕ)
path_for t abi place winner = if is_same_abi winner.abi abi then Some (join place.spelled (entry_name t place winner)) else None

-- the path of the soname's winner in a search directory
abbrev pub path_in : Analyses → Nodes → List ℕ → Abi → Place → Option (List ℕ)
path_in what t soname abi place = option_and_then (path_for t abi place) (winner (libraries_in what t place) (links_to_libraries what t place) soname)

-- ---- all search directories

-- the first path in the search directories with this hwcaps name; None selects those without a hwcaps name
abbrev pub path_with : Analyses → Nodes → List Place → List ℕ → Abi → Option (List ℕ) → Option (List ℕ)
path_with what t places soname abi cap = first_value (path_in what t soname abi) (filter (λ place. is_same_cap place.cap cap) places)

-- the hwcaps names in the caller's order, and then none
abbrev pub in_turn : List (List ℕ) → List (Option (List ℕ))
in_turn caps = map (λ cap. Some cap) caps ++ None ∷ []

-- The first path for the caller's hwcaps names, in order, and then for no hwcaps name.
unfoldable pub walk : Analyses → Nodes → List Place → List ℕ → Abi → List (List ℕ) → Option (List ℕ)
walk what t places soname abi caps = first_value (path_with what t places soname abi) (in_turn caps)
