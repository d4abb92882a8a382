-- A look-up in a list of entries gives the same library as the search of the directories.
use Rattle.std.specs.Prelude.{◌≡◌, ℕ, Bool, List, ◌&&◌, find, Option, option_map}
use Rattle.std.specs.Str.{bytes_eq}
use Rattle.hwcap_dirs.specs.declared.kinds.Place.{Place}
use Rattle.lib_types.specs.declared.abi.Abi.{Abi}
use Rattle.lib_types.specs.declared.entry.Entry.{Entry}
use Rattle.file_table.specs.Analyses.{Analyses}
use Rattle.image_tree.specs.Tree.{Nodes}
use Rattle.cache_entries.specs.Walk.{is_same_abi, is_same_cap, path_with}

-- the entry has this soname, this ABI and this hwcaps name
abbrev pub is_entry_of : List ℕ → Abi → Option (List ℕ) → Entry → Bool
is_entry_of soname abi cap entry = bytes_eq entry.soname soname && (is_same_abi entry.abi abi && is_same_cap entry.cap cap)

-- the path of the first such entry
abbrev pub path_among : List Entry → List ℕ → Abi → Option (List ℕ) → Option (List ℕ)
path_among entries soname abi cap = option_map (λ entry. entry.path) (find (is_entry_of soname abi cap) entries)

-- this path is the first path in the search directories with this hwcaps name
abbrev pub LeadAsSearched : Analyses → Nodes → List Place → List Entry → Type 0
LeadAsSearched what t places entries =
    (soname : List ℕ) (abi : Abi) (cap : Option (List ℕ)) → path_among entries soname abi cap ≡ path_with what t places soname abi cap
