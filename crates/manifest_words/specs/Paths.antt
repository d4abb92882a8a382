-- The path that the first word of a manifest's line names (mtree(5): full paths and relative names).
use Rattle.std.specs.Prelude.{ℕ, ◌-◌, Bool, List, [], ◌∷◌, ◌++◌, ◌==◌, ◌&&◌, ◌||◌, not, nat_eq, if◌then◌else◌, length, take, drop, flat_map, slice_index_or, Option, Some, None, option_map, option_and_then}
use Rattle.std.specs.List.{list_any, list_all, starts_with}
use Rattle.lib_types.specs.Name.{slash, is_name}
use Rattle.image_tree.specs.Paths.{root, is_slash, components, is_path}
use Rattle.manifest_words.specs.Escape.{decoded}
use Rattle.manifest_words.specs.Keys.{fault_unless}
use Rattle.manifest_words.specs.declared.fault.LineKind.{LineKind}
use Rattle.manifest_words.specs.declared.fault.LineKind.TheVariants.{BadEscape, BadLine}

-- the paths of the open directories; the path of the root is empty; the last directory was opened last
abbrev pub Stack : Type 0
Stack = List (List ℕ)

-- the current directory: the directory that was opened last, or the root
abbrev pub current : Stack → List ℕ
current dirs = slice_index_or dirs (length dirs - 1) []

abbrev pub closed : Stack → Stack
closed dirs = take (length dirs - 1) dirs

-- a word with a slash after its first character is a full path from the root; any other word is a name in the current directory
abbrev pub is_full : List ℕ → Bool
is_full word = list_any is_slash (drop 1 word)

-- `/NAME` without a further slash
abbrev pub is_directive : List ℕ → Bool
is_directive word = starts_with nat_eq word root && not (is_full word)

-- the directory from which a word is resolved: the root for a full path, otherwise the current directory
abbrev pub base_by : List ℕ → List ℕ → List ℕ
base_by word current = if is_full word then [] else current

abbrev pub base_of : Stack → List ℕ → List ℕ
base_of dirs word = base_by word (current dirs)

-- components, each decoded separately
abbrev pub decoded_each : List (List ℕ) → Option (List (List ℕ))
decoded_each [] = Some []
decoded_each (c ∷ cs) = option_and_then (λ name. option_map (λ names. name ∷ names) (decoded_each cs)) (decoded c)

-- the names in a first word; it is split at slashes before it is decoded; None if an escape is bad
abbrev pub names_of : List ℕ → Option (List (List ℕ))
names_of word = decoded_each (components word)

-- the path of the names below a directory
abbrev pub below : List ℕ → List (List ℕ) → List ℕ
below base names = base ++ flat_map (λ name. slash ∷ name) names

-- the names are valid and give the root or a valid path; only a directory's line may have no names
abbrev pub is_place : Bool → List ℕ → List (List ℕ) → Bool
is_place is_dir base names =
    list_all is_name names
    && (is_dir || not (length names == 0))
    && (length (below base names) == 0 || is_path (below base names))

abbrev pub place_fault_of : Bool → List ℕ → List ℕ → Option (List (List ℕ)) → Option LineKind
place_fault_of is_dir base word None = Some BadEscape
place_fault_of is_dir base word (Some names) = fault_unless (not (is_directive word) && is_place is_dir base names) BadLine

-- the error of a first word; `is_dir` says whether the line is a directory's
abbrev pub place_fault : Bool → Stack → List ℕ → Option LineKind
place_fault is_dir dirs word = place_fault_of is_dir (base_of dirs word) word (names_of word)

abbrev pub path_of : Option (List (List ℕ)) → List ℕ → List ℕ
path_of None base = base
path_of (Some names) base = below base names

-- the path that a first word names
abbrev pub place : Stack → List ℕ → List ℕ
place dirs word = path_of (names_of word) (base_of dirs word)
