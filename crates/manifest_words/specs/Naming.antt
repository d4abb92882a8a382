-- How the code collects the names of a first word.
use Rattle.std.specs.Prelude.{◌≡◌, ℕ, Bool, List, ◌==◌, ◌&&◌, ◌||◌, not, length, Option, Some, None, option_map}
use Rattle.std.specs.List.{list_all}
use Rattle.lib_types.specs.Name.{is_name}
use Rattle.image_tree.specs.Paths.{is_path}
use Rattle.manifest_words.specs.Keys.{fault_unless}
use Rattle.manifest_words.specs.declared.fault.LineKind.{LineKind}
use Rattle.manifest_words.specs.declared.fault.LineKind.TheVariants.{BadLine}
use Rattle.manifest_words.specs.Paths.{base_by, below, is_directive, names_of, path_of, place_fault_of}

-- the names were appended, and the result says whether all are valid names; or the result is None because an escape is bad
abbrev pub Names : List ℕ → List ℕ → Option (List (List ℕ)) → Option Bool → Type 0
Names old new None good = good ≡ None
Names old new (Some names) good = (good ≡ Some (list_all is_name names)) × (new ≡ below old names)

-- from every current directory, the word names this path without an error
pub record LeadsTo (word path : List ℕ) : Type 0 where
  pub fault : (is_dir : Bool) (current : List ℕ) → place_fault_of is_dir (base_by word current) word (names_of word) ≡ None
  pub place : (current : List ℕ) → path_of (names_of word) (base_by word current) ≡ path

-- the path and the test so far, continued by these names
abbrev pub named : List ℕ → Bool → Option (List (List ℕ)) → Option (List ℕ × Bool)
named path good names = option_map (λ ns. (below path ns, good && list_all is_name ns)) names

-- whether a word names a valid path, given whether its names are valid, and the length of the path before them
abbrev pub is_place_after : Bool → Bool → ℕ → List ℕ → Bool
is_place_after is_dir are_names start path = are_names && (is_dir || not (length path == start)) && (length path == 0 || is_path path)

abbrev pub place_fault_after : List ℕ → Bool → Option LineKind
place_fault_after word is_place = fault_unless (not (is_directive word) && is_place) BadLine
