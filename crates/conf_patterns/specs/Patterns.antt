-- The files that a pattern of an `include` line names (ldconfig(8), glob(7)).
use Rattle.std.specs.Prelude.{ℕ, Bool, true, false, List, [], ◌∷◌, ◌++◌, ◌&&◌, not, if◌then◌else◌, map, filter, flat_map, fold, drop, codes, Option, Some, None, option_map, Result, Ok, Err}
use Rattle.std.specs.BTreeMap.{insert_entry}
use Rattle.std.specs.Cmp.Lexicographic.{slice_cmp}
use Rattle.std.specs.List.{before_last, filter_map, list_any, slice_split}
use Rattle.std.specs.Ordering.{nat_cmp}
use Rattle.lib_types.specs.Name.{slash}
use Rattle.name_order.specs.LibraryName.{is_library_name}
use Rattle.path_walk.specs.Names.{is_absolute}
use Rattle.path_walk.specs.Walk.{resolution}
use Rattle.path_walk.specs.declared.walk.Mode.TheVariants.{Plain}
use Rattle.path_walk.specs.declared.walk.WalkFault.{WalkFault}
use Rattle.image_tree.specs.Paths.{join}
use Rattle.image_tree.specs.Tree.{Nodes, kind_at, children_of}
use Rattle.image_tree.specs.declared.tree.Kind.{Kind}
use Rattle.image_tree.specs.declared.tree.Kind.TheVariants as kinds
use Rattle.lib_types.specs.Sets.{is_in, slashes}
use Rattle.conf_patterns.specs.Glob.{glob_match}

-- ---- the components of a pattern, and the path that they are relative to

-- the directory of a file, as written in the file's path: the text before the last slash
abbrev pub folder_of : List ℕ → List ℕ
folder_of file = before_last (is_in slashes) file

abbrev pub base_of : List ℕ → List ℕ → List ℕ
base_of file pattern = if is_absolute pattern then [] else folder_of file

-- the components between the slashes, including empty ones
abbrev pub components_of : List ℕ → List (List ℕ)
components_of pattern = slice_split (is_in slashes) (if is_absolute pattern then drop 1 pattern else pattern)

-- ---- the paths that a pattern expands to

abbrev pub wild : List ℕ
wild = codes "*?["

-- a component with a wildcard is matched against names; any other component is used as it is
abbrev pub is_wild : List ℕ → Bool
is_wild component = list_any (is_in wild) component

abbrev pub is_link : Kind → Bool
is_link kinds.Link = true
is_link kinds.Absent = false
is_link kinds.Dir = false
is_link kinds.File = false

-- ldconfig itself creates the symlinks with library names, so no pattern matches such a symlink
abbrev pub is_library_link : Nodes → List ℕ → List ℕ → Bool
is_library_link t folder name = is_library_name name && is_link (kind_at t (join folder name))

abbrev pub is_chosen : Nodes → List ℕ → List ℕ → List ℕ → Bool
is_chosen t folder component name = glob_match component name && not (is_library_link t folder name)

-- the path that a text resolves to, if it resolves
abbrev pub place_by : Result (List ℕ) WalkFault → Option (List ℕ)
place_by (Ok place) = Some place
place_by (Err fault) = None

abbrev pub place_at : Nodes → List ℕ → Option (List ℕ)
place_at t text = place_by (resolution t text Plain)

-- the names in a directory that a component matches
abbrev pub chosen_in : Nodes → List ℕ → Option (List ℕ) → List (List ℕ)
chosen_in t component (Some folder) = filter (is_chosen t folder component) (children_of t folder)
chosen_in t component None = []

-- the names that extend a path: the matching names in the directory that it resolves to, or the component itself
abbrev pub choices : Nodes → List ℕ → List ℕ → List (List ℕ)
choices t component text = if is_wild component then chosen_in t component (place_at t text) else component ∷ []

abbrev pub go_on : Nodes → List ℕ → List ℕ → List (List ℕ)
go_on t component text = map (λ name. text ++ slash ∷ name) (choices t component text)

-- these paths, each extended by one name for each component
abbrev pub texts_by : Nodes → List (List ℕ) → List (List ℕ) → List (List ℕ)
texts_by t texts [] = texts
texts_by t texts (component ∷ rest) = texts_by t (flat_map (go_on t component) texts) rest

-- ---- the results

-- a path as written, and the path that it resolves to
abbrev pub Found : Type 0
Found = List ℕ × List ℕ

abbrev pub found_at : Nodes → List ℕ → Option Found
found_at t text = option_map (λ place. (text, place)) (place_at t text)

-- adds one result; results are sorted by the bytes of their paths
abbrev pub with_found : List Found → Found → List Found
with_found found f = insert_entry (slice_cmp nat_cmp) found f.0 f.1

abbrev pub in_byte_order : List Found → List Found
in_byte_order found = fold with_found [] found

-- The results of a pattern in a file: the paths that resolve, sorted by their bytes.
unfoldable pub results : Nodes → List ℕ → List ℕ → List Found
results t file pattern = in_byte_order (filter_map (found_at t) (texts_by t (base_of file pattern ∷ []) (components_of pattern)))
