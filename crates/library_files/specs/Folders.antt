-- The contracts of private functions about dangling links, grouped by directory. A dangling link doesn't resolve to a file.
use Rattle.std.specs.Prelude.{ℕ, List, [], flat_map, fold, map}
use Rattle.std.specs.BTreeMap.{insert_entry}
use Rattle.std.specs.Cmp.Lexicographic.{slice_cmp}
use Rattle.std.specs.List.{filter_map}
use Rattle.std.specs.Ordering.{nat_cmp}
use Rattle.library_files.specs.Search.{unless_file}
use Rattle.library_files.specs.declared.links.FolderLinks.{FolderLinks}

-- the paths of the dangling links in a directory
abbrev pub dangling_of : FolderLinks → List (List ℕ)
dangling_of folder = filter_map (unless_file folder.folder) folder.links

-- directories sorted by their bytes, each with the paths of its dangling links
abbrev pub DanglingLinks : Type 0
DanglingLinks = List (List ℕ × List (List ℕ))

abbrev pub with_folder : DanglingLinks → FolderLinks → DanglingLinks
with_folder found folder = insert_entry (slice_cmp nat_cmp) found folder.folder (dangling_of folder)

abbrev pub by_folder : List FolderLinks → DanglingLinks
by_folder followed = fold with_folder [] followed

-- the paths of all dangling links, in the order of their directories
abbrev pub dangling_in_order : List FolderLinks → List (List ℕ)
dangling_in_order followed = flat_map (λ paths. paths) (map (λ e. e.1) (by_folder followed))
