-- If the library names of the search directories were seen, the part has the same libraries as the tree.
use Rattle.std.proofs.Common.{◌≡◌, ℕ, false, List, filter, map, ap, ◌∙◌, Option, None}
use Rattle.std.specs.Option.{option_and_then}
use Rattle.file_table.specs.Analyses.{Analyses, AgreeOn}
use Rattle.hwcap_dirs.specs.declared.kinds.Place.{Place}
use Rattle.image_tree.specs.Paths.{join}
use Rattle.image_tree.specs.Tree.{Nodes, children_of}
use Rattle.library_files.specs.Search.{wanted}
use Rattle.name_order.specs.LibraryName.{is_library_name}
use Rattle.place_libraries.proofs.NoOtherFiles.{libraries_agree, map_same}
use Rattle.place_libraries.specs.Best.{bests, bests_of}
use Rattle.place_libraries.specs.Libraries.{libraries_in, library_at, library_in}
use Rattle.place_libraries.specs.Library.{Library}
use Rattle.root_folder.specs.Whole.{IsWhole}
use Rattle.seen_tree.specs.Part.{AreSeen, IsPart, IsSeen}
use Rattle.seen_places.proofs.Each as each
use Rattle.seen_places.proofs.Each.{children_seen, each_seen, names_same}
use Rattle.seen_places.proofs.Files.{file_in_seen, no_file}
use Rattle.seen_places.specs.Looked.{names_looked, wanted_looked}

-- the library with a name, given its file
abbrev of_file : Analyses → List ℕ → Option (List ℕ) → Option Library
of_file what name file = option_and_then (λ path. library_at what path name name) file

module _ (t part : Nodes) (whole : IsWhole t) (is : IsPart t part) where
  module _ (what : Analyses) where
    library_seen : (folder name : List ℕ) → IsSeen t part (join folder name) → library_in what part folder name ≡ library_in what t folder name
    library_seen folder name seen = ap (of_file what name) (file_in_seen t part whole is folder name seen)

    no_library : (a : Nodes) (folder name : List ℕ) → is_library_name name ≡ false → library_in what a folder name ≡ None
    no_library a folder name e = ap (of_file what name) (no_file a folder name e)

    pub libraries_seen : (place : Place) → AreSeen t part (names_looked t place) → libraries_in what part place ≡ libraries_in what t place
    libraries_seen place all =
        let folder = place.real in
        children_seen t part whole is is_library_name folder (library_in what part folder) (library_in what t folder) (no_library part folder) (no_library t folder) all
        (names_same t part (library_in what part folder) (library_in what t folder) folder (library_seen folder) (filter is_library_name (children_of t folder)) all.1)

    pub all_libraries_seen : (places : List Place) → AreSeen t part (wanted_looked t places) → map (libraries_in what part) places ≡ map (libraries_in what t) places
    unfolding wanted_looked
    all_libraries_seen places all =
        each.map_same (libraries_in what part) (libraries_in what t) places
        (each_seen t part (names_looked t) (λ place. libraries_in what part place ≡ libraries_in what t place) libraries_seen places all)

  -- the same if the ELF information is the same for the files with library names
  pub libraries_read : (what new : Analyses) (places : List Place) → AreSeen t part (wanted_looked t places) → AgreeOn (wanted t places) what new
      → map (libraries_in new part) places ≡ map (libraries_in what t) places
  libraries_read what new places all same = all_libraries_seen new places all ∙ libraries_agree t what new places same

  pub bests_read : (what new : Analyses) (places : List Place) → AreSeen t part (wanted_looked t places) → AgreeOn (wanted t places) what new
      → bests_of new part places ≡ bests_of what t places
  unfolding bests_of
  bests_read what new places all same =
      map_same bests (libraries_in new t) (libraries_in new part) places (all_libraries_seen new places all)
      ∙ map_same bests (libraries_in what t) (libraries_in new t) places (libraries_agree t what new places same)
