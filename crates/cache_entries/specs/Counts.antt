-- What private functions return: the numbers of winners in directories.
use Rattle.std.specs.Prelude.{◌≡◌, ℕ, List, length}
use Rattle.std.specs.List.{AllByRecursion, filter_map}
use Rattle.hwcap_dirs.specs.declared.kinds.Place.{Place}
use Rattle.image_tree.specs.Tree.{Nodes}
use Rattle.file_table.specs.Analyses.{Analyses}
use Rattle.place_libraries.specs.Best.{bests_in}
use Rattle.place_libraries.specs.Libraries.{libraries_at}
use Rattle.place_libraries.specs.Library.{Library}
use Rattle.library_files.specs.Search.{folder_links, followed_in}
use Rattle.library_files.specs.declared.links.FolderLinks.{FolderLinks}
use Rattle.cache_entries.specs.Winner.{linked, winners_among, winners_in}

-- the winners of the search directories that are this directory
abbrev pub winners_at : Analyses → Nodes → List ℕ → List Library
winners_at what t folder = winners_among (libraries_at what t folder) (filter_map (linked what) (followed_in t folder))

-- directories with the numbers of their winners
abbrev pub AreCounts : Analyses → Nodes → List (List ℕ × ℕ) → Type 0
AreCounts what t counts = AllByRecursion (λ e. e.1 ≡ length (winners_at what t e.0)) counts

-- This is the number of winners of the search directory, and the cached numbers are right.
pub record IsCounted (what : Analyses) (t : Nodes) (place : Place) (count : ℕ) (counts : List (List ℕ × ℕ)) : Type 0 where
  pub count_is : count ≡ length (winners_in what t place)
  pub counts_are : AreCounts what t counts

-- The number is right for each search directory with these best libraries and links, if the cached numbers were right before.
abbrev pub CountsEach : Analyses → List Library → FolderLinks → List (List ℕ × ℕ) → ℕ → List (List ℕ × ℕ) → Type 0
CountsEach what files links before count counts = (t : Nodes) (place : Place) → links ≡ folder_links t place → files ≡ bests_in what t place
    → AreCounts what t before → IsCounted what t place count counts
