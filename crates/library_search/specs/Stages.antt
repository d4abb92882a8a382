-- The stages of an update's search, each by the results of the stages before it: the search of a tree for the directories that were named,
-- and the links that are planned for this search. The tree may have grown between two stages.
use Rattle.std.specs.Prelude.{◌≡◌, ◌≤◌, ◌+◌, ◌++◌, ◌||◌, ℕ, true, false, nat_lt, if◌then◌else◌, IsTrue, List, [], length}
use Rattle.std.specs.List.{list_any}
use Rattle.std.specs.Map.{keys_of}
use Rattle.std.specs.Str.{bytes_eq}
use Rattle.aux_cache.specs.declared.stamps.Stamp.{Stamp}
use Rattle.elf_dynamic.specs.Begun.{lacks_one}
use Rattle.file_stamps.specs.Info.{info_in, info_stamps}
use Rattle.file_stamps.specs.Opened.{HaveSameIds, ids_at, ids_of}
use Rattle.file_stamps.specs.Stamped.{StampTheSame, stamps_at, with_stamps}
use Rattle.file_stamps.specs.State.{ids_there}
use Rattle.file_table.specs.Analyses.{AgreeOn, Analyses, HaveAnalyses, KeepsAnalyses}
use Rattle.file_table.specs.Table.{analysis_at}
use Rattle.hwcap_dirs.specs.Places.{are_dirs}
use Rattle.hwcap_dirs.specs.declared.kinds.Place.{Place}
use Rattle.hwcap_dirs.specs.declared.kinds.Scope.{Scope}
use Rattle.image_tree.specs.Tree.{Nodes}
use Rattle.image_tree.specs.declared.tree.TheConstants.{NODES_MAX}
use Rattle.library_files.specs.Search.{dangling, reached, wanted}
use Rattle.link_plan.specs.declared.kinds.Planned.{Planned}
use Rattle.place_libraries.specs.Rows.{AreOfPlaces}
use Rattle.planned_tree.specs.Search.{IsSearchedAlike}
use Rattle.soname_links.specs.Apply.{nodes_with}
use Rattle.soname_links.specs.Marks.{blocked, mixed}
use Rattle.soname_links.specs.Plan.{links, with_links}
use Rattle.soname_links.specs.Settled.{IsSettled}
use Rattle.tree_face.specs.Store.{Contents}
use Rattle.library_search.specs.After.{info_after, made_after, opened_after, unread_after}
use Rattle.library_search.specs.Begun.{opened_wanted}
use Rattle.library_search.specs.Judged.{AreJudged, judged}
use Rattle.library_search.specs.declared.finding.Found.{Found}
use Rattle.library_search.specs.declared.search.Search.{Search}

-- ---- the search of a tree

-- the search directories are directories of the tree, and the table has a row for each file with a library name in them and no other rows
pub record IsSearchOf (scope : Scope) (t : Nodes) (search : Search) : Type 0 where
  pub dirs : IsTrue (are_dirs t search.dirs.places)
  pub all : HaveAnalyses (analysis_at search.files.table) (wanted t search.dirs.places)
  pub rows : AreOfPlaces t search.dirs.places search.files.table
  pub judged : AreJudged scope (analysis_at search.files.table)

-- the analyses of these files, from the loaded stamps or the contents (`info_in`)
abbrev pub info_found : Contents → Nodes → List Stamp → List Place → Analyses
info_found held t loaded places = info_in held t loaded (wanted t places)

-- these files were read; the contents of all files that had to be opened are held
pub record HasRead (scope : Scope) (held : Contents) (t : Nodes) (loaded : List Stamp) (search : Search) : Type 0 where
  pub info : AgreeOn (wanted t search.dirs.places) (judged scope (info_found held t loaded search.dirs.places)) (analysis_at search.files.table)
  pub stamps : search.files.stamps ≡ with_stamps [] (info_stamps t (info_found held t loaded search.dirs.places) (wanted t search.dirs.places))
  pub stamped : StampTheSame (loaded ++ search.files.stamps) (loaded ++ stamps_at held t (wanted t search.dirs.places))
  pub ids : HaveSameIds (ids_there loaded search.files) (ids_of loaded ++ ids_at t (wanted t search.dirs.places))
  pub begun : search.files.begun ≡ length (opened_wanted t loaded search.dirs.places)
  pub none_lacks : lacks_one held (opened_wanted t loaded search.dirs.places) ≡ false

-- ---- the links

-- the links that are planned for a search of this tree
abbrev pub planned_by : Search → Nodes → List Planned
planned_by search t = links (analysis_at search.files.table) t search.dirs.places

-- The keys of the link targets that are opened. If the links don't fit into the tree, no link is followed.
abbrev pub opened_planned : List Stamp → Search → Nodes → List (List ℕ)
opened_planned loaded search t =
    if nat_lt NODES_MAX (nodes_with t (planned_by search t)) then [] else opened_after loaded search.files (with_links t (planned_by search t)) search.dirs

-- the results in the tree, and in the tree with the planned links
pub record IsPlannedFor (loaded : List Stamp) (search : Search) (t : Nodes) (found : Found) (tree : Nodes) : Type 0 where
  pub conf : found.search.conf ≡ search.conf
  pub dirs : found.search.dirs ≡ search.dirs
  pub plan : found.links.plan ≡ planned_by search t
  pub few : nodes_with t (planned_by search t) ≤ NODES_MAX
  pub tree_is : tree ≡ with_links t (planned_by search t)
  pub alike : IsSearchedAlike t tree
  pub settled : IsSettled (analysis_at search.files.table) t search.dirs.places tree
  pub blocked_is : found.links.blocked ≡ blocked (analysis_at search.files.table) t search.dirs.places
  pub mixed_is : found.links.mixed ≡ mixed (analysis_at search.files.table) t search.dirs.places
  pub dangling_is : found.followed.dangling ≡ dangling tree search.dirs.places
  -- the table has further rows only for link targets
  pub kept : KeepsAnalyses (analysis_at search.files.table) (analysis_at found.search.files.table)
  pub only : (path : List ℕ) → list_any (bytes_eq path) (keys_of found.search.files.table) ≡ true →
      (list_any (bytes_eq path) (keys_of search.files.table) || list_any (bytes_eq path) (reached tree search.dirs.places)) ≡ true
  pub opened : found.search.files.begun ≡ search.files.begun + length (opened_after loaded search.files tree search.dirs)

-- the link targets were read; the contents of all files that had to be opened are held
pub record HasFollowed (scope : Scope) (held : Contents) (loaded : List Stamp) (search : Search) (found : Found) (tree : Nodes) : Type 0 where
  pub info : AgreeOn (unread_after search.files tree search.dirs) (judged scope (info_after held loaded search.files tree search.dirs)) (analysis_at found.search.files.table)
  pub stamps : found.search.files.stamps ≡ with_stamps search.files.stamps (made_after held loaded search.files tree search.dirs)
  pub none_lacks : lacks_one held (opened_after loaded search.files tree search.dirs) ≡ false
