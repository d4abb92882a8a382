-- The tree and its part after the planned links are put into both: if the other paths that the links' resolutions look up were seen, the
-- links lead to the same files in both.
use Rattle.std.proofs.Common.{◌≡◌, true, List}
use Rattle.cache_entries.specs.Entries.{found}
use Rattle.file_table.specs.Analyses.{Analyses, HaveNames}
use Rattle.hwcap_dirs.specs.Places.{are_dirs}
use Rattle.hwcap_dirs.specs.declared.kinds.Place.{Place}
use Rattle.image_tree.specs.Tree.{Nodes}
use Rattle.library_files.specs.Search.{dangling, followed, reached, wanted}
use Rattle.link_plan.specs.declared.kinds.Planned.{Planned}
use Rattle.root_folder.specs.Whole.{IsWhole}
use Rattle.seen_tree.specs.Part.{AreSeen, IsPart}
use Rattle.soname_links.specs.Plan.{links, with_links}
use Rattle.seen_places.proofs.Entries.{entries_seen}
use Rattle.seen_places.proofs.Files.{dangling_seen, followed_seen, reached_nodes, reached_seen, wanted_nodes, wanted_seen}
use Rattle.seen_places.proofs.Planned.{followed_with, part_planned, unput_seen, wanted_with, whole_planned}
use Rattle.seen_places.specs.Entries.{entries_looked}
use Rattle.seen_places.specs.Looked.{followed_looked, wanted_looked}
use Rattle.seen_places.specs.Planned.{planned_looked, unput}

module _ (t part : Nodes) (whole : IsWhole t) (is : IsPart t part) (what : Analyses) (named : HaveNames what) (places : List Place) (dirs : are_dirs t places ≡ true)
    (seen : AreSeen t part (wanted_looked t places)) where
  abbrev plan : List Planned
  plan = links what t places

  abbrev after : Nodes
  after = with_links t (links what t places)

  abbrev part_after : Nodes
  part_after = with_links part (links what t places)

  pub whole_after : IsWhole (with_links t (links what t places))
  whole_after = whole_planned t whole what named places dirs

  pub is_after : IsPart (with_links t (links what t places)) (with_links part (links what t places))
  is_after = part_planned t whole what named places dirs part is

  pub names_after : AreSeen (with_links t (links what t places)) (with_links part (links what t places)) (wanted_looked (with_links t (links what t places)) places)
  names_after = wanted_with t part is plan whole_after.entries places dirs seen

  -- ---- the files with library names

  pub wanted_planned : wanted part_after places ≡ wanted after places
  wanted_planned = wanted_seen after part_after whole_after is_after places names_after

  pub wanted_planned_nodes : AreSeen after part_after (wanted after places)
  wanted_planned_nodes = wanted_nodes after part_after whole_after is_after places names_after

  -- ---- the files that the links resolve to

  module _ (all : AreSeen t part (planned_looked t plan places)) where
    pub links_after : AreSeen (with_links t (links what t places)) (with_links part (links what t places)) (followed_looked (with_links t (links what t places)) places)
    links_after = followed_with plan t part places all

    pub followed_planned : followed part_after places ≡ followed after places
    followed_planned = followed_seen after part_after whole_after is_after places names_after links_after

    pub reached_planned : reached part_after places ≡ reached after places
    reached_planned = reached_seen after part_after whole_after is_after places names_after links_after

    pub reached_planned_nodes : AreSeen after part_after (reached after places)
    reached_planned_nodes = reached_nodes after part_after whole_after is_after places links_after

    pub dangling_planned : dangling part_after places ≡ dangling after places
    dangling_planned = dangling_seen after part_after whole_after is_after places names_after links_after

    -- the cache entries
    pub entries_planned : (read : Analyses) → AreSeen t part (unput plan (entries_looked read after places)) → found read part_after places ≡ found read after places
    entries_planned read sonames =
        entries_seen after part_after whole_after is_after read places names_after links_after (unput_seen plan t part (entries_looked read after places) sonames)
