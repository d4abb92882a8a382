-- The search of a part finds what the search of the tree finds.
use Rattle.std.proofs.Common.{◌≡◌, ◌∙◌, ℕ, true, ◌||◌, List, [], ◌∷◌, ap, refl, sym, subst, Option, Some, None}
use Rattle.std.proofs.lemmas.Bool.{and_from, and_parts}
use Rattle.std.proofs.lemmas.Slice.Eq.{bytes_eq-Decides}
use Rattle.std.specs.Prelude.{map}
use Rattle.std.specs.Str.{bytes_eq}
use Rattle.aux_cache.specs.Stamps.{AreRecordable}
use Rattle.aux_cache.specs.declared.stamps.Stamp.{Stamp}
use Rattle.cache_entries.specs.Entries as entries
use Rattle.file_table.specs.Analyses.{AgreeOn, Analyses}
use Rattle.file_table.specs.Table.{analysis_at}
use Rattle.hwcap_dirs.specs.Places.{are_dirs, is_dir}
use Rattle.hwcap_dirs.specs.declared.kinds.Dirs.{Dirs}
use Rattle.hwcap_dirs.specs.declared.kinds.Place.{Place}
use Rattle.hwcap_dirs.specs.declared.kinds.Scope.{Scope}
use Rattle.image_tree.proofs.OneMore.{put_here, put_other}
use Rattle.image_tree.specs.Tree.{IsTree, Nodes, kind_at, node_at}
use Rattle.image_tree.specs.declared.node.Node.{Node}
use Rattle.image_tree.specs.declared.node.Node.TheVariants as node
use Rattle.ldso_conf.specs.Reading.{IsConfOf}
use Rattle.ldso_conf.specs.declared.kinds.Conf.{Conf}
use Rattle.lib_types.proofs.SortedPairs.{by_test}
use Rattle.library_search.proofs.FoundParts as parts
use Rattle.library_search.specs.Found.{IsFound, IsSearched}
use Rattle.library_search.specs.Judged.{judged}
use Rattle.library_search.specs.Ldconfig.{best_libraries, conf_of, entries_in, info_files, info_wanted, links_in, places_in, planned_in, reached_in, wanted_in}
use Rattle.library_search.specs.Stages.{HasFollowed, HasRead}
use Rattle.library_search.specs.declared.finding.Found.{Found}
use Rattle.link_plan.specs.declared.kinds.Planned.{Planned}
use Rattle.library_files.specs.declared.links.FolderLinks.{FolderLinks}
use Rattle.looked_tree.specs.Looked.{IsLookedOf, Looked}
use Rattle.looked_tree.specs.Looked as looking
use Rattle.place_libraries.specs.Best.{bests, bests_in, bests_of}
use Rattle.root_folder.specs.Crash.{HasWholeTree}
use Rattle.root_folder.specs.Folder.{FolderContent, FolderState}
use Rattle.root_folder.specs.Whole.{IsWhole}
use Rattle.seen_places.proofs.AfterLinks.{is_after, links_after, names_after, whole_after}
use Rattle.seen_places.specs.Looked.{followed_looked, wanted_looked}
use Rattle.seen_places.specs.Planned.{is_put}
use Rattle.seen_places.proofs.Planned.{not_put}
use Rattle.seen_tree.specs.Part.{AreSeen, IsPart}
use Rattle.seen_tree.specs.Seen.{seen}
use Rattle.seen_update.proofs.Enough.{are_looked}
use Rattle.seen_update.proofs.Found.{finds_of}
use Rattle.seen_update.proofs.Grown.{still_seen}
use Rattle.seen_update.proofs.Stages as stages
use Rattle.seen_update.proofs.Update.{AreLooked, bests_more, dirs_there, named, table_reached, table_wanted}
use Rattle.seen_update.specs.Alike.{LooksAlike}
use Rattle.seen_update.specs.Found.{FindsOf}
use Rattle.soname_links.proofs.Named.{is_dir_kind}
use Rattle.soname_links.specs.Plan.{with_link, with_links}
use Rattle.tree_face.specs.Known.{IfKnown}
use Rattle.tree_face.specs.Store.{Contents, StoreState}
use Rattle.cache_entries.proofs.NoOtherFiles.{found_agrees}
use Rattle.looked_search.proofs.Added.{none_looked}
use Rattle.looked_search.proofs.Entries.{entries_linked}
use Rattle.looked_search.specs.Finding.{AddsLinks, SearchesPart, with_links_of}
use Rattle.looked_search.specs.Sonames.{AddsTo, AreThose, HaveLinks, KeepsLibraries, odd_paths}
use Rattle.looked_search.specs.Tree.{AreThere, SeesTree}
use Rattle.looked_search.specs.declared.finding.FoundPart.{FoundPart}

-- ---- the planned links

abbrev IsThere : Option Node → Type 0
IsThere o = (n : Node) × (o ≡ Some n)

-- a node stays, if more links are put
stays_there : (plan : List Planned) (t : Nodes) (q : List ℕ) → IsThere (node_at t q) → IsThere (node_at (with_links t plan) q)
stays_there [] t q h = h
stays_there (planned ∷ plan) t q h = stays_there plan (with_link t planned) q (by_test (bytes_eq q planned.path)
    (λ e. subst (λ (p : List ℕ). IsThere (node_at (with_link t planned) p)) (sym ((bytes_eq-Decides q planned.path).0 e)) (node.Link planned.file, put_here planned.path (node.Link planned.file) t))
    (λ e. (h.0, put_other planned.path (node.Link planned.file) q e t ∙ h.1)))

-- at the path of a planned link there is a node
put_there : (plan : List Planned) (t : Nodes) (q : List ℕ) → is_put plan q ≡ true → IsThere (node_at (with_links t plan) q)
put_there [] t q h = absurd (cc)
put_there (planned ∷ plan) t q h = by_test (bytes_eq q planned.path)
    (λ e.
    stays_there plan (with_link t planned) q
    (subst (λ (p : List ℕ). IsThere (node_at (with_link t planned) p)) (sym ((bytes_eq-Decides q planned.path).0 e)) (node.Link planned.file, put_here planned.path (node.Link planned.file) t)))
    (λ e. put_there plan (with_link t planned) q (sym (ap (λ b. b || is_put plan q) e) ∙ h))

-- where the part with the planned links has no node, no link is planned
pub those_planned : (plan : List Planned) (t part : Nodes) → AreThose t (with_links t plan) (with_links part plan)
those_planned plan t part q none = by_test (is_put plan q)
    (λ e. let there = put_there plan part q e in let z : Some there.0 ≡ None = sym there.1 ∙ none in absurd (cc))
    (λ e. not_put plan t q e)

-- directories stay directories
pub dirs_kept : (old new : Nodes) → KeepsLibraries old new → (places : List Place) → are_dirs old places ≡ true → are_dirs new places ≡ true
dirs_kept old new keeps [] h = refl
dirs_kept old new keeps (place ∷ places) h =
    let parts = and_parts (is_dir (kind_at old place.real)) (are_dirs old places) h in
    and_from _ _ (ap is_dir (keeps.dirs place.real (is_dir_kind (kind_at old place.real) parts.0))) (dirs_kept old new keeps places parts.1)

-- the same libraries give the same best libraries
pub bests_kept : (what : Analyses) (old new : Nodes) → KeepsLibraries old new → (places : List Place) → are_dirs old places ≡ true → bests_of what new places ≡ bests_of what old places
unfolding bests_of
bests_kept what old new keeps [] h = refl
bests_kept what old new keeps (place ∷ places) h =
    let parts = and_parts (is_dir (kind_at old place.real)) (are_dirs old places) h in
    ap (λ ls. bests ls ∷ map (bests_in what new) places) (keeps.libraries what place.real (is_dir_kind (kind_at old place.real) parts.0))
    ∙ ap (λ ls. bests_in what old place ∷ ls) (bests_kept what old new keeps places parts.1)

-- ---- the part

module _ (scope : Scope) (held : Contents) (t part : Nodes) (loaded : List Stamp) (conf : Conf) (state : StoreState) (found : Found) (tree : Nodes)
    (whole : IsWhole t) (is : IsPart t part) (recordable : AreRecordable loaded) (there : AreThere scope held t part) (of : IsConfOf (conf_of scope) conf held t)
    (s : SearchesPart scope loaded conf part state found tree) (read : HasRead scope held part loaded s.search) (f : HasFollowed scope held loaded s.search found tree) where
  looked : AreLooked scope held t part loaded
  looked = are_looked scope held t part loaded whole is s.is_part recordable there.conf there.dirs there.libraries

  searched : IsSearched scope held part loaded s.search
  searched = stages.searched_more scope held t whole conf of part part is is loaded s.search s.conf_is s.places_are s.absent_is s.of there.dirs looked.files looked read

  is_found : IsFound scope held part loaded found tree
  is_found = stages.found_more scope held t whole conf of part part is is loaded s.search s.conf_is s.places_are s.absent_is s.of there.dirs looked.files looked read recordable found tree s.planned f

  alike : LooksAlike scope held part t loaded
  alike = stages.alike scope held t whole conf of part part is is loaded s.search s.conf_is s.places_are s.absent_is s.of there.dirs looked.files looked read recordable found tree s.planned f

  abbrev what : Analyses
  what = judged scope (info_wanted scope held t loaded)

  abbrev plan : List Planned
  plan = links_in scope held t loaded

  -- ---- the tree with the planned links

  tree_is : tree ≡ with_links part (links_in scope held t loaded)
  unfolding planned_in
  tree_is = is_found.tree_is ∙ ap (with_links part) alike.links

  pub whole_planned : IsWhole (planned_in scope held t loaded)
  unfolding planned_in links_in
  whole_planned = whole_after t part whole is what (named scope held t part loaded whole is recordable looked) (places_in scope held t) (dirs_there scope held t part loaded whole is recordable looked) looked.files

  pub part_planned : IsPart (planned_in scope held t loaded) tree
  unfolding planned_in links_in
  part_planned =
      subst (IsPart (planned_in scope held t loaded)) (sym tree_is)
      (is_after t part whole is what (named scope held t part loaded whole is recordable looked) (places_in scope held t) (dirs_there scope held t part loaded whole is recordable looked) looked.files)

  pub those : AreThose t (planned_in scope held t loaded) tree
  unfolding planned_in
  those = subst (AreThose t (with_links t plan)) (sym tree_is) (those_planned plan t part)

  names : AreSeen (planned_in scope held t loaded) tree (wanted_looked (planned_in scope held t loaded) (places_in scope held t))
  unfolding planned_in links_in
  names =
      subst (λ n. AreSeen (planned_in scope held t loaded) n (wanted_looked (planned_in scope held t loaded) (places_in scope held t))) (sym tree_is)
      (names_after t part whole is what (named scope held t part loaded whole is recordable looked) (places_in scope held t) (dirs_there scope held t part loaded whole is recordable looked) looked.files)

  ways : AreSeen (planned_in scope held t loaded) tree (followed_looked (planned_in scope held t loaded) (places_in scope held t))
  unfolding planned_in links_in
  ways =
      subst (λ n. AreSeen (planned_in scope held t loaded) n (followed_looked (planned_in scope held t loaded) (places_in scope held t))) (sym tree_is)
      (links_after t part whole is what (named scope held t part loaded whole is recordable looked) (places_in scope held t) (dirs_there scope held t part loaded whole is recordable looked) looked.files looked.links)

  -- ---- the analyses

  abbrev table : Analyses
  table = analysis_at found.search.files.table

  first : AgreeOn (wanted_in scope held part) (judged scope (info_files scope held part loaded)) (analysis_at found.search.files.table)
  first =
      subst (λ (paths : List (List ℕ)). AgreeOn paths (judged scope (info_files scope held part loaded)) table) (parts.wanted_are scope held part loaded s.search searched)
      (parts.one_agrees scope held part loaded s.search searched s.of tree s.planned.tree_is table s.planned.kept)

  next : AgreeOn (reached_in scope held part loaded) (judged scope (info_files scope held part loaded)) (analysis_at found.search.files.table)
  next =
      subst (λ (paths : List (List ℕ)). AgreeOn paths (judged scope (info_files scope held part loaded)) table) (parts.reached_are scope held part loaded s.search searched s.of tree s.planned.tree_is)
      (parts.other_agrees scope held part loaded s.search searched s.of tree s.planned.tree_is s.planned.alike table s.planned.kept f.info)

  -- ---- with the links at the sonames

  module _ (last : Nodes) (is_tree : IsTree last) (keeps : KeepsLibraries tree last)
      (adds : AddsTo (planned_in scope held t loaded) tree last (odd_paths found.search.dirs.places found.search.files.table) []) where
    abbrev after : Nodes
    after = planned_in scope held t loaded

    last_names : AreSeen (planned_in scope held t loaded) last (wanted_looked (planned_in scope held t loaded) (places_in scope held t))
    last_names = still_seen after tree last keeps.nodes adds.part (wanted_looked after (places_in scope held t)) names

    last_ways : AreSeen (planned_in scope held t loaded) last (followed_looked (planned_in scope held t loaded) (places_in scope held t))
    last_ways = still_seen after tree last keeps.nodes adds.part (followed_looked after (places_in scope held t)) ways

    all_dirs : (places : List Place) → are_dirs tree places ≡ true → are_dirs last places ≡ true
    all_dirs places h = dirs_kept tree last keeps places h

    places_are : s.search.dirs.places ≡ places_in scope held t
    places_are = searched.places ∙ alike.places

    found_places : found.search.dirs.places ≡ places_in scope held t
    found_places = ap (λ (d : Dirs). d.places) s.planned.dirs ∙ places_are

    last_dirs : are_dirs last (places_in scope held t) ≡ true
    last_dirs = subst (λ (ps : List Place). are_dirs last ps ≡ true) places_are (all_dirs s.search.dirs.places s.planned.settled.dirs)

    bests_are : bests_of (analysis_at found.search.files.table) last (places_in scope held t) ≡ best_libraries scope held t loaded
    bests_are =
        bests_more scope held t part loaded whole is recordable looked
        (stages.settled_more scope held t whole conf of part part is is loaded s.search s.conf_is s.places_are s.absent_is s.of there.dirs looked.files looked read recordable found tree s.planned f)
        table first next last adds.part last_names

    entries_are : entries.found (analysis_at found.search.files.table) last (places_in scope held t) ≡ entries_in scope held t loaded
    unfolding entries_in
    entries_are =
        let still = stages.settled_more scope held t whole conf of part part is is loaded s.search s.conf_is s.places_are s.absent_is s.of there.dirs looked.files looked read recordable found tree s.planned f in
        entries_linked after last whole_planned adds.part is_tree found.search.files.table s.named (places_in scope held t) last_dirs last_names last_ways
        (subst (λ (ps : List Place). HaveLinks after last (odd_paths ps found.search.files.table)) found_places (adds.links last (λ q n e. e) adds.part tt))
        ∙ found_agrees after (judged scope (info_files scope held t loaded)) table (places_in scope held t)
        (table_wanted scope held t part loaded whole is recordable looked still table first next last adds.part last_names)
        (table_reached scope held t part loaded whole is recordable looked still table first next last adds.part last_names)

    pub finds : FindsOf scope held t loaded found last
    finds = finds_of scope held t part loaded found tree whole is there.conf alike is_found last entries_are bests_are

-- ---- if the directory and the contents are known

-- the links of the search directories can be followed again
finds_again : (scope : Scope) (held : Contents) (t : Nodes) (loaded : List Stamp) (found : Found) (links : List FolderLinks) (last : Nodes) → FindsOf scope held t loaded found last
    → FindsOf scope held t loaded (with_links_of found links) last
finds_again scope held t loaded found links last f = record {
  conf = f.conf;
  places = f.places;
  absent_is = f.absent_is;
  plan = f.plan;
  blocked_is = f.blocked_is;
  mixed_is = f.mixed_is;
  dangling_is = f.dangling_is;
  entries_are = f.entries_are;
  bests_are = f.bests_are;
  skips_are = f.skips_are;
  stamps = f.stamps;
  opened = f.opened;
  none_lacks = f.none_lacks;
  none_after = f.none_after;
}

module _ (scope : Scope) (loaded : List Stamp) (recordable : AreRecordable loaded) (conf : Conf) (a b d : FolderState) (start middle : StoreState) (y : Looked)
    (sees : SeesTree scope conf a b start middle (looking.looked (seen [] []) []) y) (whole : HasWholeTree a) (found : Found) (tree : Nodes)
    (s : SearchesPart scope loaded conf y.seen.part middle found tree) (part : FoundPart) (adds : AddsLinks b d found tree part) where
  abbrev x : Looked
  x = looking.looked (seen [] []) []

  abbrev Adds : FolderContent → Type 0
  Adds c = (t : Nodes) → IsWhole t → IsPart t tree → AreThose c.now t tree → AddsTo t tree part.tree (odd_paths found.search.dirs.places found.search.files.table) []

  one : (c : FolderContent) (held : Contents) → IsWhole c.now → IsConfOf (conf_of scope) conf held c.now → AreThere scope held c.now y.seen.part → IsLookedOf c.now y
      → HasRead scope held y.seen.part loaded s.search → HasFollowed scope held loaded s.search found tree → Adds c → FindsOf scope held c.now loaded part.found part.tree
  one c held w of there known read follows more =
      let is = known.seen.part in
      let t = c.now in
      let p = y.seen.part in
      let links = more (planned_in scope held t loaded)
      (whole_planned scope held t p loaded conf middle found tree w is recordable there of s read follows)
      (part_planned scope held t p loaded conf middle found tree w is recordable there of s read follows)
      (those scope held t p loaded conf middle found tree w is recordable there of s read follows) in
      subst (λ (f : Found). FindsOf scope held t loaded f part.tree) (sym adds.same)
      (finds_again scope held t loaded found part.found.followed.links part.tree
      (finds scope held t p loaded conf middle found tree w is recordable there of s read follows part.tree adds.is_tree adds.adds.keeps links))

  all_found : (o : Option FolderContent) (known : Option Contents) → IfKnown o (λ c. IsWhole c.now) → IfKnown o (λ c. IsLookedOf c.now x → IfKnown known (λ held. IsConfOf (conf_of scope) conf held c.now))
      → IfKnown o (λ c. IsLookedOf c.now x → IfKnown known (λ held. AreThere scope held c.now y.seen.part)) → IfKnown o (λ c. IsLookedOf c.now x → IsLookedOf c.now y)
      → IfKnown known (λ held. HasRead scope held y.seen.part loaded s.search) → IfKnown known (λ held. HasFollowed scope held loaded s.search found tree) → IfKnown o Adds
      → IfKnown o (λ c. IfKnown known (λ held. FindsOf scope held c.now loaded part.found part.tree))
  all_found None known w of there on read follows more = tt
  all_found (Some c) None w of there on read follows more = tt
  all_found (Some c) (Some held) w of there on read follows more =
      let none = none_looked c.now w in
      one c held w (of none) (there none) (on none) read follows more

  pub part_finds : IfKnown a.contents (λ c. IfKnown start.held (λ held. FindsOf scope held c.now loaded part.found part.tree))
  part_finds =
      all_found a.contents start.held whole sees.conf_is sees.seen sees.looks.known
      (subst (λ (k : Option Contents). IfKnown k (λ held. HasRead scope held y.seen.part loaded s.search)) sees.held s.read)
      (subst (λ (k : Option Contents). IfKnown k (λ held. HasFollowed scope held loaded s.search found tree)) sees.held s.followed)
      (subst (λ o. IfKnown o Adds) sees.looks.reads.keeps.contents adds.adds.known)
