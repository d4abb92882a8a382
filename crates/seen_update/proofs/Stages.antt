-- An update in stages: the conf files of a directory's tree, the search of a part of the tree, the links for a larger part. The results are
-- those of the tree.
use Rattle.std.proofs.Common.{◌≡◌, ℕ, true, Some, ap, sym, subst, ◌∙◌, List}
use Rattle.aux_cache.specs.Stamps.{AreRecordable}
use Rattle.aux_cache.specs.declared.stamps.Stamp.{Stamp}
use Rattle.file_table.specs.Analyses.{AgreeOn, Analyses, HaveNames}
use Rattle.file_table.specs.Table.{analysis_at}
use Rattle.hwcap_dirs.specs.Places.{absent, are_dirs, places}
use Rattle.hwcap_dirs.specs.declared.kinds.Place.{Place}
use Rattle.hwcap_dirs.specs.declared.kinds.Scope.{Scope}
use Rattle.image_tree.specs.Tree.{Nodes, node_at}
use Rattle.image_tree.specs.declared.node.Node.{Node}
use Rattle.ldso_conf.specs.Reading.{IsConfOf}
use Rattle.ldso_conf.specs.declared.kinds.Conf.{Conf}
use Rattle.library_files.specs.Search.{reached, wanted}
use Rattle.library_search.proofs.KnownParts.{is_found, settled}
use Rattle.library_search.proofs.SearchParts.{searched}
use Rattle.library_search.specs.Begun.{opened_wanted, wanted_keys}
use Rattle.library_search.specs.Found.{IsFound, IsSearched}
use Rattle.library_search.specs.Judged.{judged}
use Rattle.library_search.specs.Ldconfig.{conf_in, conf_of, info_files, info_wanted, links_in, places_in, planned_in, reached_in, wanted_in}
use Rattle.library_search.specs.Stages.{HasFollowed, HasRead, IsPlannedFor, IsSearchOf}
use Rattle.library_search.specs.declared.finding.Found.{Found}
use Rattle.library_search.specs.declared.search.Search.{Search}
use Rattle.root_folder.specs.Whole.{IsWhole}
use Rattle.seen_places.proofs.AfterLinks.{is_after, links_after, names_after}
use Rattle.seen_places.proofs.Places.{absent_seen, conf_seen, places_seen}
use Rattle.seen_places.specs.Entries.{entries_looked}
use Rattle.seen_places.specs.Looked.{followed_looked, wanted_looked}
use Rattle.seen_tree.specs.Part.{AreSeen, IsPart}
use Rattle.soname_links.specs.Plan.{with_links}
use Rattle.soname_links.specs.Settled.{IsSettled}
use Rattle.tree_face.specs.Store.{Contents}
use Rattle.seen_update.proofs.Found.{conf_in_part, finds_of}
use Rattle.seen_update.proofs.Grown.{grows, keys_stay, read_stays, search_stays, still_seen}
use Rattle.seen_update.proofs.Update.{AreLooked, bests_more, dirs_there, entries_more, looks_alike, named}
use Rattle.seen_update.specs.Alike.{LooksAlike}
use Rattle.seen_update.specs.Found.{FindsOf}
use Rattle.seen_update.specs.Grown.{HasSameFiles}
use Rattle.seen_update.specs.Looked.{dirs_looked, files_looked}

module _ (scope : Scope) (held : Contents) (t : Nodes) (whole : IsWhole t) (conf : Conf) (of : IsConfOf (conf_of scope) conf held t) where
  dirs_are : conf.dirs ≡ (conf_in scope held t).dirs
  unfolding conf_in
  dirs_are = of.dirs

  -- in a part in which the search directories were looked up
  module _ (part : Nodes) (is : IsPart t part) (seen : AreSeen t part (dirs_looked scope held t)) where
    places_there : places scope part conf.dirs ≡ places_in scope held t
    unfolding places_in
    places_there = ap (places scope part) dirs_are ∙ places_seen t part whole is scope (conf_in scope held t).dirs seen

    absent_there : absent part conf.dirs ≡ absent t (conf_in scope held t).dirs
    absent_there = ap (absent part) dirs_are ∙ absent_seen t part whole is (conf_in scope held t).dirs (conf_seen t part whole is scope (conf_in scope held t).dirs seen)

  -- ---- the search of a part, and a larger part

  module _ (part more : Nodes) (is : IsPart t part) (still : IsPart t more) (loaded : List Stamp) (search : Search)
      (conf_is : search.conf ≡ conf) (there : search.dirs.places ≡ places scope part conf.dirs) (absent_is : search.dirs.absent ≡ absent part conf.dirs)
      (search_is : IsSearchOf scope part search) (dirs : AreSeen t part (dirs_looked scope held t)) (files : AreSeen t part (files_looked scope held t))
      (looked : AreLooked scope held t more loaded) where
    same_places : search.dirs.places ≡ places_in scope held t
    same_places = there ∙ places_there part is dirs

    grown : HasSameFiles part search.dirs.places more
    grown =
        grows t part more whole is still search.dirs.places (subst (λ (p : List Place). AreSeen t part (wanted_looked t p)) (sym same_places) files)
        (subst (λ (p : List Place). AreSeen t more (wanted_looked t p)) (sym same_places) looked.files) search_is.dirs

    -- what `plan_found` requires of the larger part
    pub search_of_more : IsSearchOf scope more search
    search_of_more = search_stays scope part more search grown search_is

    places_of_more : search.dirs.places ≡ places_in scope held more
    unfolding places_in conf_in
    places_of_more =
        same_places ∙ sym (places_there more still looked.dirs) ∙ ap (places scope more) (conf_in_part scope held t more whole still looked.conf conf of).dirs

    -- the same files are opened
    pub keys_of_more : opened_wanted part loaded search.dirs.places ≡ wanted_keys scope held more loaded
    unfolding wanted_keys wanted_in
    keys_of_more = sym (keys_stay scope part more search grown held loaded) ∙ ap (opened_wanted more loaded) places_of_more

    module _ (read : HasRead scope held part loaded search) where
      pub searched_more : IsSearched scope held more loaded search
      searched_more =
          searched scope more loaded conf (Some held) search (conf_in_part scope held t more whole still looked.conf conf of) conf_is
          (same_places ∙ sym (places_there more still looked.dirs)) (absent_is ∙ absent_there part is dirs ∙ sym (absent_there more still looked.dirs))
          (read_stays scope part more search grown held loaded read)

      -- ---- the links, put into the larger part

      module _ (recordable : AreRecordable loaded) (found : Found) (tree : Nodes) (p : IsPlannedFor loaded search more found tree) (f : HasFollowed scope held loaded search found tree) where
        pub found_more : IsFound scope held more loaded found tree
        found_more = is_found scope more loaded search search_of_more found tree p (Some held) searched_more f

        pub settled_more : IsSettled (judged scope (info_wanted scope held more loaded)) more (places_in scope held more) (planned_in scope held more loaded)
        settled_more =
            subst (λ (n : Nodes). IsSettled (judged scope (info_wanted scope held more loaded)) more (places_in scope held more) n) found_more.tree_is
            (settled scope more loaded search (Some held) searched_more tree p.settled)

        pub alike : LooksAlike scope held more t loaded
        alike = looks_alike scope held t more loaded whole still recordable looked settled_more
