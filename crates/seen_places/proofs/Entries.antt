-- If the files, the links and the sonames of the winners were seen, the part has the same cache entries as the tree.
use Rattle.std.proofs.Common.{◌≡◌, ℕ, ◌+◌, Bool, true, false, cond, ◌&&◌, ◌||◌, List, [], ◌∷◌, ◌++◌, flat_map, map, refl, ap, sym, subst, ◌∙◌}
use Rattle.std.specs.List.{filter_map}
use Rattle.cache_entries.proofs.NoOtherFiles.{found_agrees}
use Rattle.cache_entries.specs.Entries.{entries_in, entry_of, found, is_by_soname}
use Rattle.cache_entries.specs.Winner.{linked, links_to_libraries, winners_among, winners_in}
use Rattle.file_table.specs.Analyses.{Analyses, AgreeOn}
use Rattle.hwcap_dirs.specs.declared.kinds.Place.{Place}
use Rattle.image_tree.specs.Paths.{join}
use Rattle.image_tree.specs.Tree.{Nodes}
use Rattle.lib_types.proofs.SortedPairs.{by_test}
use Rattle.lib_types.specs.declared.entry.Entry.{Entry}
use Rattle.library_files.specs.Places.{by_place, has_no_cap, is_link_to, links_to}
use Rattle.library_files.specs.Search.{reached, wanted}
use Rattle.place_libraries.specs.Best.{is_own}
use Rattle.place_libraries.specs.Libraries.{libraries_in}
use Rattle.place_libraries.specs.Library.{Library}
use Rattle.root_folder.specs.Whole.{IsWhole}
use Rattle.seen_tree.proofs.Same.{seen_parts}
use Rattle.seen_tree.specs.Part.{AreSeen, IsPart}
use Rattle.seen_places.proofs.Each.{each_seen, every, map_same}
use Rattle.seen_places.proofs.Files.{followed_in_seen}
use Rattle.seen_places.proofs.Libraries.{libraries_seen}
use Rattle.seen_places.specs.Entries.{entries_looked, soname_looked, sonames_looked}
use Rattle.seen_places.specs.Looked.{followed_looked, links_looked, names_looked, wanted_looked}

module _ (t part : Nodes) (whole : IsWhole t) (is : IsPart t part) where
  -- ---- the entry of a winner

  module _ (number : ℕ) (place : Place) (winner : Library) where
    abbrev with_name : Bool → Entry
    with_name by_soname = record {
      soname = winner.soname;
      abi = winner.abi;
      cap = place.cap;
      path = join place.spelled (cond by_soname winner.soname winner.name);
      place = number;
    }

    abbrev soname_path : List ℕ
    soname_path = join place.real winner.soname

    own_same : is_own winner ≡ true → is_by_soname part place winner ≡ is_by_soname t place winner
    own_same e =
        ap (λ b. has_no_cap place && (b || links_to part soname_path winner.name)) e
        ∙ sym (ap (λ b. has_no_cap place && (b || links_to t soname_path winner.name)) e)

    entry_seen : AreSeen t part (soname_looked place winner) → entry_of part number place winner ≡ entry_of t number place winner
    entry_seen all = ap with_name (by_test (is_own winner)
        own_same
        (λ e.
        let seen : AreSeen t part (soname_path ∷ []) = subst (λ b. AreSeen t part (cond b [] (soname_path ∷ []))) e all in
        ap (λ o. has_no_cap place && (is_own winner || is_link_to winner.name o)) seen.0))

    -- in a `glibc-hwcaps` directory no soname is looked up
    cap_same : has_no_cap place ≡ false → entry_of part number place winner ≡ entry_of t number place winner
    cap_same e = ap with_name
        (ap (λ b. b && (is_own winner || links_to part soname_path winner.name)) e
        ∙ sym (ap (λ b. b && (is_own winner || links_to t soname_path winner.name)) e))

  -- ---- a search directory

  module _ (what : Analyses) where
    links_seen : (place : Place) → AreSeen t part (names_looked t place) → AreSeen t part (links_looked t place.real) → links_to_libraries what part place ≡ links_to_libraries what t place
    links_seen place seen all = ap (filter_map (linked what)) (followed_in_seen t part whole is place.real seen all)

    pub winners_seen : (place : Place) → AreSeen t part (names_looked t place) → AreSeen t part (links_looked t place.real) → winners_in what part place ≡ winners_in what t place
    winners_seen place seen all =
        ap (λ libraries. winners_among libraries (links_to_libraries what part place)) (libraries_seen t part whole is what place seen)
        ∙ ap (winners_among (libraries_in what t place)) (links_seen place seen all)

    entries_same : (number : ℕ) (place : Place) → AreSeen t part (sonames_looked what t place)
        → map (entry_of part number place) (winners_in what t place) ≡ map (entry_of t number place) (winners_in what t place)
    entries_same number place all =
        let winners = winners_in what t place in
        let f = entry_of part number place in
        let g = entry_of t number place in
        by_test (has_no_cap place)
        (λ e.
        map_same f g winners
        (each_seen t part (soname_looked place) (λ winner. f winner ≡ g winner) (λ winner seen. entry_seen number place winner seen) winners
        (subst (λ b. AreSeen t part (cond b (flat_map (soname_looked place) winners) [])) e all)))
        (λ e. map_same f g winners (every (λ winner. f winner ≡ g winner) (λ winner. cap_same number place winner e) winners))

    entries_in_seen : (number : ℕ) (place : Place) → AreSeen t part (names_looked t place) → AreSeen t part (links_looked t place.real)
        → AreSeen t part (sonames_looked what t place) → entries_in what part number place ≡ entries_in what t number place
    entries_in_seen number place seen all sonames = ap (map (entry_of part number place)) (winners_seen place seen all) ∙ entries_same number place sonames

    -- ---- all search directories

    by_place_seen : (number : ℕ) (places : List Place) → AreSeen t part (flat_map (names_looked t) places) → AreSeen t part (flat_map (λ place. links_looked t place.real) places)
        → AreSeen t part (flat_map (sonames_looked what t) places) → by_place (entries_in what part) number places ≡ by_place (entries_in what t) number places
    by_place_seen number [] seen all sonames = refl
    by_place_seen number (place ∷ places) seen all sonames =
        let names = seen_parts t part (names_looked t place) (flat_map (names_looked t) places) seen in
        let links = seen_parts t part (links_looked t place.real) (flat_map (λ place. links_looked t place.real) places) all in
        let parts = seen_parts t part (sonames_looked what t place) (flat_map (sonames_looked what t) places) sonames in
        ap (λ xs. xs ++ by_place (entries_in what part) (number + 1) places) (entries_in_seen number place names.0 links.0 parts.0)
        ∙ ap (λ xs. entries_in what t number place ++ xs) (by_place_seen (number + 1) places names.1 links.1 parts.1)

    pub entries_seen : (places : List Place) → AreSeen t part (wanted_looked t places) → AreSeen t part (followed_looked t places) → AreSeen t part (entries_looked what t places)
        → found what part places ≡ found what t places
    unfolding found wanted_looked followed_looked entries_looked
    entries_seen places seen all sonames = by_place_seen 0 places seen all sonames

  -- the same if the ELF information is the same for the files with library names and for the files that links resolve to
  pub entries_read : (what new : Analyses) (places : List Place) → AreSeen t part (wanted_looked t places) → AreSeen t part (followed_looked t places)
      → AreSeen t part (entries_looked new t places) → AgreeOn (wanted t places) what new → AgreeOn (reached t places) what new → found new part places ≡ found what t places
  entries_read what new places seen all sonames files links = entries_seen new places seen all sonames ∙ found_agrees t what new places files links
