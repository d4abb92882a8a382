-- The sonames of the winners need a look-up only if they aren't library names. They are sonames of libraries, or names of their files.
use Rattle.std.proofs.Common.{◌≡◌, ℕ, Bool, true, cond, ◌&&◌, ◌||◌, List, [], ◌∷◌, ◌++◌, filter, flat_map, if◌then◌else◌, refl, ap, sym, subst, ◌∙◌, Option, Some, None, unwrap_or}
use Rattle.std.proofs.lemmas.Bool.{and_from, and_parts}
use Rattle.std.proofs.Math.Bool.{or-true}
use Rattle.std.specs.List.{list_all}
use Rattle.std.specs.Option.{option_and_then}
use Rattle.cache_entries.proofs.Fit.{links_named_well}
use Rattle.cache_entries.specs.Winner.{has_own_name, library_after, linked, links_to_libraries, named, named_links, or_else, other_links, unnamed, winner, winners_in}
use Rattle.file_table.specs.Analyses.{Analyses, HaveNames}
use Rattle.hwcap_dirs.proofs.Children.{children_named}
use Rattle.hwcap_dirs.proofs.Reals.{all_given}
use Rattle.hwcap_dirs.specs.Places.{are_dirs, is_dir}
use Rattle.hwcap_dirs.specs.declared.kinds.Place.{Place}
use Rattle.image_tree.specs.Paths.{join}
use Rattle.image_tree.specs.Tree.{IsTree, Nodes, children_of, kind_at, node_at}
use Rattle.image_tree.specs.declared.node.Node.{Node}
use Rattle.image_tree.specs.declared.tree.Kind.TheVariants as kinds
use Rattle.lib_types.proofs.SortedPairs.{by_test}
use Rattle.lib_types.specs.Name.{is_name}
use Rattle.lib_types.specs.declared.abi.Abi.{Abi}
use Rattle.lib_types.specs.declared.analysis.Analysis.{Analysis}
use Rattle.lib_types.specs.declared.analysis.Analysis.TheVariants.{Lib, Not}
use Rattle.library_files.specs.Link.{FollowedLink}
use Rattle.library_files.specs.Places.{has_no_cap}
use Rattle.library_files.specs.Search.{followed_in}
use Rattle.name_order.specs.LibraryName.{is_library_name}
use Rattle.path_walk.proofs.Last.{last_joined}
use Rattle.path_walk.specs.Files.{is_file}
use Rattle.path_walk.specs.Names.{last}
use Rattle.place_libraries.proofs.Named.{best_meets, has_names, libraries_named}
use Rattle.place_libraries.specs.Best.{best, is_own, sonames}
use Rattle.place_libraries.specs.Libraries.{libraries_in, library_at, library_by, library_in}
use Rattle.place_libraries.specs.Library.{Library}
use Rattle.root_folder.specs.Whole.{IsWhole}
use Rattle.seen_tree.proofs.Same.{seen_parts}
use Rattle.seen_tree.specs.Part.{AreSeen, IsPart, IsSeen, listed}
use Rattle.soname_links.proofs.Named.{is_dir_kind}
use Rattle.string_pool.proofs.Members.{is_in, kept_in}
use Rattle.seen_places.proofs.Each.{all_both, seen_at}
use Rattle.seen_places.proofs.Entries.{winners_seen}
use Rattle.seen_places.proofs.Sonames.{no_node, soname_seen}
use Rattle.seen_places.specs.Entries.{entries_looked, soname_looked, sonames_looked}
use Rattle.seen_places.specs.Looked.{followed_looked, links_looked, names_looked, wanted_looked}
use Rattle.lib_types.proofs.SameTexts.{itself}

-- Each library's soname is a library name or passes the test. The soname of a library without DT_SONAME is the name of its file.
abbrev pub HasSonames : (List ℕ → Bool) → Analyses → Type 0
HasSonames test what = (path : List ℕ) (abi : Abi) (soname : Option (List ℕ)) → what path ≡ Some (Lib abi soname)
    → (is_library_name (unwrap_or soname (last path)) || test (unwrap_or soname (last path))) ≡ true

-- a search directory that isn't a `glibc-hwcaps` directory, and its names that pass the test
abbrev pub asked_looked : (List ℕ → Bool) → Nodes → Place → List (List ℕ)
asked_looked test t place = if has_no_cap place then listed test t place.real else []

module _ (test : List ℕ → Bool) where
  -- the soname is a library name or passes the test
  abbrev is_asked : Library → Bool
  is_asked library = is_library_name library.soname || test library.soname

  abbrev is_covered : Library → Bool
  is_covered library = is_own library || (is_name library.soname && is_asked library)

  -- ---- a library by its file

  module _ (what : Analyses) (has : HasSonames test what) where
    by_asked : (path name own : List ℕ) (analysis : Analysis) (library : Library) → own ≡ last path → what path ≡ Some analysis → library_by name own analysis ≡ Some library → is_asked library ≡ true
    by_asked path name own (Not defect) library o w e = absurd (cc)
    by_asked path name own (Lib abi soname) library o w e =
        let same : unwrap_or soname own ≡ library.soname = cc in
        ap (λ s. is_library_name s || test s) (sym same ∙ ap (unwrap_or soname) o) ∙ has path abi soname w

    at_asked : (path name own : List ℕ) (o : Option Analysis) (library : Library) → own ≡ last path → what path ≡ o → option_and_then (library_by name own) o ≡ Some library → is_asked library ≡ true
    at_asked path name own None library same w e = absurd (cc)
    at_asked path name own (Some analysis) library same w e = by_asked path name own analysis library same w e

    -- a file with a library name
    in_asked : (t : Nodes) (d name : List ℕ) (library : Library) → is_name name ≡ true → library_in what t d name ≡ Some library → is_asked library ≡ true
    in_asked t d name library n e = by_test (is_library_name name && is_file (kind_at t (join d name)))
        (λ h.
        let found : library_at what (join d name) name name ≡ Some library =
        sym (ap (λ b. option_and_then (λ path. library_at what path name name) (cond b (Some (join d name)) None)) h) ∙ e in
        at_asked (join d name) name name (what (join d name)) library (sym (last_joined d name n)) refl found)
        (λ h. let none : None ≡ Some library = sym (ap (λ b. option_and_then (λ path. library_at what path name name) (cond b (Some (join d name)) None)) h) ∙ e in absurd (cc))

    -- the target of a link
    after_asked : (name : List ℕ) (file : Option (List ℕ)) (library : Library) → library_after what name file ≡ Some library → is_asked library ≡ true
    after_asked name None library e = absurd (cc)
    after_asked name (Some file) library e = at_asked file name (last file) (what file) library refl refl e

    link_asked : (link : FollowedLink) (library : Library) → linked what link ≡ Some library → is_asked library ≡ true
    link_asked link library e = after_asked link.name link.file library e

  every_true : {X : Type 0} (xs : List X) → list_all (λ x. true) xs ≡ true
  every_true [] = refl
  every_true (x ∷ xs) = every_true xs

  -- ---- the winners of a search directory

  cover : (library : Library) → has_names library ≡ true → is_asked library ≡ true → is_covered library ≡ true
  cover library n h =
      let named = (and_parts (is_name library.name) (is_name library.soname) n).1 in
      ap (λ b. is_own library || b) (and_from (is_name library.soname) (is_asked library) named h) ∙ or-true (is_own library)

  covers : (libraries : List Library) → list_all has_names libraries ≡ true → list_all is_asked libraries ≡ true → list_all is_covered libraries ≡ true
  covers [] n h = refl
  covers (library ∷ libraries) n h =
      let one = and_parts (has_names library) (list_all has_names libraries) n in
      let two = and_parts (is_asked library) (list_all is_asked libraries) h in
      and_from (is_covered library) (list_all is_covered libraries) (cover library one.0 two.0) (covers libraries one.1 two.1)

  named_covered : (link library : Library) → is_covered link ≡ true → named link ≡ Some library → is_covered library ≡ true
  named_covered link library h e = by_test (has_own_name link)
      (λ own.
      let made : Library = record { name = link.name; soname = link.name; abi = link.abi } in
      let found : Some made ≡ Some library = sym (ap (λ b. cond b (Some made) None) own) ∙ e in
      let same : made ≡ library = cc in
      subst (λ (l : Library). is_covered l ≡ true) same (ap (λ b. b || (is_name link.name && (is_library_name link.name || test link.name))) (itself link.name)))
      (λ own. let none : None ≡ Some library = sym (ap (λ b. cond b (Some (record { name = link.name; soname = link.name; abi = link.abi })) None) own) ∙ e in absurd (cc))

  unnamed_covered : (link library : Library) → is_covered link ≡ true → unnamed link ≡ Some library → is_covered library ≡ true
  unnamed_covered link library h e = by_test (has_own_name link)
      (λ own. let none : None ≡ Some library = sym (ap (λ b. cond b None (Some link)) own) ∙ e in absurd (cc))
      (λ own.
      let found : Some link ≡ Some library = sym (ap (λ b. cond b None (Some link)) own) ∙ e in
      let same : link ≡ library = cc in subst (λ (l : Library). is_covered l ≡ true) same h)

  either_covered : (a b : Option Library) (library : Library) → ((l : Library) → a ≡ Some l → is_covered l ≡ true) → ((l : Library) → b ≡ Some l → is_covered l ≡ true)
      → or_else a b ≡ Some library → is_covered library ≡ true
  either_covered (Some first) b library f g e = f library e
  either_covered None b library f g e = g library e

  winner_covered : (files links : List Library) → list_all is_covered files ≡ true → list_all is_covered links ≡ true
      → (soname : List ℕ) (library : Library) → winner files links soname ≡ Some library → is_covered library ≡ true
  winner_covered files links f l soname library e =
      either_covered (best files soname) _ library (λ x h. best_meets is_covered files soname x f h)
      (λ x h. either_covered (best (named_links links) soname) (best (other_links links) soname) x
      (λ y g. best_meets is_covered (named_links links) soname y (all_given is_covered is_covered named named_covered links l) g)
      (λ y g. best_meets is_covered (other_links links) soname y (all_given is_covered is_covered unnamed unnamed_covered links l) g) h) e

  module _ (what : Analyses) (names : HaveNames what) (has : HasSonames test what) (n : Nodes) (tree : IsTree n) (place : Place) where
    files_covered : list_all is_covered (libraries_in what n place) ≡ true
    files_covered = covers (libraries_in what n place) (libraries_named what names n place tree.entries)
        (all_given is_asked is_name (library_in what n place.real) (λ name library k e. in_asked what has n place.real name library k e) (children_of n place.real) (children_named n place.real tree.entries))

    links_covered : list_all is_covered (links_to_libraries what n place) ≡ true
    links_covered = covers (links_to_libraries what n place) (links_named_well n what names tree place)
        (all_given is_asked (λ link. true) (linked what) (λ link library k e. link_asked what has link library e) (followed_in n place.real) (every_true (followed_in n place.real)))

    winners_covered : list_all is_covered (winners_in what n place) ≡ true
    winners_covered =
        let files = libraries_in what n place in
        let links = links_to_libraries what n place in
        let keys = sonames (files ++ (named_links links ++ other_links links)) in
        all_given is_covered (λ soname. true) (winner files links) (λ soname library k e. winner_covered files links files_covered links_covered soname library e) keys (every_true keys)

  -- ---- what was seen

  module _ (t part : Nodes) (is : IsPart t part) (d : List ℕ) (dir : kind_at t d ≡ kinds.Dir) (all : AreSeen t part (listed is_library_name t d)) (asked : AreSeen t part (listed test t d)) where
    both_none : (q : List ℕ) (o : Option Node) → node_at part q ≡ o → node_at t q ≡ None → o ≡ None
    both_none q None e none = refl
    both_none q (Some x) e none = let z : Some x ≡ None = sym (is.nodes q x e) ∙ none in absurd (cc)

    test_seen : (z : List ℕ) → is_name z ≡ true → test z ≡ true → IsSeen t part (join d z)
    test_seen z named h = by_test (is_in (children_of t d) z)
        (λ e. seen_at t part d z (filter test (children_of t d)) asked.1 (kept_in test z (children_of t d) ∙ and_from _ _ h e))
        (λ e.
        let none : node_at t (join d z) ≡ None = no_node t d dir z named e in
        both_none (join d z) (node_at part (join d z)) refl none ∙ sym none)

    either_seen : (z : List ℕ) → is_name z ≡ true → (is_library_name z || test z) ≡ true → IsSeen t part (join d z)
    either_seen z named h = by_test (is_library_name z)
        (λ e. soname_seen t part is d dir all z named e)
        (λ e. test_seen z named (sym (ap (λ b. b || test z) e) ∙ h))

  module _ (t part : Nodes) (whole : IsWhole t) (is : IsPart t part) (tree : IsTree part) (what : Analyses) (names : HaveNames what) (has : HasSonames test what) where
    sonames_there : (place : Place) → kind_at t place.real ≡ kinds.Dir → AreSeen t part (names_looked t place) → AreSeen t part (listed test t place.real)
        → (winners : List Library) → list_all is_covered winners ≡ true → AreSeen t part (flat_map (soname_looked place) winners)
    sonames_there place dir all asked [] h = tt
    sonames_there place dir all asked (w ∷ winners) h =
        let parts = and_parts (is_covered w) (list_all is_covered winners) h in
        let rest = sonames_there place dir all asked winners parts.1 in
        by_test (is_own w)
        (λ e. subst (λ b. AreSeen t part (cond b [] (join place.real w.soname ∷ []) ++ flat_map (soname_looked place) winners)) (sym e) rest)
        (λ e.
        let both = and_parts (is_name w.soname) (is_asked w) (sym (ap (λ b. b || (is_name w.soname && is_asked w)) e) ∙ parts.0) in
        subst (λ b. AreSeen t part (cond b [] (join place.real w.soname ∷ []) ++ flat_map (soname_looked place) winners)) (sym e)
        (either_seen t part is place.real dir all asked w.soname both.0 both.1, rest))

    place_covered : (place : Place) → kind_at t place.real ≡ kinds.Dir → AreSeen t part (names_looked t place) → AreSeen t part (links_looked t place.real)
        → AreSeen t part (asked_looked test t place) → AreSeen t part (sonames_looked what t place)
    place_covered place dir all links asked = by_test (has_no_cap place)
        (λ e.
        let here : AreSeen t part (listed test t place.real) = subst (λ b. AreSeen t part (cond b (listed test t place.real) [])) e asked in
        subst (λ b. AreSeen t part (cond b (flat_map (soname_looked place) (winners_in what t place)) [])) (sym e)
        (sonames_there place dir all here (winners_in what t place)
        (ap (list_all is_covered) (sym (winners_seen t part whole is what place all links)) ∙ winners_covered what names has part tree place)))
        (λ e. subst (λ b. AreSeen t part (cond b (flat_map (soname_looked place) (winners_in what t place)) [])) (sym e) tt)

    each_covered : (places : List Place) → are_dirs t places ≡ true → AreSeen t part (flat_map (names_looked t) places) → AreSeen t part (flat_map (λ place. links_looked t place.real) places)
        → AreSeen t part (flat_map (asked_looked test t) places) → AreSeen t part (flat_map (sonames_looked what t) places)
    each_covered [] dirs all links asked = tt
    each_covered (place ∷ places) dirs all links asked =
        let here = and_parts (is_dir (kind_at t place.real)) (are_dirs t places) dirs in
        let a = seen_parts t part (names_looked t place) (flat_map (names_looked t) places) all in
        let b = seen_parts t part (links_looked t place.real) (flat_map (λ place. links_looked t place.real) places) links in
        let c = seen_parts t part (asked_looked test t place) (flat_map (asked_looked test t) places) asked in
        all_both (IsSeen t part) (sonames_looked what t place) (flat_map (sonames_looked what t) places)
        (place_covered place (is_dir_kind (kind_at t place.real) here.0) a.0 b.0 c.0) (each_covered places here.1 a.1 b.1 c.1)

    -- the sonames of the winners were seen
    pub entries_covered : (places : List Place) → are_dirs t places ≡ true → AreSeen t part (wanted_looked t places) → AreSeen t part (followed_looked t places)
        → AreSeen t part (flat_map (asked_looked test t) places) → AreSeen t part (entries_looked what t places)
    unfolding wanted_looked followed_looked entries_looked
    entries_covered places dirs all links asked = each_covered places dirs all links asked
