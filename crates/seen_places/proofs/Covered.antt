-- What is looked up of the links with library names before links are planned is enough for the tree with the planned links.
use Rattle.std.proofs.Common.{◌≡◌, ◌+◌, ℕ, suc, Bool, true, false, cond, ◌&&◌, ◌||◌, nat_lt, List, [], ◌∷◌, ◌++◌, append_assoc, append-nil, codes, filter, flat_map, length, refl, ap, sym, subst, ◌∙◌, Option, Some, None, Ok, Err}
use Rattle.std.proofs.lemmas.Bool.{and_from, and_parts, false≢true, or_parts}
use Rattle.std.proofs.lemmas.List.Elements.{filter_passes}
use Rattle.std.proofs.lemmas.List.Sums.{list_all-from_AllPass}
use Rattle.std.proofs.lemmas.Slice.Eq.{bytes_eq-Decides}
use Rattle.std.specs.List.{AllByRecursion, cons_option, filter_map, list_all}
use Rattle.std.specs.Option.{option_and_then}
use Rattle.std.specs.Str.{bytes_eq}
use Rattle.file_table.specs.Analyses.{Analyses, HaveNames}
use Rattle.hwcap_dirs.proofs.Children.{children_named}
use Rattle.hwcap_dirs.proofs.Reals.{all_given, all_left}
use Rattle.hwcap_dirs.specs.Places.{are_dirs, is_dir}
use Rattle.hwcap_dirs.specs.declared.kinds.Place.{Place}
use Rattle.image_tree.proofs.Above.{found_entry}
use Rattle.image_tree.specs.Paths.{components, is_path, join, root, stem}
use Rattle.image_tree.specs.Tree.{IsTree, Nodes, children_of, kind_at, node_at}
use Rattle.image_tree.specs.declared.node.Node.{Node}
use Rattle.image_tree.specs.declared.node.Node.TheVariants as node
use Rattle.image_tree.specs.declared.path.TheConstants.{PATH_MAX}
use Rattle.image_tree.specs.declared.tree.Kind.{Kind}
use Rattle.image_tree.specs.declared.tree.Kind.TheVariants as kinds
use Rattle.lib_types.proofs.SortedPairs.{by_test}
use Rattle.lib_types.specs.Name.{is_name}
use Rattle.lib_types.specs.declared.analysis.Analysis.{Analysis}
use Rattle.lib_types.specs.declared.analysis.Analysis.TheVariants.{Lib, Not}
use Rattle.library_files.specs.Places.{by_place, has_no_cap}
use Rattle.link_plan.specs.declared.kinds.Planned.{Planned}
use Rattle.name_order.specs.LibraryName.{is_library_name}
use Rattle.path_walk.proofs.Joining.{names_joined}
use Rattle.path_walk.proofs.KindsAt.{absent_else}
use Rattle.path_walk.proofs.Linked.{name_is_component, no_dots, to_dir}
use Rattle.path_walk.specs.Files.{is_file}
use Rattle.path_walk.specs.Names.{parent}
use Rattle.path_walk.specs.Walk.{Stop, Ends, Follows, at_child, at_file, at_link, steps, target_at}
use Rattle.path_walk.specs.declared.walk.Mode.TheVariants.{Full}
use Rattle.path_walk.specs.declared.walk.WalkFault.TheVariants.{Absent}
use Rattle.place_libraries.proofs.Named.{best_meets, best_named}
use Rattle.place_libraries.specs.Best.{best, sonames}
use Rattle.place_libraries.specs.Libraries.{libraries_in, library_at, library_by, library_in}
use Rattle.place_libraries.specs.Library.{Library}
use Rattle.root_folder.specs.Whole.{IsWhole}
use Rattle.seen_tree.proofs.Same.{kind_seen, seen_parts, steps_seen}
use Rattle.seen_tree.specs.Part.{AreSeen, IsPart, IsSeen, below, listed, looked_by, passed, walked}
use Rattle.soname_links.proofs.KindsAt.{is_open, open_free}
use Rattle.soname_links.proofs.Links.{IsLinkFor, each_link, link_is}
use Rattle.soname_links.proofs.Named.{is_dir_kind}
use Rattle.soname_links.specs.Plan.{is_taken, link_for, links, links_in, with_links}
use Rattle.string_pool.proofs.Members.{is_in, kept_in}
use Rattle.seen_places.proofs.Each.{all_both}
use Rattle.seen_places.proofs.Planned.{not_put, whole_planned}
use Rattle.seen_places.proofs.Sonames.{child_of_node, soname_seen}
use Rattle.seen_places.proofs.Through.{IsNear, planned_at, same_kind, unput_both, walk_goes}
use Rattle.seen_places.specs.Looked.{followed_looked, link_at_looked, link_looked, links_looked, names_looked, wanted_looked}
use Rattle.seen_places.specs.Planned.{is_put, planned_looked, unput}
use Rattle.path_walk.proofs.Alone.{components_alone, of_folder}

-- ---- the file of a planned link

file_kind : (k : Kind) → is_file k ≡ true → k ≡ kinds.File
file_kind kinds.File h = refl
file_kind kinds.Absent h = absurd (cc)
file_kind kinds.Link h = absurd (cc)
file_kind kinds.Dir h = absurd (cc)

-- a library of a directory is a file with a library name
module _ (what : Analyses) (t : Nodes) (d : List ℕ) where
  abbrev is_here : Library → Bool
  is_here library = is_library_name library.name && is_file (kind_at t (join d library.name))

  by_name : (name own : List ℕ) (analysis : Analysis) (library : Library) → library_by name own analysis ≡ Some library → library.name ≡ name
  by_name name own (Not defect) library e = absurd (cc)
  by_name name own (Lib abi soname) library e = cc

  at_name : (name own : List ℕ) (o : Option Analysis) (library : Library) → option_and_then (library_by name own) o ≡ Some library → library.name ≡ name
  at_name name own None library e = absurd (cc)
  at_name name own (Some analysis) library e = by_name name own analysis library e

  in_here : (name : List ℕ) (library : Library) → is_name name ≡ true → library_in what t d name ≡ Some library → is_here library ≡ true
  in_here name library named e = by_test (is_library_name name && is_file (kind_at t (join d name)))
      (λ h.
      let found : library_at what (join d name) name name ≡ Some library =
      sym (ap (λ b. option_and_then (λ path. library_at what path name name) (cond b (Some (join d name)) None)) h) ∙ e in
      let same : library.name ≡ name = at_name name name (what (join d name)) library found in
      ap (λ n. is_library_name n && is_file (kind_at t (join d n))) same ∙ h)
      (λ h. let none : None ≡ Some library = sym (ap (λ b. option_and_then (λ path. library_at what path name name) (cond b (Some (join d name)) None)) h) ∙ e in absurd (cc))

-- a path that is taken has no planned link
no_put : (plan : List Planned) (t : Nodes) (q : List ℕ) → AllByRecursion (λ planned. is_taken (kind_at t planned.path) ≡ false) plan → is_taken (kind_at t q) ≡ true → is_put plan q ≡ false
no_put [] t q all h = refl
no_put (planned ∷ plan) t q all h = by_test (bytes_eq q planned.path)
    (λ e. absurd (false≢true (sym (ap (λ p. is_taken (kind_at t p)) ((bytes_eq-Decides q planned.path).0 e) ∙ all.0) ∙ h)))
    (λ e. ap (λ b. b || is_put plan q) e ∙ no_put plan t q all.1 h)

-- ---- a walk with a name more

module _ (t part : Nodes) (name : List ℕ) (dots : bytes_eq name (codes "..") ≡ false) where
  one_passed : (place : List ℕ) → IsSeen t part (join place name) → AreSeen t part (passed t (name ∷ []) place)
  one_passed place seen = rw dots (seen, none (kind_at t (join place name)))
    where
      none : (k : Kind) → AreSeen t part (below k [])
      none kinds.Dir = tt
      none kinds.Absent = tt
      none kinds.File = tt
      none kinds.Link = tt

  -- if the path of the name is seen in the directory in which the walk ends
  passed_more : (names : List (List ℕ)) (place : List ℕ) → AreSeen t part (passed t names place)
      → ((end : List ℕ) → steps t Full names place ≡ Ends (Ok end) → IsSeen t part (join end name)) → AreSeen t part (passed t (names ++ name ∷ []) place)
  passed_more [] place all ends = one_passed place (ends place refl)
  passed_more (first ∷ rest) place all ends =
      let path = join place first in
      let up = passed t rest (parent place) in
      let down = path ∷ below (kind_at t path) (passed t rest path) in
      let child : Kind → Stop = λ k. at_child k (at_link Full first (target_at t path) rest place) (at_file rest path) (steps t Full rest path) in
      by_test (bytes_eq first (codes ".."))
      (λ e.
      rw e (passed_more rest (parent place) (subst (AreSeen t part) (ap (λ b. cond b up down) e) all)
      (λ end stop. ends end (ap (λ b. cond b (steps t Full rest (parent place)) (child (kind_at t path))) e ∙ stop))))
      (λ e.
      let seen : AreSeen t part down = subst (AreSeen t part) (ap (λ b. cond b up down) e) all in
      rw e (
        seen.0,
        more_below first rest place (kind_at t path) seen.1
            (λ end stop. ends end (ap (λ b. cond b (steps t Full rest (parent place)) (child (kind_at t path))) e ∙ stop)) (passed_more rest path),
      ))
    where
      more_below : (first : List ℕ) (rest : List (List ℕ)) (place : List ℕ) (k : Kind) → AreSeen t part (below k (passed t rest (join place first)))
          → ((end : List ℕ) → at_child k (at_link Full first (target_at t (join place first)) rest place) (at_file rest (join place first)) (steps t Full rest (join place first)) ≡ Ends (Ok end)
          → IsSeen t part (join end name))
          → (AreSeen t part (passed t rest (join place first)) → ((end : List ℕ) → steps t Full rest (join place first) ≡ Ends (Ok end) → IsSeen t part (join end name))
          → AreSeen t part (passed t (rest ++ name ∷ []) (join place first)))
          → AreSeen t part (below k (passed t (rest ++ name ∷ []) (join place first)))
      more_below first rest place kinds.Dir all ends next = next all ends
      more_below first rest place kinds.Absent all ends next = tt
      more_below first rest place kinds.File all ends next = tt
      more_below first rest place kinds.Link all ends next = tt

-- ---- one search directory

of_flat : (t part : Nodes) (d z : List ℕ) (names : List (List ℕ)) → AreSeen t part (flat_map (link_at_looked t d) names) → is_in names z ≡ true → AreSeen t part (link_at_looked t d z)
of_flat t part d z [] all h = absurd (cc)
of_flat t part d z (name ∷ names) all h =
    let parts = seen_parts t part (link_at_looked t d name) (flat_map (link_at_looked t d) names) all in
    by_test (bytes_eq z name)
    (λ e. subst (λ n. AreSeen t part (link_at_looked t d n)) (sym ((bytes_eq-Decides z name).0 e)) parts.0)
    (λ e. of_flat t part d z names parts.1 (sym (ap (λ b. b || is_in names z) e) ∙ h))

-- a search directory, of which the names were seen, the way to it and the links in it
module _ (t part : Nodes) (whole : IsWhole t) (is : IsPart t part) (tree : IsTree part) (d : List ℕ) (dir : kind_at t d ≡ kinds.Dir)
    (names : AreSeen t part (listed is_library_name t d)) (way : AreSeen t part (looked_by t d Full)) where
  dir_part : kind_at part d ≡ kinds.Dir
  dir_part = kind_seen t part whole is d names.0 ∙ dir

  way_passed : AreSeen t part (passed t (components (stem d)) root)
  unfolding looked_by
  way_passed =
      subst (λ l. AreSeen t part (passed t l root)) (sym (of_folder d)) (seen_parts t part (passed t (components d) root) (walked t Full 40 (steps t Full (components d) root)) way).0

  way_ends : steps t Full (components (stem d)) root ≡ Ends (Ok d)
  way_ends =
      sym (steps_seen t part whole is Full (components (stem d)) root way_passed).0
      ∙ ap (λ l. steps part Full l root) (sym (append-nil (components (stem d)))) ∙ to_dir part Full tree [] d dir_part

  module _ (z : List ℕ) (named : is_name z ≡ true) (library : is_library_name z ≡ true) where
    abbrev path : List ℕ
    path = join d z

    name_seen : IsSeen t part (join d z)
    name_seen = soname_seen t part is d dir names z named library

    path_names : components (join d z) ≡ components (stem d) ++ z ∷ []
    path_names = ap components (append_assoc (stem d) root z) ∙ names_joined (stem d) z ∙ ap (λ l. components (stem d) ++ l) (name_is_component z named)

    passed_here : AreSeen t part (passed t (components (stem d) ++ z ∷ []) root)
    passed_here = passed_more t part z (no_dots z named).1 (components (stem d)) root way_passed
        (λ end stop.
        let same : Ends (Ok d) ≡ Ends (Ok end) = sym way_ends ∙ stop in
        let one : d ≡ end = cc in subst (λ p. IsSeen t part (join p z)) one name_seen)

    ends_absent : kind_at t (join d z) ≡ kinds.Absent → steps t Full (components (stem d) ++ z ∷ []) root ≡ Ends (Err Absent)
    ends_absent k =
        sym (steps_seen t part whole is Full (components (stem d) ++ z ∷ []) root passed_here).0
        ∙ to_dir part Full tree (z ∷ []) d dir_part
        ∙ (steps_seen t part whole is Full (z ∷ []) d (one_passed t part z (no_dots z named).1 d name_seen)).0
        ∙ ap (λ b. cond b (steps t Full [] (parent d)) (at_child (kind_at t path) (at_link Full z (target_at t path) [] d) (at_file [] path) (steps t Full [] path))) (no_dots z named).1
        ∙ ap (λ k. at_child k (at_link Full z (target_at t path) [] d) (at_file [] path) (steps t Full [] path)) k

    looked_absent : kind_at t (join d z) ≡ kinds.Absent → AreSeen t part (looked_by t (join d z) Full)
    unfolding looked_by
    looked_absent k =
        subst (λ l. AreSeen t part (walked t Full (suc 40) (Follows l root))) (sym path_names)
        (all_both (IsSeen t part) (passed t (components (stem d) ++ z ∷ []) root) (walked t Full 40 (steps t Full (components (stem d) ++ z ∷ []) root)) passed_here
        (subst (λ s. AreSeen t part (walked t Full 40 s)) (sym (ends_absent k)) tt))

    module _ (links : AreSeen t part (links_looked t d)) where
      looked_link : (target : List ℕ) → node_at t (join d z) ≡ Some (node.Link target) → AreSeen t part (looked_by t (join d z) Full)
      looked_link target e =
          let among : is_in (filter is_library_name (children_of t d)) z ≡ true =
          kept_in is_library_name z (children_of t d) ∙ and_from _ _ library (child_of_node t d dir z named (node.Link target) e) in
          subst (λ o. AreSeen t part (link_looked t path o)) e (of_flat t part d z (filter is_library_name (children_of t d)) links among)

      -- at a path where a link is planned
      looked_open : (o : Option Node) → node_at t (join d z) ≡ o → is_open o ≡ true → is_taken (kind_at t (join d z)) ≡ false → AreSeen t part (looked_by t (join d z) Full)
      looked_open None e h free = looked_absent (absent_else t path e (λ k. false≢true (sym free ∙ ap is_taken k)))
      looked_open (Some (node.Link target)) e h free = looked_link target e
      looked_open (Some node.Dir) e h free = absurd (cc)
      looked_open (Some (node.File key id)) e h free = absurd (cc)

  -- ---- in the tree with the planned links

  module _ (plan : List Planned) (later : IsWhole (with_links t plan)) (near : AllByRecursion (IsNear plan t part) plan)
      (free : AllByRecursion (λ planned. is_taken (kind_at t planned.path) ≡ false) plan) (links : AreSeen t part (links_looked t d)) where
    abbrev after : Nodes
    after = with_links t plan

    goes_after : (path : List ℕ) → AreSeen t part (looked_by t path Full) → AreSeen t part (unput plan (looked_by (with_links t plan) path Full))
    unfolding looked_by
    goes_after path all = walk_goes t part plan whole later near (suc 40) (Follows (components path) root) (components_alone path) all

    one_after : (z : List ℕ) → is_name z ≡ true → is_library_name z ≡ true → (o : Option Node) → node_at (with_links t plan) (join d z) ≡ o
        → AreSeen t part (unput plan (link_looked (with_links t plan) (join d z) o))
    one_after z named library None e = tt
    one_after z named library (Some node.Dir) e = tt
    one_after z named library (Some (node.File key id)) e = tt
    one_after z named library (Some (node.Link target)) e =
        let path = join d z in
        let proper : is_path path ≡ true = (and_parts _ _ (found_entry after path (node.Link target) later.entries e)).0 in
        goes_after path (by_test (is_put plan path)
        (λ p.
        let one = planned_at (λ planned. is_taken (kind_at t planned.path) ≡ false) plan t path free p in
        let untaken : is_taken (kind_at t path) ≡ false = sym (ap (λ q. is_taken (kind_at t q)) one.path) ∙ one.holds in
        looked_open z named library links (node_at t path) refl (open_free t path proper untaken) untaken)
        (λ p. looked_link z named library links target (sym (not_put plan t path p) ∙ e)))

    each_after : (xs : List (List ℕ)) → list_all is_name xs ≡ true → list_all is_library_name xs ≡ true → AreSeen t part (unput plan (flat_map (link_at_looked (with_links t plan) d) xs))
    each_after [] named library = tt
    each_after (z ∷ xs) named library =
        let n = and_parts (is_name z) (list_all is_name xs) named in
        let l = and_parts (is_library_name z) (list_all is_library_name xs) library in
        unput_both t part plan whole later near (link_at_looked after d z) (flat_map (link_at_looked after d) xs)
        (one_after z n.0 l.0 (node_at after (join d z)) refl) (each_after xs n.1 l.1)

    dir_after : AreSeen t part (unput plan (links_looked (with_links t plan) d))
    dir_after =
        let children = children_of after d in
        let xs = filter is_library_name children in
        each_after xs (all_left is_name is_library_name children (children_named after d later.entries)) (list_all-from_AllPass is_library_name xs (filter_passes is_library_name children))

-- ---- all search directories

module _ (t part : Nodes) (whole : IsWhole t) (is : IsPart t part) (tree : IsTree part) (what : Analyses) (named : HaveNames what) (places : List Place)
    (dirs : are_dirs t places ≡ true) (seen : AreSeen t part (wanted_looked t places)) where
  abbrev plan : List Planned
  plan = links what t places

  later : IsWhole (with_links t (links what t places))
  later = whole_planned t whole what named places dirs

  free : AllByRecursion (λ planned. is_taken (kind_at t planned.path) ≡ false) (links what t places)
  free = each_link what t (λ planned. is_taken (kind_at t planned.path) ≡ false)
      (λ number place soname library planned here e link.
      sym (ap (λ p. is_taken (kind_at t p)) link.path)
      ∙ (or_parts (nat_lt PATH_MAX (length (join place.real library.soname))) (is_taken (kind_at t (join place.real library.soname))) link.free).1)
      places dirs

  near_one : (place : Place) (soname : List ℕ) (library : Library) (planned : Planned) → is_dir (kind_at t place.real) ≡ true → AreSeen t part (names_looked t place)
      → best (libraries_in what t place) soname ≡ Some library → IsLinkFor t place library planned → IsNear (links what t places) t part planned
  near_one place soname library planned here all e link =
      let d = place.real in
      let names = and_parts (is_name library.name) (is_name library.soname) (best_named what t whole.entries named place soname library e) in
      let listed_all : list_all (is_here what t d) (libraries_in what t place) ≡ true =
      all_given (is_here what t d) is_name (library_in what t d) (λ name found n f. in_here what t d name found n f) (children_of t d) (children_named t d whole.entries) in
      let file = and_parts (is_library_name library.name) (is_file (kind_at t (join d library.name))) (best_meets (is_here what t d) (libraries_in what t place) soname library listed_all e) in
      let kind : kind_at t (join d library.name) ≡ kinds.File = file_kind (kind_at t (join d library.name)) file.1 in
      let stays : is_put plan (join d library.name) ≡ false = no_put plan t (join d library.name) free (ap is_taken kind) in
      let seen_file : IsSeen t part (join d library.name) = soname_seen t part is d (is_dir_kind (kind_at t d) here) all library.name names.0 file.0 in
      record {
        dir = d;
        soname = library.soname;
        named = names.1;
        path = sym link.path;
        file_named = subst (λ f. is_name f ≡ true) link.file names.0;
        file = subst (λ f. kind_at (with_links t plan) (join d f) ≡ kinds.File) link.file (same_kind t plan whole later (join d library.name) stays ∙ kind);
        seen = subst (λ f. IsSeen t part (join d f)) link.file seen_file;
      }

  near_names : (number : ℕ) (place : Place) → is_dir (kind_at t place.real) ≡ true → AreSeen t part (names_looked t place) → (xs : List (List ℕ))
      → AllByRecursion (IsNear (links what t places) t part) (filter_map (link_for t number place) (filter_map (best (libraries_in what t place)) xs))
  near_names number place here all [] = tt
  near_names number place here all (soname ∷ xs) = elim (best (libraries_in what t place) soname) as (λ o. best (libraries_in what t place) soname ≡ o
      → AllByRecursion (IsNear (links what t places) t part) (filter_map (link_for t number place) (cons_option o (filter_map (best (libraries_in what t place)) xs)))) [
        | None ↦ λ e. near_names number place here all xs
        | Some library ↦ λ e. elim (link_for t number place library) as (λ o. link_for t number place library ≡ o
            → AllByRecursion (IsNear (links what t places) t part) (cons_option o (filter_map (link_for t number place) (filter_map (best (libraries_in what t place)) xs)))) [
              | None ↦ λ f. near_names number place here all xs
              | Some planned ↦ λ f. (near_one place soname library planned here all e (link_is t number place library planned f), near_names number place here all xs)
            ] refl
      ] refl

  near_place : (number : ℕ) (place : Place) → is_dir (kind_at t place.real) ≡ true → AreSeen t part (names_looked t place)
      → AllByRecursion (IsNear (links what t places) t part) (links_in what t number place)
  near_place number place here all = by_test (has_no_cap place)
      (λ e. rw e (near_names number place here all (sonames (libraries_in what t place))))
      (λ e. rw e tt)

  near_places : (number : ℕ) (rest : List Place) → are_dirs t rest ≡ true → AreSeen t part (flat_map (names_looked t) rest)
      → AllByRecursion (IsNear (links what t places) t part) (by_place (links_in what t) number rest)
  near_places number [] h all = tt
  near_places number (place ∷ rest) h all =
      let here = and_parts (is_dir (kind_at t place.real)) (are_dirs t rest) h in
      let parts = seen_parts t part (names_looked t place) (flat_map (names_looked t) rest) all in
      all_both (IsNear plan t part) (links_in what t number place) (by_place (links_in what t) (number + 1) rest)
      (near_place number place here.0 parts.0) (near_places (number + 1) rest here.1 parts.1)

  near : AllByRecursion (IsNear (links what t places) t part) (links what t places)
  unfolding links wanted_looked
  near = near_places 0 places dirs seen

  planned_each : (rest : List Place) → are_dirs t rest ≡ true → AreSeen t part (flat_map (names_looked t) rest) → AreSeen t part (flat_map (λ place. looked_by t place.real Full) rest)
      → AreSeen t part (flat_map (λ place. links_looked t place.real) rest)
      → AreSeen t part (unput (links what t places) (flat_map (λ place. links_looked (with_links t (links what t places)) place.real) rest))
  planned_each [] h all ways followed = tt
  planned_each (place ∷ rest) h all ways followed =
      let d = place.real in
      let here = and_parts (is_dir (kind_at t d)) (are_dirs t rest) h in
      let a = seen_parts t part (names_looked t place) (flat_map (names_looked t) rest) all in
      let b = seen_parts t part (looked_by t d Full) (flat_map (λ place. looked_by t place.real Full) rest) ways in
      let c = seen_parts t part (links_looked t d) (flat_map (λ place. links_looked t place.real) rest) followed in
      unput_both t part plan whole later near (links_looked (with_links t plan) d) (flat_map (λ place. links_looked (with_links t plan) place.real) rest)
      (dir_after t part whole is tree d (is_dir_kind (kind_at t d) here.0) a.0 b.0 plan later near free c.0) (planned_each rest here.1 a.1 b.1 c.1)

  -- nothing more is looked up for the tree with the planned links
  pub planned_covered : AreSeen t part (flat_map (λ place. looked_by t place.real Full) places) → AreSeen t part (followed_looked t places)
      → AreSeen t part (planned_looked t (links what t places) places)
  unfolding planned_looked followed_looked wanted_looked
  planned_covered ways followed = planned_each places dirs seen ways followed
