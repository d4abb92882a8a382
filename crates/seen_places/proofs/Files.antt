-- If the library names of the search directories were seen, the part has the same files as the tree, and its links lead to the same files.
use Rattle.std.proofs.Common.{◌≡◌, ℕ, false, cond, ◌&&◌, List, [], ◌∷◌, filter, flat_map, map, refl, ap, sym, subst, ◌∙◌, Option, Some, None, Result, Ok, Err}
use Rattle.std.specs.List.{AllByRecursion, cons_option, filter_map}
use Rattle.hwcap_dirs.specs.declared.kinds.Place.{Place}
use Rattle.image_tree.specs.Paths.{join}
use Rattle.image_tree.specs.Tree.{Nodes, children_of, kind_at, node_at}
use Rattle.image_tree.specs.declared.node.Node.{Node}
use Rattle.image_tree.specs.declared.node.Node.TheVariants as node
use Rattle.lib_types.proofs.SortedPairs.{by_test}
use Rattle.library_files.specs.Link.{FollowedLink}
use Rattle.library_files.specs.Search.{dangling, dangling_in, file_in, files_after, files_in, files_of, folder_links, followed, followed_by, followed_in, link_with, reached, unless_file, wanted}
use Rattle.name_order.specs.LibraryName.{is_library_name}
use Rattle.path_walk.specs.Files.{file_at, file_by, is_file}
use Rattle.path_walk.specs.Walk.{resolution}
use Rattle.path_walk.specs.declared.walk.Mode.TheVariants.{Full}
use Rattle.path_walk.specs.declared.walk.WalkFault.{WalkFault}
use Rattle.root_folder.specs.Whole.{IsWhole}
use Rattle.string_pool.proofs.Members.{left_out}
use Rattle.string_pool.specs.Order.{ascending}
use Rattle.seen_tree.proofs.Same.{end_seen, kind_seen, seen_parts}
use Rattle.seen_tree.specs.Part.{AreSeen, IsPart, IsSeen, listed, looked_by}
use Rattle.seen_places.proofs.Each.{all_ascending, all_both, children_seen, each_seen, flat_same, names_same}
use Rattle.seen_places.proofs.Places.{file_seen}
use Rattle.seen_places.specs.Looked.{link_looked, link_at_looked, followed_looked, links_looked, names_looked, wanted_looked}

-- ---- names that aren't library names

pub no_file : (t : Nodes) (folder name : List ℕ) → is_library_name name ≡ false → file_in t folder name ≡ None
no_file t folder name e = ap (λ b. cond (b && is_file (kind_at t (join folder name))) (Some (join folder name)) None) e

no_link : (t : Nodes) (folder name : List ℕ) (o : Option Node) → is_library_name name ≡ false → link_with t folder name o ≡ None
no_link t folder name (Some (node.Link target)) e = ap (λ b. cond b (Some (record { name = name; target = target; file = file_at t (join folder name) })) None) e
no_link t folder name (Some (node.File key id)) e = refl
no_link t folder name (Some node.Dir) e = refl
no_link t folder name None e = refl

not_followed : (t : Nodes) (folder name : List ℕ) → is_library_name name ≡ false → followed_by t folder name ≡ None
not_followed t folder name e = no_link t folder name (node_at t (join folder name)) e

module _ (t part : Nodes) (whole : IsWhole t) (is : IsPart t part) where
  abbrev IsHere : List ℕ → Type 0
  IsHere q = IsSeen t part q

  -- ---- the files with library names

  pub file_in_seen : (folder name : List ℕ) → IsSeen t part (join folder name) → file_in part folder name ≡ file_in t folder name
  file_in_seen folder name seen = ap (λ k. cond (is_library_name name && is_file k) (Some (join folder name)) None) (kind_seen t part whole is (join folder name) seen)

  files_seen : (place : Place) → AreSeen t part (names_looked t place) → files_in part place ≡ files_in t place
  files_seen place all =
      let folder = place.real in
      children_seen t part whole is is_library_name folder (file_in part folder) (file_in t folder) (no_file part folder) (no_file t folder) all
      (names_same t part (file_in part folder) (file_in t folder) folder (file_in_seen folder) (filter is_library_name (children_of t folder)) all.1)

  pub wanted_seen : (places : List Place) → AreSeen t part (wanted_looked t places) → wanted part places ≡ wanted t places
  unfolding wanted wanted_looked
  wanted_seen places all =
      ap ascending (flat_same (files_in part) (files_in t) places
      (each_seen t part (names_looked t) (λ place. files_in part place ≡ files_in t place) files_seen places all))

  -- ---- their nodes

  files_here : (folder : List ℕ) (names : List (List ℕ)) → AreSeen t part (map (join folder) names) → AreSeen t part (filter_map (file_in t folder) names)
  files_here folder [] all = tt
  files_here folder (name ∷ names) all =
      let path = join folder name in
      let more = filter_map (file_in t folder) names in
      let rest = files_here folder names all.1 in
      by_test (is_library_name name && is_file (kind_at t path))
      (λ e. subst (λ b. AreSeen t part (cons_option (cond b (Some path) None) more)) (sym e) (all.0, rest))
      (λ e. subst (λ b. AreSeen t part (cons_option (cond b (Some path) None) more)) (sym e) rest)

  place_here : (place : Place) → AreSeen t part (names_looked t place) → AreSeen t part (files_in t place)
  place_here place all =
      let folder = place.real in
      let names = children_of t folder in
      subst (AreSeen t part) (left_out is_library_name (file_in t folder) (no_file t folder) names) (files_here folder (filter is_library_name names) all.1)

  all_here : (places : List Place) → AreSeen t part (flat_map (names_looked t) places) → AreSeen t part (flat_map (files_in t) places)
  all_here [] all = tt
  all_here (place ∷ places) all =
      let parts = seen_parts t part (names_looked t place) (flat_map (names_looked t) places) all in
      all_both IsHere (files_in t place) (flat_map (files_in t) places) (place_here place parts.0) (all_here places parts.1)

  -- the nodes of the files with library names are those of the tree
  pub wanted_nodes : (places : List Place) → AreSeen t part (wanted_looked t places) → AreSeen t part (wanted t places)
  unfolding wanted wanted_looked
  wanted_nodes places all = all_ascending IsHere (flat_map (files_in t) places) (all_here places all)

  -- ---- the links with library names

  link_seen : (folder name : List ℕ) (o : Option Node) → AreSeen t part (link_looked t (join folder name) o) → link_with part folder name o ≡ link_with t folder name o
  link_seen folder name (Some (node.Link target)) all =
      ap (λ file. cond (is_library_name name) (Some (record { name = name; target = target; file = file })) None) (file_seen t part whole is (join folder name) all)
  link_seen folder name (Some (node.File key id)) all = refl
  link_seen folder name (Some node.Dir) all = refl
  link_seen folder name None all = refl

  followed_by_seen : (folder name : List ℕ) → IsSeen t part (join folder name) → AreSeen t part (link_at_looked t folder name) → followed_by part folder name ≡ followed_by t folder name
  followed_by_seen folder name seen all = ap (link_with part folder name) seen ∙ link_seen folder name (node_at t (join folder name)) all

  links_seen : (folder : List ℕ) (names : List (List ℕ)) → AreSeen t part (map (join folder) names) → AreSeen t part (flat_map (link_at_looked t folder) names)
      → filter_map (followed_by part folder) names ≡ filter_map (followed_by t folder) names
  links_seen folder [] seen all = refl
  links_seen folder (name ∷ names) seen all =
      let parts = seen_parts t part (link_at_looked t folder name) (flat_map (link_at_looked t folder) names) all in
      ap (λ o. cons_option o (filter_map (followed_by part folder) names)) (followed_by_seen folder name seen.0 parts.0)
      ∙ ap (cons_option (followed_by t folder name)) (links_seen folder names seen.1 parts.1)

  pub followed_in_seen : (folder : List ℕ) → AreSeen t part (listed is_library_name t folder) → AreSeen t part (links_looked t folder) → followed_in part folder ≡ followed_in t folder
  followed_in_seen folder seen all =
      children_seen t part whole is is_library_name folder (followed_by part folder) (followed_by t folder) (not_followed part folder) (not_followed t folder) seen
      (links_seen folder (filter is_library_name (children_of t folder)) seen.1 all)

  abbrev HasSame : List ℕ → Type 0
  HasSame folder = followed_in part folder ≡ followed_in t folder

  -- each search directory has the same links
  each_folder : (places : List Place) → AreSeen t part (flat_map (names_looked t) places) → AreSeen t part (flat_map (λ place. links_looked t place.real) places)
      → AllByRecursion HasSame (map (λ place. place.real) places)
  each_folder [] seen all = tt
  each_folder (place ∷ places) seen all =
      let here = seen_parts t part (names_looked t place) (flat_map (names_looked t) places) seen in
      let parts = seen_parts t part (links_looked t place.real) (flat_map (λ place. links_looked t place.real) places) all in
      (followed_in_seen place.real here.0 parts.0, each_folder places here.1 parts.1)

  links_same : (places : List Place) → AllByRecursion HasSame (map (λ place. place.real) places) → map (folder_links part) places ≡ map (folder_links t) places
  links_same [] all = refl
  links_same (place ∷ places) all =
      ap (λ links. record { folder = place.real; links = links } ∷ map (folder_links part) places) all.0
      ∙ ap (λ more. folder_links t place ∷ more) (links_same places all.1)

  pub followed_seen : (places : List Place) → AreSeen t part (wanted_looked t places) → AreSeen t part (followed_looked t places) → followed part places ≡ followed t places
  unfolding followed wanted_looked followed_looked
  followed_seen places seen all = links_same places (each_folder places seen all)

  pub reached_seen : (places : List Place) → AreSeen t part (wanted_looked t places) → AreSeen t part (followed_looked t places) → reached part places ≡ reached t places
  unfolding reached
  reached_seen places seen all = ap files_after (followed_seen places seen all)

  pub dangling_seen : (places : List Place) → AreSeen t part (wanted_looked t places) → AreSeen t part (followed_looked t places) → dangling part places ≡ dangling t places
  unfolding dangling wanted_looked followed_looked
  dangling_seen places seen all =
      let folders = map (λ place. place.real) places in
      flat_same (dangling_in part) (dangling_in t) (ascending folders)
      (all_ascending (λ folder. dangling_in part folder ≡ dangling_in t folder) folders (dangling_each folders (each_folder places seen all)))
    where
      dangling_each : (folders : List (List ℕ)) → AllByRecursion HasSame folders → AllByRecursion (λ folder. dangling_in part folder ≡ dangling_in t folder) folders
      dangling_each [] all = tt
      dangling_each (folder ∷ folders) all = (ap (filter_map (unless_file folder)) all.0, dangling_each folders all.1)

  -- ---- the nodes of the files that the links resolve to

  file_here : (path : List ℕ) (r : Result (List ℕ) WalkFault) (more : List (List ℕ)) → AreSeen t part (looked_by t path Full) → resolution t path Full ≡ r → AreSeen t part more
      → AreSeen t part (cons_option (file_by t r) more)
  file_here path (Err fault) more all e rest = rest
  file_here path (Ok place) more all e rest = by_test (is_file (kind_at t place))
      (λ f. subst (λ b. AreSeen t part (cons_option (cond b (Some place) None) more)) (sym f) (end_seen t part whole is Full path place all e, rest))
      (λ f. subst (λ b. AreSeen t part (cons_option (cond b (Some place) None) more)) (sym f) rest)

  abbrev target_of : FollowedLink → Option (List ℕ)
  target_of link = link.file

  link_here : (folder name : List ℕ) (o : Option Node) (more : List FollowedLink) → AreSeen t part (link_looked t (join folder name) o) → AreSeen t part (filter_map target_of more)
      → AreSeen t part (filter_map target_of (cons_option (link_with t folder name o) more))
  link_here folder name (Some (node.Link target)) more all rest =
      let path = join folder name in
      let link : FollowedLink = record { name = name; target = target; file = file_at t path } in
      by_test (is_library_name name)
      (λ e. subst (λ b. AreSeen t part (filter_map target_of (cons_option (cond b (Some link) None) more))) (sym e)
      (file_here path (resolution t path Full) (filter_map target_of more) all refl rest))
      (λ e. subst (λ b. AreSeen t part (filter_map target_of (cons_option (cond b (Some link) None) more))) (sym e) rest)
  link_here folder name (Some (node.File key id)) more all rest = rest
  link_here folder name (Some node.Dir) more all rest = rest
  link_here folder name None more all rest = rest

  links_here : (folder : List ℕ) (names : List (List ℕ)) → AreSeen t part (flat_map (link_at_looked t folder) names) → AreSeen t part (filter_map target_of (filter_map (followed_by t folder) names))
  links_here folder [] all = tt
  links_here folder (name ∷ names) all =
      let parts = seen_parts t part (link_at_looked t folder name) (flat_map (link_at_looked t folder) names) all in
      link_here folder name (node_at t (join folder name)) (filter_map (followed_by t folder) names) parts.0 (links_here folder names parts.1)

  folder_here : (folder : List ℕ) → AreSeen t part (links_looked t folder) → AreSeen t part (filter_map target_of (followed_in t folder))
  folder_here folder all =
      let names = children_of t folder in
      subst (λ links. AreSeen t part (filter_map target_of links)) (left_out is_library_name (followed_by t folder) (not_followed t folder) names)
      (links_here folder (filter is_library_name names) all)

  all_reached : (places : List Place) → AreSeen t part (flat_map (λ place. links_looked t place.real) places) → AreSeen t part (flat_map files_of (map (folder_links t) places))
  all_reached [] all = tt
  all_reached (place ∷ places) all =
      let parts = seen_parts t part (links_looked t place.real) (flat_map (λ place. links_looked t place.real) places) all in
      all_both IsHere (files_of (folder_links t place)) (flat_map files_of (map (folder_links t) places)) (folder_here place.real parts.0) (all_reached places parts.1)

  -- the nodes of the files that links with library names resolve to are those of the tree
  pub reached_nodes : (places : List Place) → AreSeen t part (followed_looked t places) → AreSeen t part (reached t places)
  unfolding reached followed followed_looked
  reached_nodes places all = all_ascending IsHere (flat_map files_of (map (folder_links t) places)) (all_reached places all)
