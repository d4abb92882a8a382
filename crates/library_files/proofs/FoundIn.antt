-- The files of directories and the files that links resolve to, with their keys and identities in the tree.
use Rattle.std.proofs.Common.{◌≡◌, ℕ, Bool, true, false, cond, List, [], ◌∷◌, ◌++◌, map, refl, ap, sym, subst, ◌∙◌, Option, Some, None, Result, Ok, Err}
use Rattle.std.proofs.ByRecursion.{All-append}
use Rattle.std.proofs.lemmas.Bool.{and_from, and_parts, or_left, or_right}
use Rattle.std.proofs.lemmas.List.{map-append}
use Rattle.std.proofs.lemmas.List.Folds.{list_all-append}
use Rattle.std.specs.List.{cons_option, filter_map, flat_map, list_all}
use Rattle.std.specs.Option.{is_none}
use Rattle.std.specs.Str.{bytes_eq}
use Rattle.hwcap_dirs.proofs.Reals.{all_left}
use Rattle.hwcap_dirs.specs.declared.kinds.Place.{Place}
use Rattle.lib_types.proofs.SortedPairs.{by_test}
use Rattle.name_order.specs.LibraryName.{is_library_name}
use Rattle.path_walk.specs.Files.{file_at, file_by, is_file}
use Rattle.path_walk.specs.Walk.{resolution}
use Rattle.path_walk.specs.declared.walk.Mode.TheVariants.{Full}
use Rattle.path_walk.specs.declared.walk.WalkFault.{WalkFault}
use Rattle.image_tree.specs.Paths.{join}
use Rattle.image_tree.specs.Tree.{Nodes, IsTree, children_of, kind_at, listing_of, node_at}
use Rattle.image_tree.specs.declared.node.Node.{Node}
use Rattle.string_pool.proofs.Members.{each_meets, is_in}
use Rattle.library_files.proofs.FolderRows.{files_once, reals}
use Rattle.string_pool.proofs.InByteOrder.{in_ascending}
use Rattle.file_table.specs.Analyses.{Analyses, unread}
use Rattle.library_files.specs.Children.{file_there, file_with, found_of, is_file_node}
use Rattle.library_files.specs.FoundFile.{FoundFile, AreFilesOf, IsFileOf, path_of, paths_of}
use Rattle.string_pool.specs.Order.{ascending}
use Rattle.library_files.specs.RealFolders.{HaveRows}
use Rattle.library_files.specs.Link.{FollowedLink}
use Rattle.library_files.specs.Search.{file_in, files_at, files_of, folder_links, followed, followed_by, link_with, reached, wanted}
use Rattle.image_tree.specs.declared.node.Node.TheVariants as node
use Rattle.library_files.proofs.Children as kinds
use Rattle.lib_types.proofs.SameTexts.{itself}

-- ---- one path

-- the file that is found at a path has this path, and is a file of the tree
with_node : (path : List ℕ) (n : Option Node) → paths_of (cons_option (file_with path n) []) ≡ cond (is_file_node n) (path ∷ []) []
with_node path None = refl
with_node path (Some node.Dir) = refl
with_node path (Some (node.Link target)) = refl
with_node path (Some (node.File key id)) = refl

of_tree : (t : Nodes) (path : List ℕ) (n : Option Node) (files : List FoundFile) → node_at t path ≡ n → AreFilesOf t files → AreFilesOf t (cons_option (file_with path n) files)
of_tree t path None files e are = are
of_tree t path (Some node.Dir) files e are = are
of_tree t path (Some (node.Link target)) files e are = are
of_tree t path (Some (node.File key id)) files e are = (e, are)

paths_then : (o : Option FoundFile) (files : List FoundFile) → paths_of (cons_option o files) ≡ paths_of (cons_option o []) ++ paths_of files
paths_then None files = refl
paths_then (Some file) files = refl

-- ---- the files of directories

module _ (t : Nodes) where
  abbrev pub found_in : List ℕ → List FoundFile
  found_in folder = filter_map (found_of folder) (listing_of t folder)

  module _ (tree : IsTree t) (folder : List ℕ) where
    one_path : (name : List ℕ) (rest : List (List ℕ)) → paths_of (cons_option (found_of folder (name, node_at t (join folder name))) []) ++ rest ≡ cons_option (file_in t folder name) rest
    one_path name rest =
        let path = join folder name in
        let is : is_file (kind_at t path) ≡ is_file_node (node_at t path) = kinds.file_there t tree path in
        by_test (is_library_name name)
        (λ e. rw (e, is) (ap (λ ps. ps ++ rest) (with_node path (node_at t path))
        ∙ elim (is_file_node (node_at t path)) as (λ b. cond b (path ∷ []) [] ++ rest ≡ cons_option (cond b (Some path) None) rest) [ true ↦ refl | false ↦ refl ]))
        (λ e. rw e refl)

    names_paths : (names : List (List ℕ)) → paths_of (filter_map (found_of folder) (map (λ name. (name, node_at t (join folder name))) names)) ≡ filter_map (file_in t folder) names
    names_paths [] = refl
    names_paths (name ∷ names) =
        paths_then (found_of folder (name, node_at t (join folder name))) (filter_map (found_of folder) (map (λ name. (name, node_at t (join folder name))) names))
        ∙ ap (λ ps. paths_of (cons_option (found_of folder (name, node_at t (join folder name))) []) ++ ps) (names_paths names)
        ∙ one_path name (filter_map (file_in t folder) names)

  names_files : (folder : List ℕ) (names : List (List ℕ)) → AreFilesOf t (filter_map (found_of folder) (map (λ name. (name, node_at t (join folder name))) names))
  names_files folder [] = tt
  names_files folder (name ∷ names) =
      let path = join folder name in
      let rest = filter_map (found_of folder) (map (λ name. (name, node_at t (join folder name))) names) in
      elim (is_library_name name) as (λ b. AreFilesOf t (cons_option (cond b (file_with path (node_at t path)) None) rest))
      [ true ↦ of_tree t path (node_at t path) rest refl (names_files folder names) | false ↦ names_files folder names ]

  folders_paths : IsTree t → (folders : List (List ℕ)) → paths_of (flat_map found_in folders) ≡ flat_map (files_at t) folders
  folders_paths tree [] = refl
  folders_paths tree (folder ∷ folders) =
      map-append path_of (found_in folder) (flat_map found_in folders)
      ∙ ap (λ ps. ps ++ paths_of (flat_map found_in folders)) (names_paths tree folder (children_of t folder))
      ∙ ap (λ ps. files_at t folder ++ ps) (folders_paths tree folders)

  folders_files : (folders : List (List ℕ)) → AreFilesOf t (flat_map found_in folders)
  folders_files [] = tt
  folders_files (folder ∷ folders) = All-append (IsFileOf t) (found_in folder) (flat_map found_in folders) (names_files folder (children_of t folder)) (folders_files folders)

  pub all_wanted : IsTree t → (places : List Place) (folders : List (List ℕ)) (rows : List ℕ) → HaveRows (reals places) folders rows → (files sorted : List FoundFile)
      → files ≡ flat_map found_in (ascending folders) → paths_of sorted ≡ ascending (paths_of files) → paths_of sorted ≡ wanted t places
  unfolding wanted
  all_wanted tree places folders rows have files sorted are once =
      once ∙ ap (λ fs. ascending (paths_of fs)) are ∙ ap ascending (folders_paths tree (ascending folders)) ∙ files_once t places folders rows have

  pub are_files : (folders : List (List ℕ)) (files sorted : List FoundFile) → files ≡ flat_map found_in folders → ((u : Nodes) → AreFilesOf u files → AreFilesOf u sorted)
      → AreFilesOf t sorted
  are_files folders files sorted are still = still t (subst (AreFilesOf t) (sym are) (folders_files folders))

  -- ---- the files that links resolve to

  abbrev pub is_there : List ℕ → Bool
  is_there path = is_file (kind_at t path)

  pub found_file : (walk : Result (List ℕ) WalkFault) (file : List ℕ) → file_by t walk ≡ Some file → is_there file ≡ true
  found_file (Err fault) file e = absurd (cc)
  found_file (Ok place) file e = by_test (is_there place)
      (λ h.
      let found : Some place ≡ Some file = sym (ap (λ b. cond b (Some place) None) h) ∙ e in
      let same : place ≡ file = cc in subst (λ (p : List ℕ). is_there p ≡ true) same h)
      (λ h. let none : None ≡ Some file = sym (ap (λ b. cond b (Some place) None) h) ∙ e in absurd (cc))

  all_with : (o : Option (List ℕ)) (rest : List (List ℕ)) → ((file : List ℕ) → o ≡ Some file → is_there file ≡ true) → list_all is_there rest ≡ true → list_all is_there (cons_option o rest) ≡ true
  all_with None rest one all = all
  all_with (Some file) rest one all = and_from _ _ (one file refl) all

  link_there : (folder name : List ℕ) (n : Option Node) (rest : List FollowedLink) → list_all is_there (filter_map (λ link. link.file) rest) ≡ true
      → list_all is_there (filter_map (λ link. link.file) (cons_option (link_with t folder name n) rest)) ≡ true
  link_there folder name None rest all = all
  link_there folder name (Some node.Dir) rest all = all
  link_there folder name (Some (node.File key id)) rest all = all
  link_there folder name (Some (node.Link target)) rest all =
      let path = join folder name in
      let link : FollowedLink = record { name = name; target = target; file = file_at t path } in
      elim (is_library_name name) as (λ b. list_all is_there (filter_map (λ link. link.file) (cons_option (cond b (Some link) None) rest)) ≡ true)
      [ true ↦ all_with (file_at t path) _ (λ file e. found_file (resolution t path Full) file e) all | false ↦ all ]

  links_there : (folder : List ℕ) (names : List (List ℕ)) → list_all is_there (filter_map (λ link. link.file) (filter_map (followed_by t folder) names)) ≡ true
  links_there folder [] = refl
  links_there folder (name ∷ names) = link_there folder name (node_at t (join folder name)) (filter_map (followed_by t folder) names) (links_there folder names)

  places_there : (places : List Place) → list_all is_there (flat_map files_of (map (folder_links t) places)) ≡ true
  places_there [] = refl
  places_there (place ∷ places) =
      list_all-append is_there (files_of (folder_links t place)) (flat_map files_of (map (folder_links t) places))
      ∙ and_from _ _ (links_there place.real (children_of t place.real)) (places_there places)

  by_members : (paths : List (List ℕ)) → ((path : List ℕ) → is_in paths path ≡ true → is_there path ≡ true) → list_all is_there paths ≡ true
  by_members [] each = refl
  by_members (path ∷ paths) each =
      and_from _ _ (each path (or_left (bytes_eq path path) (is_in paths path) (itself path))) (by_members paths (λ q h. each q (or_right (bytes_eq q path) (is_in paths q) h)))

  reached_there : (places : List Place) → list_all is_there (reached t places) ≡ true
  unfolding reached followed
  reached_there places =
      by_members (ascending (flat_map files_of (map (folder_links t) places)))
      (λ path there. each_meets is_there (flat_map files_of (map (folder_links t) places)) path (places_there places) (sym (in_ascending (flat_map files_of (map (folder_links t) places)) path) ∙ there))

  there_paths : IsTree t → (paths : List (List ℕ)) → list_all is_there paths ≡ true → paths_of (filter_map (file_there t) paths) ≡ paths
  there_paths tree [] all = refl
  there_paths tree (path ∷ paths) all =
      let parts = and_parts (is_there path) (list_all is_there paths) all in
      let is : is_file_node (node_at t path) ≡ true = sym (kinds.file_there t tree path) ∙ parts.0 in
      paths_then (file_there t path) (filter_map (file_there t) paths)
      ∙ ap (λ ps. ps ++ paths_of (filter_map (file_there t) paths)) (with_node path (node_at t path) ∙ ap (λ b. cond b (path ∷ []) []) is)
      ∙ ap (λ ps. path ∷ ps) (there_paths tree paths parts.1)

  pub there_files : (paths : List (List ℕ)) → AreFilesOf t (filter_map (file_there t) paths)
  there_files [] = tt
  there_files (path ∷ paths) = of_tree t path (node_at t path) (filter_map (file_there t) paths) refl (there_files paths)

  pub all_reached : IsTree t → (what : Analyses) (places : List Place) → paths_of (filter_map (file_there t) (unread what (reached t places))) ≡ unread what (reached t places)
  all_reached tree what places =
      there_paths tree (unread what (reached t places)) (all_left is_there (λ path. is_none (what path)) (reached t places) (reached_there places))
