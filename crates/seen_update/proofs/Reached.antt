-- The files that links lead to have no planned link, so their nodes are those before the links were planned.
use Rattle.std.proofs.Common.{◌≡◌, ◌||◌, ℕ, true, false, cond, List, [], ◌∷◌, filter_map, flat_map, map, refl, ap, sym, subst, ◌∙◌, Option, Some, None, Result, Ok, Err}
use Rattle.std.proofs.lemmas.Slice.Eq.{bytes_eq-Decides}
use Rattle.std.specs.List.{AllByRecursion, cons_option}
use Rattle.std.specs.Str.{bytes_eq}
use Rattle.hwcap_dirs.specs.declared.kinds.Place.{Place}
use Rattle.image_tree.proofs.OneMore.{put_here}
use Rattle.image_tree.specs.Paths.{is_path, join, root}
use Rattle.image_tree.specs.Tree.{Nodes, children_of, kind_at, node_at}
use Rattle.image_tree.specs.declared.node.Node.{Node}
use Rattle.image_tree.specs.declared.node.Node.TheVariants as node
use Rattle.lib_types.proofs.SortedPairs.{by_test}
use Rattle.library_files.specs.Link.{FollowedLink}
use Rattle.library_files.specs.Search.{files_of, folder_links, followed, followed_by, link_with, reached}
use Rattle.link_plan.specs.declared.kinds.Planned.{Planned}
use Rattle.name_order.specs.LibraryName.{is_library_name}
use Rattle.path_walk.specs.Files.{file_at, file_by, is_file}
use Rattle.path_walk.specs.Walk.{resolution}
use Rattle.path_walk.specs.declared.walk.Mode.TheVariants.{Full}
use Rattle.path_walk.specs.declared.walk.WalkFault.{WalkFault}
use Rattle.seen_places.proofs.Each.{all_ascending, all_both}
use Rattle.seen_places.proofs.Planned.{not_put}
use Rattle.seen_places.specs.Planned.{is_put}
use Rattle.seen_tree.specs.Part.{AreSeen, IsSeen}
use Rattle.soname_links.specs.Plan.{with_link, with_links}

-- ---- each of them is a file

abbrev pub IsFile : Nodes → List ℕ → Type 0
IsFile t path = is_file (kind_at t path) ≡ true

module _ (t : Nodes) where
  abbrev target_of : FollowedLink → Option (List ℕ)
  target_of link = link.file

  file_here : (r : Result (List ℕ) WalkFault) (more : List (List ℕ)) → AllByRecursion (IsFile t) more → AllByRecursion (IsFile t) (cons_option (file_by t r) more)
  file_here (Err fault) more rest = rest
  file_here (Ok place) more rest = by_test (is_file (kind_at t place))
      (λ f. subst (λ b. AllByRecursion (IsFile t) (cons_option (cond b (Some place) None) more)) (sym f) (f, rest))
      (λ f. subst (λ b. AllByRecursion (IsFile t) (cons_option (cond b (Some place) None) more)) (sym f) rest)

  link_here : (folder name : List ℕ) (o : Option Node) (more : List FollowedLink) → AllByRecursion (IsFile t) (filter_map target_of more)
      → AllByRecursion (IsFile t) (filter_map target_of (cons_option (link_with t folder name o) more))
  link_here folder name (Some (node.Link target)) more rest =
      let link : FollowedLink = record { name = name; target = target; file = file_at t (join folder name) } in
      by_test (is_library_name name)
      (λ e. subst (λ b. AllByRecursion (IsFile t) (filter_map target_of (cons_option (cond b (Some link) None) more))) (sym e)
      (file_here (resolution t (join folder name) Full) (filter_map target_of more) rest))
      (λ e. subst (λ b. AllByRecursion (IsFile t) (filter_map target_of (cons_option (cond b (Some link) None) more))) (sym e) rest)
  link_here folder name (Some (node.File key id)) more rest = rest
  link_here folder name (Some node.Dir) more rest = rest
  link_here folder name None more rest = rest

  links_here : (folder : List ℕ) (names : List (List ℕ)) → AllByRecursion (IsFile t) (filter_map target_of (filter_map (followed_by t folder) names))
  links_here folder [] = tt
  links_here folder (name ∷ names) = link_here folder name (node_at t (join folder name)) (filter_map (followed_by t folder) names) (links_here folder names)

  places_here : (places : List Place) → AllByRecursion (IsFile t) (flat_map files_of (map (folder_links t) places))
  places_here [] = tt
  places_here (place ∷ places) =
      all_both (IsFile t) (files_of (folder_links t place)) (flat_map files_of (map (folder_links t) places)) (links_here place.real (children_of t place.real)) (places_here places)

  pub reached_files : (places : List Place) → AllByRecursion (IsFile t) (reached t places)
  unfolding reached followed
  reached_files places = all_ascending (IsFile t) (flat_map files_of (map (folder_links t) places)) (places_here places)

-- ---- a planned link isn't a file

link_no_file : (t : Nodes) (path file : List ℕ) → node_at t path ≡ Some (node.Link file) → is_file (kind_at t path) ≡ false
link_no_file t path file e = by_test (bytes_eq path root)
    (λ b. rw b refl)
    (λ b. by_test (is_path path)
    (λ p. rw (b, p, e) refl)
    (λ p. rw (b, p) refl))

link_put : (plan : List Planned) (t : Nodes) (path : List ℕ) → is_put plan path ≡ true → (file : List ℕ) × (node_at (with_links t plan) path ≡ Some (node.Link file))
link_put [] t path h = absurd (cc)
link_put (planned ∷ plan) t path h = by_test (is_put plan path)
    (λ e. link_put plan (with_link t planned) path e)
    (λ e.
    let here : bytes_eq path planned.path ≡ true = first (bytes_eq path planned.path) (is_put plan path) e h in
    let same : path ≡ planned.path = (bytes_eq-Decides path planned.path).0 here in
    (planned.file, not_put plan (with_link t planned) path e ∙ ap (node_at (with_link t planned)) same ∙ put_here planned.path (node.Link planned.file) t))
  where
    first : (a b : _) → b ≡ false → (a || b) ≡ true → a ≡ true
    first true b e h = refl
    first false b e h = absurd (cc)

module _ (plan : List Planned) (t part : Nodes) where
  one_before : (path : List ℕ) → IsFile (with_links t plan) path → IsSeen (with_links t plan) (with_links part plan) path → IsSeen t part path
  one_before path file seen = by_test (is_put plan path)
      (λ e.
      let link = link_put plan t path e in
      let none : true ≡ false = sym file ∙ link_no_file (with_links t plan) path link.0 link.1 in absurd (cc))
      (λ e. sym (not_put plan part path e) ∙ seen ∙ not_put plan t path e)

  pub seen_before : (paths : List (List ℕ)) → AllByRecursion (IsFile (with_links t plan)) paths → AreSeen (with_links t plan) (with_links part plan) paths → AreSeen t part paths
  seen_before [] files seen = tt
  seen_before (path ∷ paths) files seen = (one_before path files.0 seen.0, seen_before paths files.1 seen.1)
