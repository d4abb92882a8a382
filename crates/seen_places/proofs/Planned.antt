-- After the planned links are put into the tree and into its part, the part is still a part of the tree, and agrees with it at the links
-- and where it agreed before.
use Rattle.std.proofs.Common.{◌≡◌, ◌⊎◌, inl, inr, ℕ, Bool, true, false, cond, not, ◌||◌, nat_lt, List, [], ◌∷◌, filter, flat_map, length, map, refl, ap, sym, subst, ◌∙◌, Option, Some, None}
use Rattle.std.proofs.lemmas.Bool.{and_from, and_parts, false≢true, or_parts}
use Rattle.std.proofs.lemmas.List.Elements.{filter_passes}
use Rattle.std.proofs.lemmas.List.Sums.{list_all-from_AllPass}
use Rattle.std.proofs.lemmas.Slice.Eq.{bytes_eq-Decides}
use Rattle.std.specs.List.{AllByRecursion, list_all}
use Rattle.std.specs.Option.{option_map_or}
use Rattle.std.specs.Str.{bytes_eq}
use Rattle.file_table.specs.Analyses.{Analyses, HaveNames}
use Rattle.hwcap_dirs.proofs.Children.{children_named}
use Rattle.hwcap_dirs.proofs.Reals.{all_left}
use Rattle.hwcap_dirs.specs.Places.{are_dirs, is_dir}
use Rattle.hwcap_dirs.specs.declared.kinds.Place.{Place}
use Rattle.image_tree.proofs.OneMore.{put_here, put_other}
use Rattle.image_tree.specs.Node as nodes
use Rattle.image_tree.specs.Paths.{is_path, join, root}
use Rattle.image_tree.specs.Tree.{Nodes, children_of, has_below, is_entry, kind_at, kind_there, node_at, put}
use Rattle.image_tree.specs.declared.node.Node.{Node}
use Rattle.image_tree.specs.declared.node.Node.TheVariants as node
use Rattle.image_tree.specs.declared.path.TheConstants.{PATH_MAX}
use Rattle.image_tree.specs.declared.tree.Kind.TheVariants as kinds
use Rattle.lib_types.proofs.SortedPairs.{by_test}
use Rattle.lib_types.specs.Name.{is_name}
use Rattle.link_plan.specs.declared.kinds.Planned.{Planned}
use Rattle.name_order.specs.LibraryName.{is_library_name}
use Rattle.path_walk.proofs.KindsAt.{at_path}
use Rattle.path_walk.proofs.Last.{parent_joined}
use Rattle.path_walk.proofs.Linked.{folder_of_dir}
use Rattle.path_walk.specs.Names.{parent}
use Rattle.place_libraries.proofs.Named.{best_named}
use Rattle.place_libraries.specs.Best.{best}
use Rattle.place_libraries.specs.Libraries.{libraries_in}
use Rattle.place_libraries.specs.Library.{Library}
use Rattle.root_folder.proofs.Dirs.{dir_above}
use Rattle.root_folder.proofs.Whole.{whole_put}
use Rattle.root_folder.specs.Whole.{IsWhole, can_link, has_dir, is_free}
use Rattle.seen_tree.proofs.Same.{seen_parts}
use Rattle.seen_tree.proofs.WithNode.{part_both, seen_both}
use Rattle.seen_tree.specs.Part.{AreSeen, IsPart, IsSeen, listed}
use Rattle.soname_links.proofs.KindsAt.{is_open, open_free}
use Rattle.soname_links.proofs.Links.{IsLinkFor, each_link}
use Rattle.soname_links.proofs.Named.{is_dir_kind, link_named, links_named}
use Rattle.soname_links.proofs.Targets.{name_is_target}
use Rattle.soname_links.specs.Apply.{is_link, is_plan}
use Rattle.soname_links.specs.Plan.{is_taken, links, with_link, with_links}
use Rattle.seen_places.proofs.Each.{all_both}
use Rattle.seen_places.proofs.Sonames.{soname_seen}
use Rattle.seen_places.specs.Looked.{followed_looked, names_looked, wanted_looked}
use Rattle.seen_places.specs.Planned.{is_put, planned_looked, unput}

-- ---- what was seen

pub seen_with : (plan : List Planned) (t part : Nodes) (z : List ℕ) → IsSeen t part z → IsSeen (with_links t plan) (with_links part plan) z
seen_with [] t part z seen = seen
seen_with (planned ∷ plan) t part z seen =
    seen_with plan (with_link t planned) (with_link part planned) z (seen_both t planned.path (node.Link planned.file) part z seen)

-- what was seen before stays so
pub all_with : (plan : List Planned) (t part : Nodes) (paths : List (List ℕ)) → AreSeen t part paths → AreSeen (with_links t plan) (with_links part plan) paths
all_with plan t part [] all = tt
all_with plan t part (z ∷ paths) all = (seen_with plan t part z all.0, all_with plan t part paths all.1)

-- the planned links are in both
pub put_seen : (plan : List Planned) (t part : Nodes) (z : List ℕ) → is_put plan z ≡ true → IsSeen (with_links t plan) (with_links part plan) z
put_seen [] t part z h = absurd (cc)
put_seen (planned ∷ plan) t part z h =
    let link = node.Link planned.file in
    by_test (bytes_eq z planned.path)
    (λ e.
    let here : IsSeen (with_link t planned) (with_link part planned) planned.path = put_here planned.path link part ∙ sym (put_here planned.path link t) in
    seen_with plan (with_link t planned) (with_link part planned) z
    (subst (IsSeen (with_link t planned) (with_link part planned)) (sym ((bytes_eq-Decides z planned.path).0 e)) here))
    (λ e. put_seen plan (with_link t planned) (with_link part planned) z (sym (ap (λ b. b || is_put plan z) e) ∙ h))

-- ---- a part of the tree

pub part_with_links : (plan : List Planned) (t part : Nodes) → is_plan plan ≡ true → IsPart t part → IsPart (with_links t plan) (with_links part plan)
part_with_links [] t part valid is = is
part_with_links (planned ∷ plan) t part valid is =
    let parts = and_parts (is_link planned) (is_plan plan) valid in
    let link = and_parts (is_path planned.path) (is_name planned.file) parts.0 in
    let entry : is_entry (planned.path, node.Link planned.file) ≡ true = and_from _ _ link.0 (name_is_target planned.file link.1) in
    part_with_links plan (with_link t planned) (with_link part planned) parts.1 (part_both t planned.path (node.Link planned.file) part entry is)

-- ---- a tree in which each directory has a node

free_no_dir : (o : Option Node) → is_free o ≡ true → option_map_or nodes.is_dir o false ≡ false
free_no_dir None h = refl
free_no_dir (Some node.Dir) h = absurd (false≢true h)
free_no_dir (Some (node.File key id)) h = refl
free_no_dir (Some (node.Link target)) h = refl

module _ (t : Nodes) (path target : List ℕ) (room : can_link t path ≡ true) where
  dir_stays : (dir : List ℕ) → has_dir t dir ≡ true → has_dir (put t path (node.Link target)) dir ≡ true
  dir_stays dir h = by_test (bytes_eq dir path)
      (λ e.
      let none : option_map_or nodes.is_dir (node_at t dir) false ≡ false =
      ap (λ q. option_map_or nodes.is_dir (node_at t q) false) ((bytes_eq-Decides dir path).0 e) ∙ free_no_dir (node_at t path) (and_parts _ _ room).1 in
      by_test (bytes_eq dir root)
      (λ r. ap (λ b. b || option_map_or nodes.is_dir (node_at (put t path (node.Link target)) dir) false) r)
      (λ r. absurd (false≢true (sym (ap (λ b. b || option_map_or nodes.is_dir (node_at t dir) false) r ∙ none) ∙ h))))
      (λ e. ap (λ (o : Option Node). bytes_eq dir root || option_map_or nodes.is_dir o false) (put_other path (node.Link target) dir e t) ∙ h)

  free_stays : (q : List ℕ) → is_free (node_at t q) ≡ true → is_free (node_at (put t path (node.Link target)) q) ≡ true
  free_stays q h = by_test (bytes_eq q path)
      (λ e. ap (λ z. is_free (node_at (put t path (node.Link target)) z)) ((bytes_eq-Decides q path).0 e) ∙ ap is_free (put_here path (node.Link target) t))
      (λ e. ap is_free (put_other path (node.Link target) q e t) ∙ h)

  room_stays : (q : List ℕ) → can_link t q ≡ true → can_link (put t path (node.Link target)) q ≡ true
  room_stays q h =
      let parts = and_parts (has_dir t (parent q)) (is_free (node_at t q)) h in
      and_from _ _ (dir_stays (parent q) parts.0) (free_stays q parts.1)

abbrev pub CanLink : Nodes → List Planned → Type 0
CanLink t plan = AllByRecursion (λ planned. can_link t planned.path ≡ true) plan

can_still : (t : Nodes) (planned : Planned) (plan : List Planned) → can_link t planned.path ≡ true → CanLink t plan → CanLink (with_link t planned) plan
can_still t planned [] room all = tt
can_still t planned (next ∷ plan) room all = (room_stays t planned.path planned.file room next.path all.0, can_still t planned plan room all.1)

pub whole_with_links : (plan : List Planned) (t : Nodes) → is_plan plan ≡ true → CanLink t plan → IsWhole t → IsWhole (with_links t plan)
whole_with_links [] t valid room whole = whole
whole_with_links (planned ∷ plan) t valid room whole =
    let parts = and_parts (is_link planned) (is_plan plan) valid in
    let link = and_parts (is_path planned.path) (is_name planned.file) parts.0 in
    whole_with_links plan (with_link t planned) parts.1 (can_still t planned plan room.0 room.1)
    (whole_put t planned.path planned.file room.0 whole link.0 (name_is_target planned.file link.1))

-- ---- the planned links

open_is_free : (o : Option Node) → is_open o ≡ true → is_free o ≡ true
open_is_free None h = refl
open_is_free (Some (node.Link target)) h = refl
open_is_free (Some node.Dir) h = absurd (cc)
open_is_free (Some (node.File key id)) h = absurd (cc)

dir_of_kind : (o : Option Node) (below : Bool) → kind_there o below ≡ kinds.Dir → (below ≡ true → o ≡ Some node.Dir) → option_map_or nodes.is_dir o false ≡ true
dir_of_kind (Some node.Dir) below k dir = refl
dir_of_kind (Some (node.File key id)) below k dir = absurd (cc)
dir_of_kind (Some (node.Link target)) below k dir = absurd (cc)
dir_of_kind None true k dir = let z : None ≡ Some node.Dir = dir refl in absurd (cc)
dir_of_kind None false k dir = absurd (cc)

module _ (t : Nodes) (whole : IsWhole t) where
  has_dir_at : (d : List ℕ) → kind_at t d ≡ kinds.Dir → has_dir t d ≡ true
  has_dir_at d dir = by (folder_of_dir t d dir)
    where
      by : (d ≡ root) ⊎ ((bytes_eq d root ≡ false) × (is_path d ≡ true)) → has_dir t d ≡ true
      by (inl e) = ap (λ b. b || option_map_or nodes.is_dir (node_at t d) false) ((bytes_eq-Decides d root).1 e)
      by (inr e) =
          ap (λ b. b || option_map_or nodes.is_dir (node_at t d) false) e.0
          ∙ dir_of_kind (node_at t d) (has_below t d) (sym (at_path t d e.0 e.1) ∙ dir) (dir_above t whole d e.1)

  module _ (what : Analyses) (named : HaveNames what) where
    can_link_for : (number : ℕ) (place : Place) (soname : List ℕ) (library : Library) (planned : Planned) → is_dir (kind_at t place.real) ≡ true
        → best (libraries_in what t place) soname ≡ Some library → IsLinkFor t place library planned → can_link t planned.path ≡ true
    can_link_for number place soname library planned here e link =
        let d = place.real in
        let dir = is_dir_kind (kind_at t d) here in
        let names = and_parts (is_name library.name) (is_name library.soname) (best_named what t whole.entries named place soname library e) in
        let valid = and_parts (is_path planned.path) (is_name planned.file) (link_named what t whole.entries named number place soname library planned here e link) in
        let path : planned.path ≡ join d library.soname = sym link.path in
        let above : has_dir t (parent planned.path) ≡ true =
        ap (λ p. has_dir t (parent p)) path ∙ ap (has_dir t) (parent_joined d library.soname names.1 (folder_of_dir t d dir)) ∙ has_dir_at d dir in
        let free : is_taken (kind_at t planned.path) ≡ false = ap (λ p. is_taken (kind_at t p)) path ∙ (or_parts (nat_lt PATH_MAX (length (join d library.soname))) (is_taken (kind_at t (join d library.soname))) link.free).1 in
        and_from _ _ above (open_is_free (node_at t planned.path) (open_free t planned.path valid.0 free))

    pub links_can_link : (places : List Place) → are_dirs t places ≡ true → CanLink t (links what t places)
    links_can_link places dirs = each_link what t (λ planned. can_link t planned.path ≡ true) can_link_for places dirs

    -- with the planned links each directory still has a node
    pub whole_planned : (places : List Place) → are_dirs t places ≡ true → IsWhole (with_links t (links what t places))
    whole_planned places dirs =
        whole_with_links (links what t places) t (links_named what t whole.entries named places dirs) (links_can_link places dirs) whole

    pub part_planned : (places : List Place) → are_dirs t places ≡ true → (part : Nodes) → IsPart t part
        → IsPart (with_links t (links what t places)) (with_links part (links what t places))
    part_planned places dirs part is = part_with_links (links what t places) t part (links_named what t whole.entries named places dirs) is

-- ---- the names in a search directory

module _ (t part : Nodes) (is : IsPart t part) (plan : List Planned) (entries : list_all is_entry (with_links t plan) ≡ true) where
  module _ (d : List ℕ) (dir : kind_at t d ≡ kinds.Dir) (all : AreSeen t part (listed is_library_name t d)) where
    each_name : (names : List (List ℕ)) → list_all is_name names ≡ true → list_all is_library_name names ≡ true → AreSeen (with_links t plan) (with_links part plan) (map (join d) names)
    each_name [] named library = tt
    each_name (name ∷ names) named library =
        let n = and_parts (is_name name) (list_all is_name names) named in
        let l = and_parts (is_library_name name) (list_all is_library_name names) library in
        (seen_with plan t part (join d name) (soname_seen t part is d dir all name n.0 l.0), each_name names n.1 l.1)

    names_with : AreSeen (with_links t plan) (with_links part plan) (listed is_library_name (with_links t plan) d)
    names_with =
        let children = children_of (with_links t plan) d in
        let names = filter is_library_name children in (
          seen_with plan t part d all.0,
          each_name names (all_left is_name is_library_name children (children_named (with_links t plan) d entries))
              (list_all-from_AllPass is_library_name names (filter_passes is_library_name children)),
        )

  each_place : (places : List Place) → are_dirs t places ≡ true → AreSeen t part (flat_map (names_looked t) places)
      → AreSeen (with_links t plan) (with_links part plan) (flat_map (names_looked (with_links t plan)) places)
  each_place [] dirs all = tt
  each_place (place ∷ places) dirs all =
      let here = and_parts (is_dir (kind_at t place.real)) (are_dirs t places) dirs in
      let parts = seen_parts t part (names_looked t place) (flat_map (names_looked t) places) all in
      all_both (IsSeen (with_links t plan) (with_links part plan)) (names_looked (with_links t plan) place) (flat_map (names_looked (with_links t plan)) places)
      (names_with place.real (is_dir_kind (kind_at t place.real) here.0) parts.0) (each_place places here.1 parts.1)

  -- no further path is looked up to find the library names of the search directories in the tree with the links
  pub wanted_with : (places : List Place) → are_dirs t places ≡ true → AreSeen t part (wanted_looked t places)
      → AreSeen (with_links t plan) (with_links part plan) (wanted_looked (with_links t plan) places)
  unfolding wanted_looked
  wanted_with places dirs all = each_place places dirs all

-- ---- the links of the tree with the planned links

-- other paths keep their nodes
pub not_put : (plan : List Planned) (t : Nodes) (z : List ℕ) → is_put plan z ≡ false → node_at (with_links t plan) z ≡ node_at t z
not_put [] t z h = refl
not_put (planned ∷ plan) t z h =
    let parts = or_parts (bytes_eq z planned.path) (is_put plan z) h in
    not_put plan (with_link t planned) z parts.1 ∙ put_other planned.path (node.Link planned.file) z parts.0 t

-- of these paths only those without a planned link are looked up in the directory
pub unput_seen : (plan : List Planned) (t part : Nodes) (paths : List (List ℕ)) → AreSeen t part (unput plan paths) → AreSeen (with_links t plan) (with_links part plan) paths
unput_seen plan t part [] all = tt
unput_seen plan t part (z ∷ paths) all = by_test (is_put plan z)
    (λ e. (put_seen plan t part z e, unput_seen plan t part paths (subst (λ b. AreSeen t part (cond (not b) (z ∷ unput plan paths) (unput plan paths))) e all)))
    (λ e.
    let rest : AreSeen t part (z ∷ unput plan paths) = subst (λ b. AreSeen t part (cond (not b) (z ∷ unput plan paths) (unput plan paths))) e all in
    (seen_with plan t part z rest.0, unput_seen plan t part paths rest.1))

pub followed_with : (plan : List Planned) (t part : Nodes) (places : List Place) → AreSeen t part (planned_looked t plan places)
    → AreSeen (with_links t plan) (with_links part plan) (followed_looked (with_links t plan) places)
unfolding planned_looked
followed_with plan t part places all = unput_seen plan t part (followed_looked (with_links t plan) places) all
