-- The files and links with library names, while the search directories are looked at.
use Rattle.std.proofs.Common.{◌≡◌, ℕ, Bool, true, false, List, [], ◌∷◌, ◌++◌, append-nil, filter, flat_map, refl, ap, sym, ◌∙◌, Option, Some, None}
use Rattle.file_table.specs.Analyses.{Analyses, HaveNames}
use Rattle.hwcap_dirs.specs.Places.{are_dirs}
use Rattle.hwcap_dirs.specs.declared.kinds.Place.{Place}
use Rattle.image_tree.specs.Paths.{join}
use Rattle.image_tree.specs.Tree.{IsTree, Nodes, children_of, node_at}
use Rattle.image_tree.specs.declared.node.Node.{Node}
use Rattle.image_tree.specs.declared.node.Node.TheVariants as node
use Rattle.name_order.specs.LibraryName.{is_library_name}
use Rattle.path_walk.specs.declared.walk.Mode.TheVariants.{Full}
use Rattle.root_folder.specs.Folder.{FolderState}
use Rattle.root_folder.specs.Whole.{IsWhole}
use Rattle.seen_places.proofs.Covered.{planned_covered}
use Rattle.seen_places.proofs.Each.{all_both}
use Rattle.seen_places.specs.Looked.{followed_looked, link_at_looked, link_looked, links_looked, names_looked, wanted_looked}
use Rattle.seen_places.specs.Planned.{planned_looked}
use Rattle.seen_tree.proofs.Same.{seen_parts}
use Rattle.seen_tree.specs.Part.{AreSeen, IsPart, IsSeen, dirs_at, listed, looked_by}
use Rattle.soname_links.specs.Plan.{links}
use Rattle.tree_face.specs.Known.{IfKnown}
use Rattle.looked_tree.proofs.Loads.{are_now_seen, both, known_all, known_both, same_asked}
use Rattle.looked_tree.specs.Looked.{HasLooked, IsLookedOf, Loads, Looked}
use Rattle.looked_places.specs.Listed.{is_link, libraries_looked, library_looked, named_looked, ways_looked}

-- ---- one name

by_link : (t : Nodes) (path : List ℕ) (o : Option Node) → is_link o ≡ true → link_looked t path o ≡ looked_by t path Full
by_link t path (Some (node.Link target)) h = refl
by_link t path (Some (node.File key id)) h = absurd (cc)
by_link t path (Some node.Dir) h = absurd (cc)
by_link t path None h = absurd (cc)

by_other : (t : Nodes) (path : List ℕ) (o : Option Node) → is_link o ≡ false → link_looked t path o ≡ []
by_other t path (Some (node.Link target)) h = absurd (cc)
by_other t path (Some (node.File key id)) h = refl
by_other t path (Some node.Dir) h = refl
by_other t path None h = refl

module _ (dir name : List ℕ) (a b : FolderState) (x y : Looked) (first : Loads (λ t. join dir name ∷ []) (λ t. []) a b x y) where
  abbrev path : List ℕ
  path = join dir name

  node_now : (t : Nodes) → HasLooked t x y (path ∷ []) [] [] [] → node_at y.seen.part path ≡ node_at t path
  node_now t has = (are_now_seen t x y (path ∷ []) [] has).0

  -- what is known of the node
  links_known : (bit : Bool) → is_link (node_at y.seen.part path) ≡ bit → IfKnown a.contents (λ k. IsLookedOf k.now x → is_link (node_at k.now path) ≡ bit)
  links_known bit e = known_both a.contents (λ k. IsLookedOf k.now x → HasLooked k.now x y (path ∷ []) [] [] []) (λ k. Unit {0})
      (λ k. IsLookedOf k.now x → is_link (node_at k.now path) ≡ bit)
      (λ k has u is. ap is_link (sym (node_now k.now (has is))) ∙ e) first.looks (known_all a.contents (λ k. Unit {0}) (λ k. tt))

  pub named_other : is_link (node_at y.seen.part path) ≡ false → Loads (λ t. named_looked t dir name) (λ t. []) a b x y
  named_other e = same_asked (λ t. path ∷ []) (λ t. []) (λ t. named_looked t dir name) (λ t. []) a b x y first
      (known_both a.contents (λ k. IsLookedOf k.now x → is_link (node_at k.now path) ≡ false) (λ k. Unit {0})
      (λ k. IsLookedOf k.now x → HasLooked k.now x y (path ∷ []) [] [] [] → (named_looked k.now dir name ≡ path ∷ []) × ([] ≡ []))
      (λ k g u is has. (ap (λ more. path ∷ more) (by_other k.now path (node_at k.now path) (g is)), refl)) (links_known false e) (known_all a.contents (λ k. Unit {0}) (λ k. tt)))

  pub named_link : (c : FolderState) (z : Looked) → is_link (node_at y.seen.part path) ≡ true → Loads (λ t. looked_by t path Full) (λ t. []) b c y z
      → Loads (λ t. named_looked t dir name) (λ t. []) a c x z
  named_link c z e next = same_asked (λ t. (path ∷ []) ++ looked_by t path Full) (λ t. [] ++ []) (λ t. named_looked t dir name) (λ t. []) a c x z
      (both (λ t. path ∷ []) (λ t. looked_by t path Full) (λ t. []) (λ t. []) a b c x y z first next)
      (known_both a.contents (λ k. IsLookedOf k.now x → is_link (node_at k.now path) ≡ true) (λ k. Unit {0})
      (λ k. IsLookedOf k.now x → HasLooked k.now x z ((path ∷ []) ++ looked_by k.now path Full) [] ([] ++ []) []
      → (named_looked k.now dir name ≡ (path ∷ []) ++ looked_by k.now path Full) × ([] ≡ [] ++ []))
      (λ k g u is has. (ap (λ more. path ∷ more) (by_link k.now path (node_at k.now path) (g is)), refl)) (links_known true e) (known_all a.contents (λ k. Unit {0}) (λ k. tt)))

-- ---- one directory

pub library_both : (dir : List ℕ) (names : List (List ℕ)) (a b c : FolderState) (x y z : Looked)
    → Loads (λ t. listed is_library_name t dir) (λ t. dirs_at t dir) a b x y
    → IfKnown a.contents (λ k. IsLookedOf k.now x → names ≡ filter is_library_name (children_of k.now dir))
    → Loads (λ t. flat_map (named_looked t dir) names) (λ t. []) b c y z
    → Loads (λ t. library_looked t dir) (λ t. dirs_at t dir) a c x z
library_both dir names a b c x y z first is next =
    same_asked (λ t. listed is_library_name t dir ++ flat_map (named_looked t dir) names) (λ t. dirs_at t dir ++ []) (λ t. library_looked t dir) (λ t. dirs_at t dir) a c x z
    (both (λ t. listed is_library_name t dir) (λ t. flat_map (named_looked t dir) names) (λ t. dirs_at t dir) (λ t. []) a b c x y z first next)
    (known_both a.contents (λ k. IsLookedOf k.now x → names ≡ filter is_library_name (children_of k.now dir)) (λ k. Unit {0})
    (λ k. IsLookedOf k.now x → HasLooked k.now x z (listed is_library_name k.now dir ++ flat_map (named_looked k.now dir) names) [] (dirs_at k.now dir ++ []) []
    → (library_looked k.now dir ≡ listed is_library_name k.now dir ++ flat_map (named_looked k.now dir) names) × (dirs_at k.now dir ≡ dirs_at k.now dir ++ []))
    (λ k g u known has. (ap (λ xs. listed is_library_name k.now dir ++ flat_map (named_looked k.now dir) xs) (sym (g known)), sym (append-nil (dirs_at k.now dir))))
    is (known_all a.contents (λ k. Unit {0}) (λ k. tt)))

-- ---- what the definitions of the update need

module _ (t part : Nodes) where
  links_of : (dir : List ℕ) (names : List (List ℕ)) → AreSeen t part (flat_map (named_looked t dir) names) → AreSeen t part (flat_map (link_at_looked t dir) names)
  links_of dir [] all = tt
  links_of dir (name ∷ names) all =
      let parts = seen_parts t part (named_looked t dir name) (flat_map (named_looked t dir) names) all in
      all_both (IsSeen t part) (link_at_looked t dir name) (flat_map (link_at_looked t dir) names) parts.0.1 (links_of dir names parts.1)

  each_place : (places : List Place) → AreSeen t part (flat_map (λ place. library_looked t place.real) places)
      → AreSeen t part (flat_map (names_looked t) places) × AreSeen t part (flat_map (λ place. links_looked t place.real) places)
  each_place [] all = (tt, tt)
  each_place (place ∷ places) all =
      let dir = place.real in
      let parts = seen_parts t part (library_looked t dir) (flat_map (λ place. library_looked t place.real) places) all in
      let here = seen_parts t part (listed is_library_name t dir) (flat_map (named_looked t dir) (filter is_library_name (children_of t dir))) parts.0 in
      let rest = each_place places parts.1 in (
        all_both (IsSeen t part) (names_looked t place) (flat_map (names_looked t) places) here.0 rest.0,
        all_both (IsSeen t part) (links_looked t dir) (flat_map (λ place. links_looked t place.real) places)
            (links_of dir (filter is_library_name (children_of t dir)) here.1) rest.1,
      )

  -- the ways to the search directories, and the rest
  libraries_parts : (places : List Place) → AreSeen t part (libraries_looked t places)
      → AreSeen t part (ways_looked t places) × AreSeen t part (flat_map (λ place. library_looked t place.real) places)
  unfolding libraries_looked
  libraries_parts places all = seen_parts t part (ways_looked t places) (flat_map (λ place. library_looked t place.real) places) all

  -- the files and links with library names were seen, and what the links resolve through
  pub libraries_seen : (places : List Place) → AreSeen t part (libraries_looked t places)
      → AreSeen t part (wanted_looked t places) × AreSeen t part (followed_looked t places)
  unfolding wanted_looked followed_looked
  libraries_seen places all = each_place places (libraries_parts places all).1

-- After links are planned, nothing more is to be looked up to follow the links with library names.
pub planned_seen : (t part : Nodes) → IsWhole t → IsPart t part → IsTree part → (what : Analyses) → HaveNames what → (places : List Place) → are_dirs t places ≡ true
    → AreSeen t part (libraries_looked t places) → AreSeen t part (planned_looked t (links what t places) places)
planned_seen t part whole is tree what named places dirs all =
    let seen = libraries_seen t part places all in
    planned_covered t part whole is tree what named places dirs seen.0 (libraries_parts t part places all).0 seen.1
