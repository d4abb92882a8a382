-- Followed links are in their directory.
use Rattle.std.proofs.Common.{◌≡◌, ℕ, true, false, cond, List, [], ◌∷◌, ap, subst, sym, refl, Option, Some, None}
use Rattle.std.specs.Cmp.Lexicographic.{slice_cmp}
use Rattle.std.specs.List.{cons_option, filter_map, slice_get}
use Rattle.std.specs.Iterator.{YieldsFirstBy}
use Rattle.std.specs.Ordering.{nat_cmp}
use Rattle.std.specs.declared.cmp.Ordering.TheVariants.{Equal}
use Rattle.std.specs.Str.{bytes_eq}
use Rattle.name_order.specs.LibraryName.{is_library_name}
use Rattle.image_tree.specs.Paths.{join}
use Rattle.image_tree.specs.Tree.{Nodes, children_of, node_at}
use Rattle.image_tree.specs.declared.node.Node.{Node}
use Rattle.image_tree.specs.declared.node.Node.TheVariants as node
use Rattle.string_pool.proofs.InByteOrder.{same_text}
use Rattle.library_files.specs.Link.{FollowedLink}
use Rattle.library_files.specs.Places.{is_link_to, links_to}
use Rattle.library_files.specs.Search.{followed_by, followed_in, link_with}
use Rattle.path_walk.specs.Files.{file_at}
use Rattle.cache_entries.specs.LinksOf.{AreLeftOf, AreLinked, Folder, IsLinked, IsTargetAmong}

module _ (t : Nodes) (path : List ℕ) where
  abbrev folder : Folder
  folder = record { tree = t; path = path }

  one_linked : (name : List ℕ) (n : Option Node) (rest : List FollowedLink) → node_at t (join path name) ≡ n → AreLinked folder rest
      → AreLinked folder (cons_option (link_with t path name n) rest)
  one_linked name None rest e all = all
  one_linked name (Some node.Dir) rest e all = all
  one_linked name (Some (node.File key id)) rest e all = all
  one_linked name (Some (node.Link target)) rest e all =
      let link : FollowedLink = record { name = name; target = target; file = file_at t (join path name) } in
      elim (is_library_name name) as (λ b. AreLinked folder (cons_option (cond b (Some link) None) rest)) [ true ↦ (e, all) | false ↦ all ]

  names_linked : (names : List (List ℕ)) → AreLinked folder (filter_map (followed_by t path) names)
  names_linked [] = tt
  names_linked (name ∷ names) = one_linked name (node_at t (join path name)) (filter_map (followed_by t path) names) refl (names_linked names)

  pub all_linked : AreLinked folder (followed_in t path)
  all_linked = names_linked (children_of t path)

-- ---- the links that are left

pub all_left : (links : List FollowedLink) → AreLeftOf links links
all_left links = λ folder h. h

-- the links after the first, if there is one
pub rest_left : (links left rest : List FollowedLink) (first : Option FollowedLink) → AreLeftOf links left → YieldsFirstBy (λ x. x) (λ s. s) left first rest → AreLeftOf links rest
rest_left links left rest (Some link) are first = λ folder h. (subst (AreLinked folder) first (are folder h)).1
rest_left links left rest None are first = λ folder h. subst (AreLinked folder) (sym first.1) tt

-- the target of the first link that is left, if it has this name
pub first_target : (links left : List FollowedLink) (link : FollowedLink) (name : List ℕ) → AreLeftOf links left → slice_get left 0 ≡ Some link
    → slice_cmp nat_cmp link.name name ≡ Equal → IsTargetAmong links name link.target
first_target links [] link name are first tied = absurd (cc)
first_target links (x ∷ left) link name are first tied = λ folder h.
    let here : x ≡ link = cc in
    let same : link.name ≡ name = same_text link.name name tied in
    subst (λ n. IsLinked folder n link.target) same (subst (λ (l : FollowedLink). IsLinked folder l.name l.target) here (are folder h).0)

-- ---- the directory that contains the links

pub still_linked : (folder : Folder) (links left : List FollowedLink) → AreLinked folder links → AreLeftOf links left → AreLinked folder left
still_linked folder links left h are = are folder h

pub target_there : (folder : Folder) (links : List FollowedLink) (name target text : List ℕ) → AreLinked folder links → IsTargetAmong links name target
    → bytes_eq target text ≡ links_to folder.tree (join folder.path name) text
target_there folder links name target text h is = sym (ap (is_link_to text) (is folder h))
