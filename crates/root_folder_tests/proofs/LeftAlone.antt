-- A link whose directory was flushed after it was made.
use Rattle.std.proofs.Common.{◌≡◌, ℕ, true, List, refl, ap, sym, ◌∙◌, Option, Some, None, Result, Ok, Err, OnOk}
use Rattle.std.proofs.lemmas.Slice.Eq.{bytes_eq-Decides}
use Rattle.lib_types.specs.declared.fault.Failed.{Failed}
use Rattle.image_tree.specs.Tree.{Nodes, node_at}
use Rattle.image_tree.specs.declared.node.Node.TheVariants.{Link}
use Rattle.path_walk.specs.Names.{parent}
use Rattle.tree_face.specs.Known.{IfKnown, Relates}
use Rattle.root_folder.proofs.Crash.{leaves_on, link_leaves, settling_leaves}
use Rattle.image_tree.proofs.OneMore.{put_here}
use Rattle.root_folder.specs.Crash.{AddsLink, HasMoments, Leaves, Settles, is_link_to}
use Rattle.root_folder.specs.Folder.{FolderContent, FolderState, Links, SettlesIn}
use Rattle.root_folder.specs.Found.{Found, found_eq}
use Rattle.root_folder.specs.Whole.{is_in}
use Rattle.root_folder_tests.specs.Links.{IsLeftAlone, IsLinkAt}

module _ (path target : List ℕ) (a b c : FolderState) (dir : List ℕ) (is : dir ≡ parent path) where
  left_alone : (x y z : Option FolderContent) → Relates (Links path target) x y → Relates (SettlesIn dir) y z
      → IfKnown y (λ k. (p : List ℕ) (f : Found) → is_in dir p ≡ true → c.may p f ≡ found_eq (node_at k.now p) f)
      → IfKnown z (λ k. (f : Found) → c.may path f ≡ is_link_to target f)
  left_alone None None None linked settled left = tt
  left_alone None None (Some z) linked settled left = absurd settled
  left_alone None (Some y) z linked settled left = absurd linked
  left_alone (Some x) None z linked settled left = absurd linked
  left_alone (Some x) (Some y) None linked settled left = absurd settled
  left_alone (Some x) (Some y) (Some z) linked settled left = λ f.
      left path f ((bytes_eq-Decides (parent path) dir).1 (sym is))
      ∙ ap (λ (t : Nodes). found_eq (node_at t path) f) linked.now
      ∙ ap (λ (n : Found). found_eq n f) (put_here path (Link target) x.now)

  pub durable : (r : Result (Unit {0}) Failed) → Relates (Links path target) a.contents b.contents → OnOk r (Relates (SettlesIn dir) b.contents c.contents)
      → Settles dir b c r → OnOk r (IsLeftAlone path target c)
  durable (Ok u) linked settled settles = left_alone a.contents b.contents c.contents linked settled settles.done
  durable (Err e) linked settled settles = tt

  pub both_leave : (r s : Result (Unit {0}) Failed) (laws : HasMoments b) → AddsLink path target a b r → Settles dir b c s → Leaves (IsLinkAt path target) a c
  both_leave r s laws adds settles =
      leaves_on (IsLinkAt path target) a b c (link_leaves (IsLinkAt path target) a b path target (refl, refl) r adds) (settling_leaves (IsLinkAt path target) b c dir laws s settles)

pub link_leave : (path target : List ℕ) (a b : FolderState) (r : Result (Unit {0}) Failed) → AddsLink path target a b r → Leaves (IsLinkAt path target) a b
link_leave path target a b r adds = link_leaves (IsLinkAt path target) a b path target (refl, refl) r adds
