-- What is at the path of a wanted link, by its node and, where there is none, by its kind.
use Rattle.std.proofs.Common.{◌≡◌, ℕ, Bool, true, false, cond, ◌||◌, nat_lt, List, length, refl, ap, ◌∙◌, Option, Some, None}
use Rattle.image_tree.specs.Paths.{is_path}
use Rattle.image_tree.specs.Tree.{Nodes, kind_at, kind_of, node_at}
use Rattle.image_tree.specs.declared.node.Node.{Node}
use Rattle.image_tree.specs.declared.node.Node.TheVariants as nodes
use Rattle.image_tree.specs.declared.path.TheConstants.{PATH_MAX}
use Rattle.path_walk.proofs.KindsAt.{kind_of_node}
use Rattle.library_files.specs.Places.{is_link_to}
use Rattle.soname_links.specs.Plan.{is_taken}
use Rattle.soname_links.specs.Survey.{spot_at, spot_by}
use Rattle.soname_links.specs.declared.surveying.Spot.TheVariants.{Blocked, Linked, Free}

by_kind : (file : List ℕ) (node : Node) → cond (is_taken (kind_of node)) Blocked (cond (is_link_to file (Some node)) Linked Free) ≡ spot_by file node
by_kind file nodes.Dir = refl
by_kind file (nodes.File key id) = refl
by_kind file (nodes.Link target) = refl

module _ (t : Nodes) (path file : List ℕ) where
  pub spot_long : nat_lt PATH_MAX (length path) ≡ true → spot_at t path file ≡ Blocked
  spot_long long = ap (λ b. cond (b || is_taken (kind_at t path)) Blocked (cond (is_link_to file (node_at t path)) Linked Free)) long

  module _ (short : nat_lt PATH_MAX (length path) ≡ false) where
    by_parts : (taken : Bool) (found : Option Node) → is_taken (kind_at t path) ≡ taken → node_at t path ≡ found
        → spot_at t path file ≡ cond taken Blocked (cond (is_link_to file found) Linked Free)
    by_parts taken found k n =
        ap (λ b. cond (b || is_taken (kind_at t path)) Blocked (cond (is_link_to file (node_at t path)) Linked Free)) short
        ∙ ap (λ b. cond b Blocked (cond (is_link_to file (node_at t path)) Linked Free)) k
        ∙ ap (λ o. cond taken Blocked (cond (is_link_to file o) Linked Free)) n

    -- the node tells all
    pub spot_of_node : (node : Node) → node_at t path ≡ Some node → is_path path ≡ true → spot_at t path file ≡ spot_by file node
    spot_of_node node n proper = by_parts (is_taken (kind_of node)) (Some node) (ap is_taken (kind_of_node t path node proper n)) n ∙ by_kind file node

    -- without a node only a directory is in the way
    pub spot_without : (taken : Bool) → node_at t path ≡ None → is_taken (kind_at t path) ≡ taken → spot_at t path file ≡ cond taken Blocked Free
    spot_without taken n k = by_parts taken None k n
