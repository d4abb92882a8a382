-- The result of looking up a path, if the content of the directory is known.
use Rattle.std.proofs.Common.{◌≡◌, ◌&&◌, ℕ, Bool, true, false, cond, List, Option, Some, None, is_none, sym}
use Rattle.std.specs.Option.{IsSomeAnd}
use Rattle.image_tree.specs.Paths.{is_path}
use Rattle.image_tree.specs.Tree.{Nodes, IsFullFor, node_at}
use Rattle.image_tree.specs.declared.node.Node.{Node}
use Rattle.root_folder.specs.Folder.{FolderContent}
use Rattle.root_tree.specs.SoFar.{IsFullAt, new_at}
use Rattle.tree_face.specs.Known.{IfKnown}

pub is_full : (known : Option FolderContent) (found : Option Node) (part : Nodes) (path : List ℕ) → IfKnown known (λ c. found ≡ new_at c.now part path)
    → IsSomeAnd found (λ node. IsFullFor part path node) → IfKnown known (λ c. IsFullAt c.now part path)
is_full None found part path new full = tt
is_full (Some c) None part path new full = absurd full
is_full (Some c) (Some node) part path new full = record { node = node; there = by (is_path path && is_none (node_at part path)) new; full = full }
  where
    by : (b : Bool) → Some node ≡ cond b (node_at c.now path) None → node_at c.now path ≡ Some node
    by true e = sym e
    by false e = absurd (cc)
