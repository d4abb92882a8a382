-- The effect on an image of putting and removing a node.
use Rattle.std.proofs.Common.{◌≡◌, ℕ, List, Ok, rules}
use Rattle.image_tree.specs.declared.node.Node.{Node}
use Rattle.image_session.specs.Edit.{drop_result, put_result, with_node, without_node}
use Rattle.image_session.specs.Session.{Loaded}

-- after a node is put, the image has it
pub is_put : (image new : Loaded) (path : List ℕ) (node : Node) → put_result image path node ≡ Ok new → new ≡ with_node image path node
is_put image new path node = search rules

-- after a node is removed, the image doesn't have it
pub is_removed : (image new : Loaded) (path : List ℕ) → drop_result image path ≡ Ok new → new ≡ without_node image path
is_removed image new path = search rules
