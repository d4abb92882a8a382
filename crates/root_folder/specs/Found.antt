-- What is at a path: a node, or nothing.
use Rattle.std.specs.Prelude.{◌==◌, ◌&&◌, Bool, true, false, Option}
use Rattle.std.specs.Option.{option_eq}
use Rattle.std.specs.Str.{bytes_eq}
use Rattle.image_tree.specs.declared.node.Id.{Id}
use Rattle.image_tree.specs.declared.node.Node.{Node}
use Rattle.image_tree.specs.declared.node.Node.TheVariants.{Dir, File, Link}

abbrev pub Found : Type 0
Found = Option Node

abbrev pub id_eq : Id → Id → Bool
id_eq a b = (a.dev == b.dev) && (a.inode == b.inode) && (a.ctime == b.ctime) && (a.size == b.size)

abbrev pub node_eq : Node → Node → Bool
node_eq Dir Dir = true
node_eq (File key id) (File other its) = bytes_eq key other && option_eq id_eq id its
node_eq (Link target) (Link other) = bytes_eq target other
node_eq _ _ = false

abbrev pub found_eq : Found → Found → Bool
found_eq = option_eq node_eq
