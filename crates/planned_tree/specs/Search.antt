-- A search of a tree that gives the same as that of another one.
use Rattle.std.specs.Prelude.{◌≡◌, ℕ, List, Option, Some, None}
use Rattle.hwcap_dirs.specs.Places.{places}
use Rattle.hwcap_dirs.specs.declared.kinds.Scope.{Scope}
use Rattle.ldso_conf.specs.Reading.{Source, conf_items}
use Rattle.tree_face.specs.Store.{Contents}
use Rattle.image_tree.specs.Tree.{Nodes, node_at}
use Rattle.image_tree.specs.declared.node.Id.{Id}
use Rattle.image_tree.specs.declared.node.Node.{Node}
use Rattle.image_tree.specs.declared.node.Node.TheVariants as node

-- a file: its key, and its identity if it has one
abbrev pub file_in : Option Node → Option (List ℕ × Option Id)
file_in (Some (node.File key id)) = Some (key, id)
file_in (Some node.Dir) = None
file_in (Some (node.Link target)) = None
file_in None = None

-- whatever the contents, the source, the scope and the directories, the conf files are read the same and the places are the same; each path has the same file
pub record IsSearchedAlike (t new : Nodes) : Type 0 where
  pub conf : (source : Source) (held : Contents) → conf_items source held new ≡ conf_items source held t
  pub places : (scope : Scope) (dirs : List (List ℕ)) → places scope new dirs ≡ places scope t dirs
  pub files : (path : List ℕ) → file_in (node_at new path) ≡ file_in (node_at t path)
