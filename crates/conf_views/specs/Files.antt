-- The files that a path or a pattern of a conf file leads to, with their keys (ldconfig(8), path_resolution(7)).
use Rattle.std.specs.Prelude.{ℕ, List, map, Option, Some, None, option_map}
use Rattle.conf_patterns.specs.Patterns.{Found, found_at, results}
use Rattle.conf_views.specs.declared.view.FoundFile.{FoundFile}
use Rattle.image_tree.specs.Tree.{Nodes, node_at}
use Rattle.image_tree.specs.declared.node.Node.{Node}
use Rattle.image_tree.specs.declared.node.Node.TheVariants as node

-- the key of the file that a path resolves to; None if the path resolves to a directory
abbrev pub key_in : Option Node → Option (List ℕ)
key_in (Some (node.File key id)) = Some key
key_in (Some node.Dir) = None
key_in (Some (node.Link target)) = None
key_in None = None

abbrev pub file_with : Found → Option (List ℕ) → FoundFile
file_with f key = record { spelled = f.0; real = f.1; key = key }

-- a path with the path that it resolves to, and the key of the file there
abbrev pub file_of : Nodes → Found → FoundFile
file_of t f = file_with f (key_in (node_at t f.1))

abbrev pub file_at : Nodes → List ℕ → Option FoundFile
file_at t text = option_map (file_of t) (found_at t text)

-- the results of a pattern in a file
abbrev pub files : Nodes → List ℕ → List ℕ → List FoundFile
files t file pattern = map (file_of t) (results t file pattern)
