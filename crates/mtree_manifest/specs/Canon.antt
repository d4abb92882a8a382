-- The canonical text of a tree: one line for each node (mtree(5)).
use Rattle.std.specs.Prelude.{ℕ, List, [], ◌∷◌, ◌++◌, codes, drop, flat_map, if◌then◌else◌, Option, Some, None, decimal}
use Rattle.std.specs.Str.{bytes_eq}
use Rattle.image_tree.specs.declared.node.Id.{Id}
use Rattle.image_tree.specs.declared.node.Node.{Node}
use Rattle.image_tree.specs.declared.node.Node.TheVariants.{Dir, File, Link}
use Rattle.image_tree.specs.Tree.{Nodes}
use Rattle.manifest_words.specs.Escape.{escaped}

abbrev pub id_words : Option Id → List ℕ
id_words None = []
id_words (Some id) =
    codes " dev=" ++ decimal id.dev ++ codes " inode=" ++ decimal id.inode
    ++ codes " ctime=" ++ decimal id.ctime ++ codes " size=" ++ decimal id.size

-- a key that is not the path without its first slash
abbrev pub key_words : List ℕ → List ℕ → List ℕ
key_words path key = if bytes_eq key (drop 1 path) then [] else codes " contents=" ++ escaped key

abbrev pub file_words : List ℕ → List ℕ → Option Id → List ℕ
file_words path key id = codes " type=file" ++ id_words id ++ key_words path key

abbrev pub node_words : List ℕ → Node → List ℕ
node_words path Dir = codes " type=dir"
node_words path (File key id) = file_words path key id
node_words path (Link target) = codes " type=link link=" ++ escaped target

abbrev pub node_line : List ℕ × Node → List ℕ
node_line e = codes "." ++ escaped e.0 ++ node_words e.0 e.1 ++ 10 ∷ []

unfoldable pub canon : Nodes → List ℕ
canon t = codes "#mtree" ++ 10 ∷ flat_map node_line t
