-- Entries that come after a path, and the last entries of a list.
use Rattle.std.specs.Prelude.{◌≡◌, ℕ, List, ◌∷◌, ◌++◌}
use Rattle.std.specs.List.Sorted.{IsStrictlySortedBy}
use Rattle.std.specs.Map.{keys_of}
use Rattle.image_tree.specs.Paths.{path_cmp}
use Rattle.image_tree.specs.Tree.{Nodes}
use Rattle.image_tree.specs.declared.node.Node.{Node}

-- the entries are sorted, and all come after the path
abbrev pub AreSortedAfter : List ℕ → Nodes → Type 0
AreSortedAfter path t = IsStrictlySortedBy path_cmp (path ∷ keys_of t)

-- `last` is the end of the list, and its first entry is e
pub record EndsWith (t : Nodes) (e : List ℕ × Node) (last : Nodes) : Type 0 where
  pub front : Nodes
  pub more : Nodes
  pub whole : t ≡ front ++ last
  pub first : last ≡ e ∷ more
