-- Paths that are stored as parts of one text.
use Rattle.std.specs.Prelude.{ℕ, List, map}
use Rattle.std.specs.List.{AllByRecursion}
use Rattle.lib_types.specs.Part.{part_of, IsWithin}
use Rattle.lib_types.specs.declared.part.Part.{Part}
use Rattle.image_tree.specs.Tree.{Nodes}
use Rattle.image_tree.specs.declared.node.Node.{Node}
use Rattle.image_tree.specs.declared.tree.row.Row.{Row}

abbrev pub AreWithin : ℕ → List Part → Type 0
AreWithin count parts = AllByRecursion (IsWithin count) parts

abbrev pub parts_in_rows : List Row → List Part
parts_in_rows rows = map (λ row. row.part) rows

abbrev pub nodes_of : List Row → List Node
nodes_of rows = map (λ row. row.node) rows

abbrev pub entry_in : List ℕ → Row → List ℕ × Node
entry_in text row = (part_of text row.part, row.node)

abbrev pub entries_in : List ℕ → List Row → Nodes
entries_in text rows = map (entry_in text) rows
