use Rattle.std.proofs.Common.{◌≡◌, ◌++◌, take, drop, length}
use Rattle.image_tree.specs.OneText.{nodes_of, parts_in_rows}
use Rattle.image_tree.proofs.tree.run.set_parts.Given as goal

abbrev pub invariant-loop-i : goal.invariant-loop-i
invariant-loop-i l = record {
  parts : parts_in_rows l.rows.items ≡ take l.i l.parts.items ++ drop l.i (parts_in_rows l.fn.rows.items);
  nodes : nodes_of l.rows.items ≡ nodes_of l.fn.rows.items;
  count : length l.rows.items ≡ length l.parts.items;
}
