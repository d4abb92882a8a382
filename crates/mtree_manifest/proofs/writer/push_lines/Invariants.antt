use Rattle.std.proofs.Common.{◌≡◌, ◌++◌}
use Rattle.std.specs.List.{flat_map}
use Rattle.mtree_manifest.specs.Canon.{node_line}
use Rattle.manifest_words.specs.Range.{AreInRange}
use Rattle.mtree_manifest.proofs.writer.push_lines.Given as goal

-- adding the lines of the nodes that are left gives the result
abbrev pub invariant-loop-path : goal.invariant-loop-path
invariant-loop-path l = record {
  text : l.out.items ++ flat_map node_line l.path-iterator ≡ l.fn.out.items ++ flat_map node_line l.fn.tree;
  range : AreInRange l.path-iterator → AreInRange l.fn.tree;
}
