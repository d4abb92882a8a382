use Rattle.std.proofs.Common.{◌≡◌, true}
use Rattle.std.specs.List.{list_all}
use Rattle.image_tree.proofs.Clear.{AreClear}
use Rattle.image_tree.specs.Tree.{is_entry}
use Rattle.layer_union.proofs.layers.put_all.Given as goal
use Rattle.layer_union.specs.Steps.{IsFree, all_put}

-- putting the nodes that are left gives the result
abbrev pub invariant-loop-path : goal.invariant-loop-path
invariant-loop-path l = record {
  rest : all_put l.tree l.path-iterator ≡ all_put l.fn.tree l.fn.layer;
  free : IsFree l.tree l.path-iterator;
  clear : AreClear l.path-iterator l.path-iterator;
  entries : list_all is_entry l.path-iterator ≡ true;
}
