use Rattle.std.proofs.Common.{◌≡◌, true, not, filter}
use Rattle.std.specs.List.{list_all, list_any}
use Rattle.image_tree.specs.Tree.{is_entry}
use Rattle.layer_union.proofs.layers.clear_all.Given as goal
use Rattle.layer_union.specs.Steps.{clears}

-- removing what the entries that are left clear gives the result
abbrev pub invariant-loop-path : goal.invariant-loop-path
invariant-loop-path l = record {
  rest : filter (λ e. not (list_any (λ r. clears r e) l.path-iterator)) l.tree ≡ filter (λ e. not (list_any (λ r. clears r e) l.fn.layer)) l.fn.tree;
  entries : list_all is_entry l.path-iterator ≡ true;
}
