use Rattle.std.proofs.Common.{◌≡◌, drop, take}
use Rattle.layer_union.proofs.layers.union.Given as goal
use Rattle.layer_union.specs.Union.{AreSound, IsUnion}

-- the tree is the union of the layers so far, which are sound
abbrev pub invariant-loop-index : goal.invariant-loop-index
invariant-loop-index l = record {
  rest : l.index-iterator.iter.rest.items ≡ drop l.index-iterator.count l.fn.layers;
  union : IsUnion (take l.index-iterator.count l.fn.layers) l.tree;
  sound : AreSound l.fn.layers l.index-iterator.count;
}
