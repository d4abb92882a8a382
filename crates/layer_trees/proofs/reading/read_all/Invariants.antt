use Rattle.std.proofs.Common.{List, [], Result, drop}
use Rattle.image_tree.specs.Tree.{Nodes}
use Rattle.tree_face.specs.Store.{StoreState}
use Rattle.layer_trees.specs.Steps.{ReadsRest}
use Rattle.layer_trees.specs.declared.fault.LayersFault.{LayersFault}
use Rattle.layer_trees.proofs.reading.read_all.Given as goal

-- reading the layers that are left completes a reading of all
abbrev pub invariant-loop-key : goal.invariant-loop-key
invariant-loop-key g l =
    (result : Result (List Nodes) LayersFault) (new : StoreState)
    → ReadsRest l.trees (drop l.key-index l.keys) result (g.S.Store.state l.store) new
    → ReadsRest [] l.fn.keys result (g.S.Store.state l.fn.store) new
