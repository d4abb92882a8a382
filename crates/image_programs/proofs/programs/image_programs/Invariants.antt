use Rattle.std.proofs.Common.{◌≡◌, ◌++◌}
use Rattle.elf_dynamic.specs.Begun.{ReadsBy}
use Rattle.image_programs.specs.Programs.{image_programs, node_keys}
use Rattle.image_programs.proofs.programs.image_programs.Given as goal
use Rattle.tree_face.specs.Known.{IfKnown}
use Rattle.tree_face.specs.Store.{StoreState}
use Rattle.tree_face.specs.StoreUse.{Ending}

-- the paths so far and those of the nodes that are left are those of all nodes; so are the files that are opened
abbrev pub invariant-loop-path : goal.invariant-loop-path
invariant-loop-path g l = record {
  held : (g.S.Store.state l.store).held ≡ (g.S.Store.state l.fn.store).held;
  paths : IfKnown (g.S.Store.state l.fn.store).held (λ held. l.paths ++ image_programs held l.path-iterator ≡ image_programs held l.fn.tree);
  reads : (e : Ending) (new : StoreState)
      → ReadsBy (g.S.Store.state l.fn.store).held (node_keys l.path-iterator) e (g.S.Store.state l.store) new
      → ReadsBy (g.S.Store.state l.fn.store).held (node_keys l.fn.tree) e (g.S.Store.state l.fn.store) new;
}
