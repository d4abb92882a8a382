use Rattle.std.proofs.Common.{◌≡◌, ◌++◌, drop}
use Rattle.needed_files.specs.Interpreters.{ReadsPrograms, interpreters, program_keys}
use Rattle.needed_files.proofs.interpreters.interpreters.Given as goal
use Rattle.tree_face.specs.Known.{IfKnown}
use Rattle.tree_face.specs.Store.{StoreState}
use Rattle.tree_face.specs.StoreUse.{Ending}

-- the interpreters so far and those of the programs that are left are those of all programs; so are the files that are opened
abbrev pub invariant-loop-program : goal.invariant-loop-program
invariant-loop-program g l = record {
  held : (g.S.Store.state l.store).held ≡ (g.S.Store.state l.fn.store).held;
  paths : IfKnown (g.S.Store.state l.fn.store).held (λ held. l.paths ++ interpreters held l.tree (drop l.program-index l.programs) ≡ interpreters held l.tree l.programs);
  reads : (e : Ending) (new : StoreState)
      → ReadsPrograms (g.S.Store.state l.fn.store).held (program_keys l.tree (drop l.program-index l.programs)) e (g.S.Store.state l.store) new
      → ReadsPrograms (g.S.Store.state l.fn.store).held (program_keys l.tree l.programs) e (g.S.Store.state l.fn.store) new;
}
