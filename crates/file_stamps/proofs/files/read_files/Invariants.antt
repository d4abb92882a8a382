use Rattle.library_files.specs.FoundFile.{AreFilesOf, paths_of}
use Rattle.file_stamps.proofs.files.read_files.Given as goal
use Rattle.file_stamps.specs.Reading.{HasRead}

-- the files so far were read, and the others are files of the tree
abbrev pub invariant-loop-file : goal.invariant-loop-file
invariant-loop-file g l = record {
  rest : AreFilesOf l.tree l.file-iterator.rest.items;
  read : HasRead l.tree l.loaded (g.S.Store.state l.fn.store).held (paths_of l.fn.found.items) (paths_of l.file-iterator.rest.items) l.fn.files l.files (g.S.Store.state l.fn.store) (g.S.Store.state l.store);
}
