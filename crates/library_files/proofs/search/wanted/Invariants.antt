use Rattle.std.proofs.Common.{◌≡◌, ◌++◌}
use Rattle.library_files.specs.FoundFile.{paths_of}
use Rattle.library_files.specs.Search.{wanted}
use Rattle.library_files.proofs.search.wanted.Given as goal

-- the remaining files give the rest
abbrev pub invariant-loop-file : goal.invariant-loop-file
invariant-loop-file l = l.paths ++ paths_of l.file-iterator.rest.items ≡ wanted l.tree l.dirs.places
