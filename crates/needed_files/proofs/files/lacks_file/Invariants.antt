use Rattle.std.proofs.Common.{◌≡◌, drop}
use Rattle.needed_files.specs.Needed.{lacks_file}
use Rattle.needed_files.proofs.files.lacks_file.Given as goal

-- the paths that are left decide
abbrev pub invariant-loop-path : goal.invariant-loop-path
invariant-loop-path l = lacks_file l.tree (drop l.path-index l.paths) ≡ lacks_file l.tree l.paths
