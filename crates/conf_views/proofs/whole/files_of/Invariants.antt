use Rattle.std.proofs.Common.{◌≡◌, ◌++◌, map}
use Rattle.conf_views.specs.Files.{file_of}
use Rattle.conf_views.proofs.whole.files_of.Given as goal

-- the remaining results give the rest
abbrev pub invariant-loop-spelled : goal.invariant-loop-spelled
invariant-loop-spelled l = l.files.items ++ map (file_of l.tree) l.spelled-iterator ≡ map (file_of l.tree) l.fn.found.entries
