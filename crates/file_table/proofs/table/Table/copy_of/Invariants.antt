use Rattle.std.proofs.Common.{take}
use Rattle.file_table.proofs.Copied.{IsCopied}
use Rattle.file_table.specs.Table.{analysis_at}
use Rattle.file_table.proofs.table.Table.copy_of.Given as goal

-- the paths so far are copied
abbrev pub invariant-loop-path : goal.invariant-loop-path
invariant-loop-path l = IsCopied (analysis_at l.self) (take l.path-index l.paths) l.copy
