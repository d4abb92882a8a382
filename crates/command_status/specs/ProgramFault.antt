-- The fault line of a program whose file has a defect.
use Rattle.std.specs.Prelude.{ℕ, List, ◌++◌, codes}
use Rattle.lib_types.specs.declared.analysis.Defect.{Defect}
use Rattle.lib_types.specs.Defects.{defect_text}
use Rattle.update_report.specs.Lines.{line}

unfoldable pub program_fault : Defect → List ℕ
program_fault defect = line (codes "fault: BadProgram: " ++ defect_text defect)
