use Rattle.std.proofs.Common.{◌≡◌, ◌≤◌, ◌-◌, ◌++◌}
use Rattle.sample_runs.specs.Files.{files_from}
use Rattle.sample_runs.proofs.files.sample_files.Given as goal

-- what is left gives the rest
abbrev pub invariant-loop-index : goal.invariant-loop-index
invariant-loop-index l = (l.index ≤ l.n) × (l.files.items ++ files_from l.state l.index (l.n - l.index) ≡ files_from l.n 0 l.n)
