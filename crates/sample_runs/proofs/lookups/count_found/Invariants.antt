use Rattle.std.proofs.Common.{◌≡◌, ◌+◌, drop}
use Rattle.std.specs.List.{count_by}
use Rattle.sample_runs.specs.Text.{is_found}
use Rattle.sample_runs.proofs.lookups.count_found.Given as goal

-- what is left gives the rest
abbrev pub invariant-loop-file : goal.invariant-loop-file
invariant-loop-file l = l.found + count_by (is_found l.cache) (drop l.file-index l.files) ≡ count_by (is_found l.cache) l.files
