use Rattle.std.proofs.Common.{◌≡◌, ◌++◌, drop, map}
use Rattle.sample_runs.specs.Run.{pair_of}
use Rattle.sample_runs.proofs.run.pairs_of.Given as goal

-- what is left gives the rest
abbrev pub invariant-loop-file : goal.invariant-loop-file
invariant-loop-file l = l.pairs.items ++ map pair_of (drop l.file-index l.files) ≡ map pair_of l.files
