use Rattle.std.proofs.Common.{◌≡◌, drop}
use Rattle.asking_runs.specs.Listings.{first_fault}
use Rattle.asking_runs.proofs.listings.first_fault.Given as goal

-- the programs that are left decide
abbrev pub invariant-loop-program : goal.invariant-loop-program
invariant-loop-program l = first_fault (drop l.program-index l.programs) ≡ first_fault l.programs
