use Rattle.std.proofs.Common.{◌≡◌, take}
use Rattle.root_jobs.proofs.job.only.Given as goal

-- the directories before the index are copied
abbrev pub invariant-loop-dir : goal.invariant-loop-dir
invariant-loop-dir l = l.dirs ≡ take l.dir-index l.fn.given
