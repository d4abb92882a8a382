use Rattle.std.proofs.Common.{◌≡◌}
use Rattle.ldso_conf.proofs.CommandLine.{all_given, with_rest}
use Rattle.ldso_conf.specs.Visits.{nothing_read, with_items}
use Rattle.ldso_conf.proofs.given.given_dirs.Given as goal

-- the remaining directories give the rest
abbrev pub invariant-loop-dir : goal.invariant-loop-dir
invariant-loop-dir l = with_rest l.reader l.dir-index l.dirs ≡ with_items nothing_read (all_given l.fn.dirs)
