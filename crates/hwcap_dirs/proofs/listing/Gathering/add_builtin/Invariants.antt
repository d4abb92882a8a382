use Rattle.std.proofs.Common.{◌≡◌, drop, length}
use Rattle.hwcap_dirs.specs.Gathering.{all_places}
use Rattle.hwcap_dirs.specs.Places.{builtin_dirs}
use Rattle.hwcap_dirs.proofs.listing.Gathering.add_builtin.Given as goal

-- the remaining directories give the rest
abbrev pub invariant-loop-dir : goal.invariant-loop-dir
invariant-loop-dir l =
    all_places l.tree l.self.met l.self.places (drop l.done (builtin_dirs l.scope)) ≡ all_places l.tree l.fn.self.met l.fn.self.places (builtin_dirs l.scope)

abbrev pub decreases-loop-dir : goal.decreases-loop-dir
decreases-loop-dir l = length (drop l.done (builtin_dirs l.scope))
