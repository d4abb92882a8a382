use Rattle.std.proofs.Common.{◌<◌, length, drop}
use Rattle.rpath_search.specs.Listed.{HasLast}
use Rattle.rpath_search.proofs.listing.loaders_of.Given as goal

-- the last object so far is the first of the remaining chain
abbrev pub invariant-loop-left : goal.invariant-loop-left
invariant-loop-left l = record { within : l.left < length l.owners; last : HasLast l.env (drop l.left l.owners) l.loaders }

abbrev pub decreases-loop-left : goal.decreases-loop-left
decreases-loop-left l = l.left
