use Rattle.std.proofs.Common.{◌≡◌, ◌++◌, drop, filter}
use Rattle.looked_tree.proofs.listing.kept_in.Given as goal

-- the remaining names give the rest
abbrev pub invariant-loop-name : goal.invariant-loop-name
invariant-loop-name g l = l.kept ++ filter (g.T.NameTest.test l.test) (drop l.name-index l.names) ≡ filter (g.T.NameTest.test l.test) l.names
