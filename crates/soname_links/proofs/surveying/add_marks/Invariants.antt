use Rattle.std.proofs.Common.{◌≡◌, ◌++◌, drop, map}
use Rattle.soname_links.specs.Marks.{mark}
use Rattle.soname_links.proofs.surveying.add_marks.Given as goal

-- the sonames that are left give the rest
abbrev pub invariant-loop-soname : goal.invariant-loop-soname
invariant-loop-soname l = l.marks ++ map (mark l.number) (drop l.soname-index l.sonames) ≡ l.fn.marks ++ map (mark l.number) l.sonames
