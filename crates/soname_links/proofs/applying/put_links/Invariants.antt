use Rattle.std.proofs.Common.{◌≡◌, drop, take}
use Rattle.soname_links.specs.Apply.{are_clear}
use Rattle.soname_links.specs.Plan.{with_links}
use Rattle.soname_links.proofs.applying.put_links.Given as goal

-- the first links were put, and those that are left give the whole and are as clear
abbrev pub invariant-loop-planned : goal.invariant-loop-planned
invariant-loop-planned l = record {
  first : l.tree ≡ with_links l.fn.tree (take l.planned-index l.plan);
  clear : are_clear l.tree (drop l.planned-index l.plan) ≡ are_clear l.fn.tree l.plan;
  rest : with_links l.tree (drop l.planned-index l.plan) ≡ with_links l.fn.tree l.plan;
}
