use Rattle.std.proofs.Common.{◌≡◌, drop}
use Rattle.soname_links.specs.Apply.{is_plan}
use Rattle.soname_links.proofs.applying.is_plan.Given as goal

-- the links that are left decide
abbrev pub invariant-loop-planned : goal.invariant-loop-planned
invariant-loop-planned l = is_plan (drop l.planned-index l.plan) ≡ is_plan l.plan
