use Rattle.std.proofs.Common.{◌≡◌, ◌+◌, ◌≤◌, drop, length}
use Rattle.soname_links.specs.Apply.{new_paths}
use Rattle.soname_links.proofs.applying.count_compared.Given as goal

-- the links that are left give the rest
abbrev pub invariant-loop-i : goal.invariant-loop-i
invariant-loop-i l = record {
  rest : l.count + length (new_paths l.tree (drop l.i l.plan)) ≡ length (new_paths l.tree l.plan);
  few : l.count ≤ l.i;
}
